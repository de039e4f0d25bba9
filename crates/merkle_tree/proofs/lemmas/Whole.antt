-- What is shown of each level, of whole trees.
use Rattle.std.proofs.Common.{◌≡◌, ℕ, zero, suc, ◌+◌, ◌<◌, ◌≤◌, ◌^◌, List, [], ◌∷◌, length}
use Rattle.std.proofs.Common.{take, drop, sym, ◌∙◌, ap, subst, arith, append-nil, inl, inr}
use Rattle.std.proofs.lemmas.Bool.{cases_lt}
use Rattle.std.proofs.lemmas.List.Elements.{All-append, All-cons, All-drop, All-nil, All-take}
use Rattle.std.specs.List.{All}
use Rattle.std.specs.Prelude.{IfSome}
use Rattle.std.specs.Option.{option_map}
use Rattle.std.specs.declared.option.Option.{Option}
use Rattle.std.specs.declared.option.Option.TheVariants.{None, Some}
use Rattle.merkle_tree.specs.Tree.{IsDigest, tree_at, tree_root}
use Rattle.merkle_tree.specs.Shown.{AreDigests, Found, IsAscending, LieWithin, beside, beside_at}
use Rattle.merkle_tree.specs.Shown.{count_before, found, found_at, found_in, shown_of}
use Rattle.merkle_tree.specs.Collision.{ShowsLeaves, checked_of, nodes_of}
use Rattle.merkle_tree.specs.declared.shown.Shown.{Shown}
use Rattle.merkle_tree.specs.declared.shown.Part.{Part}
use Rattle.merkle_tree.proofs.lemmas.Sound.{sound_at, tree_is_digest}
use Rattle.merkle_tree.proofs.lemmas.Steps.{beside_nothing, beside_skip, beside_split, beside_zero}
use Rattle.merkle_tree.proofs.lemmas.Complete.{complete_at}

pub shows_leaves : (count : ℕ) (shown : List Shown) (digests : List (List ℕ)) (f : Found) → All IsDigest digests → AreDigests shown → 0 < count → count ≤ 2 ^ 64
    → found count shown digests ≡ Some f → ShowsLeaves count shown digests f.root
unfolding ShowsLeaves found tree_root checked_of nodes_of
shows_leaves count shown digests f digests_are shown_are some few e = λ leaves leaves_are len same.
    sound_at 64 0 count shown digests f leaves digests_are shown_are leaves_are len some few e (sym same)

pub part_shows : (count : ℕ) (shown : List Shown) (digests : List (List ℕ)) (part : Option Part) → count ≤ 2 ^ 64 → option_map found_in part ≡ found count shown digests
    → All IsDigest digests → AreDigests shown → 0 < count → IfSome part (λ p. ShowsLeaves count shown digests p.root)
part_shows count shown digests None few e digests_are shown_are some = tt
part_shows count shown digests (Some p) few e digests_are shown_are some = shows_leaves count shown digests (found_in p) digests_are shown_are some few (sym e)

pub gives_root : (leaves : List (List ℕ)) (places : List ℕ) → length leaves ≤ 2 ^ 64 → IsAscending places → LieWithin 0 (length leaves) places
    → found (length leaves) (shown_of leaves places) (beside leaves places) ≡ Some (record { root = tree_root leaves; left = [] })
unfolding found beside tree_root
gives_root leaves places few ascending lie =
    ap (λ (d : List (List ℕ)). found_at 64 0 (length leaves) (shown_of leaves places) d) (sym (append-nil (beside_at 64 0 leaves places)))
    ∙ complete_at 64 leaves places few ascending lie

pub found_complete : (count : ℕ) (shown : List Shown) (digests : List (List ℕ)) → count < 2 ^ 64 → (leaves : List (List ℕ)) (places : List ℕ) → length leaves ≡ count → IsAscending places
    → LieWithin 0 count places → shown ≡ shown_of leaves places → digests ≡ beside leaves places → found count shown digests ≡ Some (record { root = tree_root leaves; left = [] })
found_complete count shown digests few leaves places long ascending lie are is =
    ap (λ (c : ℕ). found c shown digests) (sym long) ∙ ap (λ (s : List Shown). found (length leaves) s digests) are
    ∙ ap (λ (d : List (List ℕ)). found (length leaves) (shown_of leaves places) d) is
    ∙ gives_root leaves places (omega arith) ascending (subst (λ (n : ℕ). LieWithin 0 n places) (sym long) lie)

pub exact : (count : ℕ) (shown : List Shown) (digests : List (List ℕ)) (o : Option Found) → o ≡ found_at 64 0 count shown digests → o ≡ found count shown digests
unfolding found
exact count shown digests o e = e

-- digests beside some of a tree's leaves are digests where the leaves are
abbrev AreBeside : ℕ → Type 0
AreBeside level = (base : ℕ) (leaves : List (List ℕ)) (places : List ℕ) → All IsDigest leaves
    → All IsDigest (beside_at level base leaves places)

one_digest : (level base : ℕ) (leaves : List (List ℕ)) → All IsDigest leaves
    → All IsDigest (beside_at level base leaves [])
one_digest level base leaves each =
    subst (λ (l : List (List ℕ)). All IsDigest l) (sym (beside_nothing level base leaves))
    (All-cons IsDigest (tree_at level leaves) [] (tree_is_digest level leaves each) (All-nil IsDigest))

of_halves : (level : ℕ) → AreBeside level → AreBeside (suc level)
of_halves level lower base leaves [] each = one_digest (suc level) base leaves each
of_halves level lower base leaves (first ∷ rest) each =
    let n = count_before (base + 2 ^ level) (first ∷ rest) in
    elim (cases_lt (2 ^ level) (length leaves)) [
      | inl more ↦
          subst (λ (l : List (List ℕ)). All IsDigest l) (sym (beside_split level base leaves first rest more))
          (All-append IsDigest _ _
          (lower base (take (2 ^ level) leaves) (take n (first ∷ rest)) (All-take IsDigest (2 ^ level) leaves each))
          (lower (base + 2 ^ level) (drop (2 ^ level) leaves) (drop n (first ∷ rest))
          (All-drop IsDigest (2 ^ level) leaves each)))
      | inr fits ↦
          subst (λ (l : List (List ℕ)). All IsDigest l) (sym (beside_skip level base leaves first rest fits))
          (lower base leaves (first ∷ rest) each)
    ]

are_beside : (level : ℕ) → AreBeside level
are_beside zero base leaves [] each = one_digest zero base leaves each
are_beside zero base leaves (first ∷ rest) each =
    subst (λ (l : List (List ℕ)). All IsDigest l)
    (sym (beside_zero base leaves (first ∷ rest) (λ e. absurd (omega (arith, e))))) (All-nil IsDigest)
are_beside (suc level) base leaves places each = of_halves level (are_beside level) base leaves places each

pub beside_are_digests : (leaves : List (List ℕ)) (places : List ℕ) → All IsDigest leaves
    → All IsDigest (beside leaves places)
unfolding beside
beside_are_digests leaves places each = are_beside 64 0 leaves places each
