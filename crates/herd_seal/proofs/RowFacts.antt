-- Rows in a list, and lists that grow.
use Rattle.std.proofs.Common.{◌≡◌, ◌⊎◌, ◌∙◌, ℕ, zero, suc, ◌+◌, ◌-◌, ◌<◌, ◌≤◌, List, [], ◌∷◌, ◌++◌, length, take, slice_get, Option, Some, refl, sym, ap, subst, inl, inr, arith, append_assoc, length-append}
use Rattle.std.proofs.lemmas.Option.{get_or_from_slice_get, slice_get_within, slice_get-map}
use Rattle.std.proofs.lemmas.List.{length-map}
use Rattle.std.specs.List.{AllWithin}
use Rattle.std.proofs.lemmas.Bool.{cases_lt}
use Rattle.std.specs.Option.{option_map}
use Rattle.merkle_tree.specs.Tree.{digests_of, row_digest, tree_root}
use Rattle.herd_frozen.specs.declared.freezing.frozen.Row.{Row}
use Rattle.herd_lineage.specs.declared.lineage.Parents.{Parents}
use Rattle.herd_seal.specs.Seal.{row_text, rows_of, seal_of, seal_over}
use Rattle.herd_seal.specs.Certificate.{AreLinked, DoAscend, IsBehind, IsLink}
use Rattle.herd_seal.specs.CheckFaults.{AscendTo}
use Rattle.herd_seal.specs.declared.certificate.CertifiedRow.{CertifiedRow}

pub four_pieces : (a b c d : List ℕ) → ((a ++ b) ++ c) ++ d ≡ a ++ (b ++ (c ++ d))
four_pieces a b c d = append_assoc (a ++ b) c d ∙ append_assoc a b (c ++ d)

pub ascend_start : (rows : List CertifiedRow) → AscendTo rows 1
ascend_start rows = λ i j one two low high at_one at_two. absurd (omega arith)

pub there_before : (rows : List CertifiedRow) (n : ℕ) (two : CertifiedRow) → slice_get rows n ≡ Some two → (i : ℕ) → i < n → (one : CertifiedRow) × (slice_get rows i ≡ Some one)
there_before [] n two e i low = absurd (cc)
there_before (row ∷ rows) zero two e i low = absurd (omega arith)
there_before (row ∷ rows) (suc n) two e zero low = (row, refl)
there_before (row ∷ rows) (suc n) two e (suc i) low = there_before rows n two e i (omega arith)

pub ascend_step : (rows : List CertifiedRow) (n : ℕ) → 0 < n → AscendTo rows n → IsBehind rows n → AscendTo rows (n + 1)
ascend_step rows n some before behind = λ i j one two low high at_one at_two.
    elim (cases_lt j n) [
      | inl earlier ↦ before i j one two low earlier at_one at_two
      | inr last ↦
          (let here : j ≡ n = omega arith in
          let at_n : slice_get rows n ≡ Some two = ap (λ (k : ℕ). slice_get rows k) (sym here) ∙ at_two in
          let previous = there_before rows n two at_n (n - 1) (omega arith) in
          let step : previous.0.place < two.place = behind previous.0 two previous.1 at_n in
          elim (cases_lt i (n - 1)) [
            | inl further ↦
                (let up : one.place < previous.0.place = before i (n - 1) one previous.0 further (omega arith) at_one previous.1 in omega arith)
            | inr next ↦
                (let same : i ≡ n - 1 = omega arith in
                let both : Some one ≡ Some previous.0 = sym at_one ∙ (ap (λ (k : ℕ). slice_get rows k) same ∙ previous.1) in
                let equal : one ≡ previous.0 = cc in
                subst (λ (r : CertifiedRow). r.place < two.place) (sym equal) step)
          ])
    ]

pub ascend_whole : (rows : List CertifiedRow) (n : ℕ) → length rows ≤ n → AscendTo rows n → DoAscend rows
ascend_whole rows n long before = λ i j one two low at_one at_two.
    let within = slice_get_within rows j two at_two in before i j one two low (omega arith) at_one at_two

-- one more element
one_more : {Y : Type 0} (zs : List Y) (n : ℕ) (y : Y) → slice_get zs n ≡ Some y → take n zs ++ (y ∷ []) ≡ take (n + 1) zs
one_more [] n y e = absurd (cc)
one_more {Y} (z ∷ zs) zero y e = let same : z ≡ y = cc in ap (λ (x : Y). x ∷ []) (sym same)
one_more {Y} (z ∷ zs) (suc n) y e =
    let next : suc n + 1 ≡ suc (n + 1) = omega arith in
    ap (λ (l : List Y). z ∷ l) (one_more zs n y e) ∙ ap (λ (m : ℕ). take m (z ∷ zs)) (sym next)

pub take_next : {Y : Type 0} (zs : List Y) (n : ℕ) (y : Y) (old new : List Y) → old ≡ take n zs → slice_get zs n ≡ Some y → new ≡ old ++ (y ∷ []) → new ≡ take (n + 1) zs
take_next zs n y old new is at grown = grown ∙ ap (λ l. l ++ (y ∷ [])) is ∙ one_more zs n y at

pub digest_at : (rows : List Row) (n : ℕ) (row : Row) (d : List ℕ) → slice_get rows n ≡ Some row → d ≡ row_digest (row_text row.sire row.dam row.number row.animal)
    → slice_get (digests_of (rows_of rows)) n ≡ Some d
digest_at rows n row d at is =
    slice_get-map row_digest (rows_of rows) n
    ∙ ap (λ (o : Option (List ℕ)). option_map row_digest o) (slice_get-map (λ (r : Row). row_text r.sire r.dam r.number r.animal) rows n)
    ∙ ap (λ (o : Option Row). option_map row_digest (option_map (λ (r : Row). row_text r.sire r.dam r.number r.animal) o)) at
    ∙ ap (λ (x : List ℕ). Some x) (sym is)

-- an element of a list with one more
snoc_cases : {X : Type 0} (xs : List X) (x y : X) (i : ℕ) → slice_get (xs ++ (x ∷ [])) i ≡ Some y → (slice_get xs i ≡ Some y) ⊎ ((i ≡ length xs) × (x ≡ y))
snoc_cases [] x y zero e = inr (refl, cc)
snoc_cases [] x y (suc i) e = absurd (cc)
snoc_cases (z ∷ xs) x y zero e = inl e
snoc_cases (z ∷ xs) x y (suc i) e =
    elim (snoc_cases xs x y i e) [
      | inl earlier ↦ inl earlier
      | inr last ↦ inr (ap (λ (n : ℕ). suc n) last.0, last.1)
    ]

pub linked_none : (rows : List CertifiedRow) (lineage : List Parents) → lineage ≡ [] → AreLinked rows lineage
linked_none rows lineage none = λ i row parents at_row at. let nowhere : slice_get [] i ≡ Some parents = ap (λ (l : List Parents). slice_get l i) (sym none) ∙ at in absurd (cc)

pub linked_more : (rows : List CertifiedRow) (old new : List Parents) (at : ℕ) (row : CertifiedRow) (parents : Parents) → AreLinked rows old → length old ≡ at
    → slice_get rows at ≡ Some row → IsLink rows row.sire row.record.animal.sire parents.sire → IsLink rows row.dam row.record.animal.dam parents.dam
    → new ≡ old ++ (parents ∷ []) → AreLinked rows new
linked_more rows old new at row parents linked long here sire dam grown = λ i other its at_other at_its.
    elim (snoc_cases old parents its i (ap (λ (l : List Parents). slice_get l i) (sym grown) ∙ at_its)) [
      | inl earlier ↦ linked i other its at_other earlier
      | inr last ↦
          (let place : i ≡ at = last.0 ∙ long in
          let both : Some other ≡ Some row = sym at_other ∙ (ap (λ (k : ℕ). slice_get rows k) place ∙ here) in
          let same : row ≡ other = cc in (
            subst (λ (r : CertifiedRow). IsLink rows r.sire r.record.animal.sire its.sire) same (subst (λ (p : Parents). IsLink rows row.sire row.record.animal.sire p.sire) last.1 sire),
            subst (λ (r : CertifiedRow). IsLink rows r.dam r.record.animal.dam its.dam) same (subst (λ (p : Parents). IsLink rows row.dam row.record.animal.dam p.dam) last.1 dam),
          ))
    ]

pub longer : {X : Type 0} (old new : List X) (x : X) (n : ℕ) → length old ≡ n → new ≡ old ++ (x ∷ []) → length new ≡ n + 1
longer {X} old new x n long grown = ap length grown ∙ length-append old (x ∷ []) ∙ ap (λ (m : ℕ). m + 1) long

-- one more has it
pub all_more : {X : Type 0} (P : X → Type 0) (xs : List X) (n : ℕ) (x : X) → AllWithin P xs 0 n → slice_get xs n ≡ Some x → P x → AllWithin P xs 0 (n + 1)
all_more {X} P xs n x before at here = λ k d low high.
    elim (cases_lt k n) [
      | inl earlier ↦ before k d low earlier
      | inr last ↦
          (let same : k ≡ n = omega arith in
          subst (λ (y : X). P y) (sym (get_or_from_slice_get xs k x d (ap (λ (i : ℕ). slice_get xs i) same ∙ at))) here)
    ]

pub rows_sealed : (rows ds : List (List ℕ)) (steps n : ℕ) (root seal : List ℕ) → ds ≡ digests_of rows → n ≡ length ds → root ≡ tree_root ds → seal ≡ seal_over n steps root
    → seal ≡ seal_of steps rows
unfolding seal_of
rows_sealed rows ds steps n root seal are is_n is_root is =
    let animals : n ≡ length rows = is_n ∙ ap (λ (l : List (List ℕ)). length l) are ∙ length-map rows row_digest in
    let top : root ≡ tree_root (digests_of rows) = is_root ∙ ap (λ (l : List (List ℕ)). tree_root l) are in
    is ∙ ap (λ (k : ℕ). seal_over k steps root) animals ∙ ap (λ (r : List ℕ). seal_over (length rows) steps r) top
