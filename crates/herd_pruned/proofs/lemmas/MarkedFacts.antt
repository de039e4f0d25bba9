-- Marks of animals, one by one, and of all from which they come.
use Rattle.std.proofs.Common.{ℕ, zero, suc, ◌+◌, ◌<◌, ◌≤◌, ◌≡◌, ◌≢◌, ◌⊎◌, inl, inr, ⊎_elim, Bool, true, false, List, [], ◌∷◌, length, replicate, set, slice_get, Option, Some, None, arith, refl, sym, ap, subst, ◌∙◌}
use Rattle.std.proofs.lemmas.List.{length-set}
use Rattle.std.proofs.lemmas.Bool.{cases_eq}
use Rattle.std.proofs.lemmas.Option.{same_Some}
use Rattle.herd_lineage.specs.declared.lineage.Parents.{Parents}
use Rattle.herd_lineage.specs.Lineage.{IsLineage, dam_rank, sire_rank}
use Rattle.herd_kinship.specs.Ancestry.{Ancestry, IsParentIn, PathTo}
use Rattle.herd_kinship.specs.Ranks.{ranked}
use Rattle.herd_kinship.proofs.lemmas.lineages.LineageFacts.{path_to-joined}
use Rattle.herd_pruned.specs.Marked.{ComesFrom, IsMarked, MarksAncestors, with_mark}

set_it : (marks : List Bool) (i : ℕ) → i < length marks → IsMarked (set marks i true) i
set_it [] i within = absurd (omega arith)
set_it (m ∷ marks) zero within = refl
set_it (m ∷ marks) (suc i) within = set_it marks i (omega arith)

set_keeps : (marks : List Bool) (i rank : ℕ) → IsMarked marks rank → IsMarked (set marks i true) rank
set_keeps [] i rank is = is
set_keeps (m ∷ marks) zero zero is = refl
set_keeps (m ∷ marks) zero (suc rank) is = is
set_keeps (m ∷ marks) (suc i) zero is = is
set_keeps (m ∷ marks) (suc i) (suc rank) is = set_keeps marks i rank is

set_from : (marks : List Bool) (i rank : ℕ) → IsMarked (set marks i true) rank → IsMarked marks rank ⊎ (i ≡ rank)
set_from [] i rank is = inl is
set_from (m ∷ marks) zero zero is = inr refl
set_from (m ∷ marks) zero (suc rank) is = inl is
set_from (m ∷ marks) (suc i) zero is = inl is
set_from (m ∷ marks) (suc i) (suc rank) is =
    ⊎_elim (λ a. inl a) (λ b. inr (ap suc b)) (set_from marks i rank is)

-- one more mark
pub with_mark-each : (marks : List Bool) (animal : Option ℕ) → length (with_mark marks animal) ≡ length marks
with_mark-each marks None = refl
with_mark-each marks (Some i) = length-set marks i true

with_mark-it : (marks : List Bool) (animal : Option ℕ) (i : ℕ) → animal ≡ Some i → i < length marks → IsMarked (with_mark marks animal) i
with_mark-it marks None i e within = absurd (cc)
with_mark-it marks (Some p) i e within =
    let same : p ≡ i = same_Some _ _ e in
    subst (λ q. IsMarked (set marks p true) q) same (set_it marks p (rw same within))

with_mark-keeps : (marks : List Bool) (animal : Option ℕ) (rank : ℕ) → IsMarked marks rank → IsMarked (with_mark marks animal) rank
with_mark-keeps marks None rank is = is
with_mark-keeps marks (Some i) rank is = set_keeps marks i rank is

with_mark-from : (marks : List Bool) (animal : Option ℕ) (rank : ℕ) → IsMarked (with_mark marks animal) rank → IsMarked marks rank ⊎ (animal ≡ Some rank)
with_mark-from marks None rank is = inl is
with_mark-from marks (Some i) rank is = ⊎_elim (λ a. inl a) (λ b. inr (ap Some b)) (set_from marks i rank is)

-- The animals from a border on have their parents marked, when the ancestors of some animals are marked from the
-- youngest to the oldest.
pub record IsMarking (lineage : List Parents) (animals : ℕ → Type 0) (border : ℕ) (marks : List Bool) : Type 0 where
  pub each : length marks ≡ length lineage
  pub themselves : (rank : ℕ) → animals rank → IsMarked marks rank
  pub parents : (rank parent : ℕ) → border ≤ rank → IsMarked marks rank → IsParentIn (ranked lineage) parent rank → IsMarked marks parent
  pub others : (rank : ℕ) → IsMarked marks rank → ComesFrom (ranked lineage) animals rank

pub marking-start : (lineage : List Parents) (marks : List Bool) (border : ℕ) → length marks ≡ length lineage → border ≡ length lineage → IsMarking lineage (IsMarked marks) border marks
unfolding PathTo
marking-start lineage marks border each end = record {
  each = each;
  themselves = λ rank is. is;
  parents = λ rank parent above is parents.
      absurd (let within = marked-within marks rank is in omega (arith, above, within, each, end));
  others = λ rank is. (rank, is, 0, refl);
}
  where
    marked-within : (marks : List Bool) (rank : ℕ) → IsMarked marks rank → rank < length marks
    marked-within [] rank is = absurd (cc)
    marked-within (m ∷ marks) zero is = omega arith
    marked-within (m ∷ marks) (suc rank) is = let rest = marked-within marks rank is in omega (arith, rest)

pub marking-end : (lineage : List Parents) (animals : ℕ → Type 0) (marks : List Bool) → IsMarking lineage animals 0 marks → MarksAncestors lineage animals marks
marking-end lineage animals marks w = record {
  each = w.each;
  themselves = w.themselves;
  parents = λ rank parent is parents. w.parents rank parent (omega arith) is parents;
  others = w.others;
}

-- nothing is marked at first
pub none_marked : (n rank : ℕ) → IsMarked (replicate n false) rank → ⊥
none_marked zero rank is = absurd (cc)
none_marked (suc n) zero is = absurd (cc)
none_marked (suc n) (suc rank) is = none_marked n rank is

-- the same animals by another name
pub marks-of : (lineage : List Parents) (P Q : ℕ → Type 0) (marks : List Bool) → ((rank : ℕ) → P rank → Q rank) → ((rank : ℕ) → Q rank → P rank) → MarksAncestors lineage P marks → MarksAncestors lineage Q marks
marks-of lineage P Q marks to from w = record {
  each = w.each;
  themselves = λ rank q. w.themselves rank (from rank q);
  parents = w.parents;
  others = λ rank is. let at = w.others rank is in (at.0, to at.0 at.1, at.2, at.3);
}

one_step : (lineage : List Parents) (parent rank : ℕ) → IsParentIn (ranked lineage) parent rank → PathTo (ranked lineage) 1 rank parent
unfolding PathTo
one_step lineage parent rank is = (parent, is, refl)

module _ (l most : ℕ) (lineage : List Parents) (f : IsLineage l most lineage) (animals : ℕ → Type 0) (border : ℕ) (marks : List Bool) (w : IsMarking lineage animals (suc border) marks) where
  -- an animal that isn't marked
  pub marking-past : slice_get marks border ≡ Some false → IsMarking lineage animals border marks
  marking-past unmarked = record {
    each = w.each;
    themselves = w.themselves;
    parents = λ rank parent from is parents.
        ⊎_elim
        (λ (here : rank ≡ border). absurd (let at : slice_get marks border ≡ Some true = subst (λ r. IsMarked marks r) here is in (λ (both : Some true ≡ Some false). no both) (sym at ∙ unmarked)))
        (λ (above : rank ≢ border). w.parents rank parent (omega arith) is parents)
        (cases_eq rank border);
    others = w.others;
  }
    where
      no : Some true ≡ Some false → ⊥
      no e = cc

  -- one that is marked, and then its parents
  pub marking-next : IsMarked marks border → border < length lineage → IsMarking lineage animals border (with_mark (with_mark marks (sire_rank lineage border)) (dam_rank lineage border))
  marking-next marked within =
      let sire = sire_rank lineage border in
      let dam = dam_rank lineage border in
      let one = with_mark marks sire in
      let both = with_mark one dam in
      let from : (rank : ℕ) → IsMarked both rank → IsMarked marks rank ⊎ IsParentIn (ranked lineage) rank border =
      λ rank is.
      ⊎_elim
      (λ a. ⊎_elim (λ b. inl b) (λ s. inr (inl s)) (with_mark-from marks sire rank a))
      (λ d. inr (inr d))
      (with_mark-from one dam rank is) in
      let keeps : (rank : ℕ) → IsMarked marks rank → IsMarked both rank =
      λ rank is. with_mark-keeps one dam rank (with_mark-keeps marks sire rank is) in
      let older : (rank : ℕ) → IsParentIn (ranked lineage) rank border → rank < border =
      λ rank is. ⊎_elim (λ s. f.sire border rank s) (λ d. f.dam border rank d) is in
      let long : length one ≡ length lineage = with_mark-each marks sire ∙ w.each in
      record {
        each = with_mark-each one dam ∙ long;
        themselves = λ rank is. keeps rank (w.themselves rank is);
        parents = λ rank parent above is parents.
            ⊎_elim
            (λ (here : rank ≡ border).
            ⊎_elim
            (λ (s : sire_rank lineage rank ≡ Some parent).
            let e : sire ≡ Some parent = subst (λ r. sire_rank lineage r ≡ Some parent) here s in
            let low = f.sire border parent e in
            let w0 = w.each in
            with_mark-keeps one dam parent (with_mark-it marks sire parent e (omega (arith, low, within, w0))))
            (λ (d : dam_rank lineage rank ≡ Some parent).
            let e : dam ≡ Some parent = subst (λ r. dam_rank lineage r ≡ Some parent) here d in
            let low = f.dam border parent e in
            with_mark-it one dam parent e (omega (arith, low, within, long)))
            parents)
            (λ (other : rank ≢ border).
            let was : IsMarked marks rank = ⊎_elim (λ a. a) (λ p. absurd (let low = older rank p in omega (arith, low, above))) (from rank is) in
            keeps parent (w.parents rank parent (omega arith) was parents))
            (cases_eq rank border);
        others = λ rank is.
            ⊎_elim
            (λ was. w.others rank was)
            (λ p.
            let at = w.others border marked in
            (at.0, at.1, at.2 + 1, path_to-joined (ranked lineage) at.2 1 at.0 border rank at.3 (one_step lineage rank border p)))
            (from rank is);
      }

-- each of some animals comes from itself
pub comes_itself : {A : Type 0} (kin : Ancestry A) (animals : A → Type 0) (x : A) → animals x → ComesFrom kin animals x
unfolding PathTo
comes_itself kin animals x is = (x, is, 0, refl)
