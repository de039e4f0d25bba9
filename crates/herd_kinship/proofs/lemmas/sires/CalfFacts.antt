-- The links from calf to calf: how they are made and read.
use Rattle.std.proofs.Common.{ℕ, ◌+◌, ◌<◌, ◌≤◌, ◌≡◌, ◌⊎◌, inr, ⊎_elim, true, false, is_some, List, length, get_or, set, slice_get, Option, Some, None, arith, refl, sym, ◌∙◌, ap, subst}
use Rattle.std.proofs.lemmas.Bool.{cases_lt, cases_eq}
use Rattle.std.proofs.lemmas.List.{get_or-set_same, get_or-set_other, length-set, get_or_read}
use Rattle.std.proofs.lemmas.Option.{slice_get_within}
use Rattle.herd_lineage.specs.declared.lineage.Parents.{Parents}
use Rattle.herd_lineage.specs.Lineage.{IsLineage, dam_rank, sire_rank}
use Rattle.herd_kinship.specs.CalfLinks.{IsCalf, IsLink, AreLinked}
use Rattle.herd_kinship.specs.Ranks.{AreParentsAt, HasUnknownParent}
use Rattle.herd_lineage.proofs.lemmas.ListFacts.{option_cases}
use Rattle.herd_kinship.proofs.lemmas.lineages.LineageFacts.{lineage-ranked}
use Rattle.herd_kinship.proofs.lemmas.lineages.ParentsFacts.{parents-sire, parents-dam, parents-within}

-- a border that passes an animal that is no calf of s
link-kept : (rows : List Parents) (s i : ℕ) (link : Option ℕ) → (IsCalf rows s i → ⊥) → IsLink rows s i link → IsLink rows s (i + 1) link
link-kept rows s i link none is = record {
  calf = λ y e. let at = is.calf y e in let low : y < i = at.0 in (omega arith, at.1);
  youngest = λ x lx c.
      ⊎_elim
      (λ (low : x < i). is.youngest x low c)
      (λ (high : i ≤ x). let same : x ≡ i = omega arith in absurd (none (subst (λ v. IsCalf rows s v) same c)))
      (cases_lt x i);
}

-- a border that passes a calf of s
link-new : (rows : List Parents) (s i : ℕ) → IsCalf rows s i → IsLink rows s (i + 1) (Some i)
link-new rows s i c = record {
  calf = λ y e. let same : i ≡ y = cc in (omega arith, subst (λ v. IsCalf rows s v) same c);
  youngest = λ x lx _. (i, refl, omega arith);
}

-- an animal that has no known sire, or no known dam
pub linked-other : (rows : List Parents) (i : ℕ) (latest earlier : List (Option ℕ)) → ((s : ℕ) → IsCalf rows s i → ⊥) → AreLinked rows i latest earlier →
    AreLinked rows (i + 1) latest earlier
linked-other rows i latest earlier none are = record {
  lineage = are.lineage;
  each_sire = are.each_sire;
  each_calf = are.each_calf;
  latest_is = λ s ls. link-kept rows s i (get_or latest s None) (none s) (are.latest_is s ls);
  earlier_is = λ s x lx c.
      ⊎_elim
      (λ (low : x < i). are.earlier_is s x low c)
      (λ (high : i ≤ x). let same : x ≡ i = omega arith in absurd (none s (subst (λ v. IsCalf rows s v) same c)))
      (cases_lt x i);
  older = are.older;
}

-- a calf of p
pub linked-calf : (rows : List Parents) (i p : ℕ) (latest earlier : List (Option ℕ)) → i < length rows → p < length rows → IsCalf rows p i → AreLinked rows i latest earlier →
    AreLinked rows (i + 1) (set latest p (Some i)) (set earlier i (get_or latest p None))
linked-calf rows i p latest earlier li lp c are =
    let each_sire : length latest ≡ length rows = are.each_sire in
    let each_calf : length earlier ≡ length rows = are.each_calf in
    let only : (s : ℕ) → IsCalf rows s i → p ≡ s = λ s d. (let e : Some p ≡ Some s = sym c.0 ∙ d.0 in cc) in
    record {
      lineage = are.lineage;
      each_sire = length-set latest p (Some i) ∙ each_sire;
      each_calf = length-set earlier i (get_or latest p None) ∙ each_calf;
      latest_is = λ s ls.
          ⊎_elim
          (λ (same : p ≡ s).
          subst (λ v. IsLink rows v (i + 1) (get_or (set latest p (Some i)) v None)) same
          (subst (λ o. IsLink rows p (i + 1) o) (sym (get_or-set_same latest p (Some i) None (omega arith))) (link-new rows p i c)))
          (λ (other : p ≡ s → ⊥).
          subst (λ o. IsLink rows s (i + 1) o) (sym (get_or-set_other latest p s (Some i) None (λ q. other (sym q))))
          (link-kept rows s i (get_or latest s None) (λ d. other (only s d)) (are.latest_is s ls)))
          (cases_eq p s);
      earlier_is = λ s x lx d.
          ⊎_elim
          (λ (low : x < i).
          subst (λ o. IsLink rows s x o) (sym (get_or-set_other earlier i x (get_or latest p None) None (λ q. omega arith))) (are.earlier_is s x low d))
          (λ (high : i ≤ x).
          let same : i ≡ x = omega arith in
          let sire : p ≡ s = only s (subst (λ v. IsCalf rows s v) (sym same) d) in
          subst (λ v. IsLink rows s v (get_or (set earlier i (get_or latest p None)) v None)) same
          (subst (λ o. IsLink rows s i o) (sym (get_or-set_same earlier i (get_or latest p None) None (omega arith)))
          (subst (λ v. IsLink rows v i (get_or latest p None)) sire (are.latest_is p lp))))
          (cases_lt x i);
      older = λ x y e.
          ⊎_elim
          (λ (same : x ≡ i).
          let at : get_or (set earlier i (get_or latest p None)) x None ≡ get_or latest p None =
          ap (λ v. get_or (set earlier i (get_or latest p None)) v None) same ∙ get_or-set_same earlier i (get_or latest p None) None (omega arith) in
          let low : y < i = ((are.latest_is p lp).calf y (sym at ∙ e)).0 in
          omega arith)
          (λ (other : x ≡ i → ⊥). are.older x y (sym (get_or-set_other earlier i x (get_or latest p None) None other) ∙ e))
          (cases_eq x i);
    }

pub calf-within : (rows : List Parents) (s x : ℕ) → IsCalf rows s x → x < length rows
calf-within rows s x c =
    ⊎_elim
    (λ none. let unknown : sire_rank rows x ≡ None = rw none refl in let known = c.0 in absurd (cc))
    (λ there. slice_get_within rows x there.0 there.1)
    (option_cases (slice_get rows x))

-- what the parents of a row say
pub calf-pair : (rows : List Parents) (i p : ℕ) (parents : Parents) → AreParentsAt rows i parents → parents.sire ≡ Some p → is_some parents.dam ≡ true → IsCalf rows p i
calf-pair rows i p parents at sire dam =
    ⊎_elim
    (λ (none : parents.dam ≡ None). let some : is_some parents.dam ≡ false = ap is_some none in absurd (cc))
    (λ there. (parents-sire rows i parents at ∙ sire, there.0, parents-dam rows i parents at ∙ there.1))
    (option_cases parents.dam)

-- no calf of a pair has an unknown parent
pub pair-known : {P : Type 0} (rows : List Parents) (s x : ℕ) → IsCalf rows s x → HasUnknownParent rows x → P
pair-known rows s x calf unknown =
    let sire = calf.0 in
    let dam = calf.2 in
    ⊎_elim (λ (none : sire_rank rows x ≡ None). absurd (cc)) (λ (none : dam_rank rows x ≡ None). absurd (cc)) unknown

-- a known dam stands in the lineage
pub dam-within : (l most : ℕ) (rows : List Parents) (x : ℕ) (parents : Parents) → IsLineage l most rows → AreParentsAt rows x parents → (d : ℕ) → parents.dam ≡ Some d → d < length rows
dam-within l most rows x parents lineage at d is =
    let here = parents-within rows x parents at in
    let lower : d < x = (lineage-ranked l most rows lineage).below x d here (inr (parents-dam rows x parents at ∙ is)) in
    omega arith

pub no-calf : (rows : List Parents) (i : ℕ) (parents : Parents) → AreParentsAt rows i parents → (parents.sire ≡ None) ⊎ (parents.dam ≡ None) → (s : ℕ) → IsCalf rows s i → ⊥
no-calf rows i parents at unknown s calf =
    let sire = parents-sire rows i parents at in
    let dam = parents-dam rows i parents at in
    let known = calf.0 in
    let known' = calf.2 in
    ⊎_elim (λ (none : parents.sire ≡ None). absurd (cc)) (λ (none : parents.dam ≡ None). absurd (cc)) unknown

-- the link that is read at a sire
pub latest-link : (rows : List Parents) (s : ℕ) (latest earlier : List (Option ℕ)) (link : Option ℕ) → s < length rows → AreLinked rows (length rows) latest earlier →
    link ≡ get_or latest s link → IsLink rows s (length rows) link
latest-link rows s latest earlier link ls are read =
    let each : length latest ≡ length rows = are.each_sire in
    rw (get_or_read latest s link (omega arith) read None) (are.latest_is s ls)
