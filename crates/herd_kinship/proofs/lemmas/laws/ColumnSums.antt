-- A column of the numerator relationship matrix, animal by animal: an entry is half the entries with the parents, and the part inherited.
use Rattle.std.proofs.Common.{ℕ, suc, ◌+◌, ◌*◌, ◌^◌, ◌≡◌, ⊎_elim, cond, Option, Some, arith, ap, subst}
use Rattle.std.proofs.lemmas.Bool.{cases_Bool}
use Rattle.herd_kinship.specs.Ancestry.{Ancestry}
use Rattle.herd_kinship.specs.Table.{entry, mendelian}
use Rattle.herd_kinship.specs.Shares.{share, shared}
use Rattle.herd_kinship.proofs.lemmas.ancestry.LawfulAncestry.{IsLawful, IsShallow}
use Rattle.herd_kinship.proofs.lemmas.numbers.Sums.{sum_by-agree, sum_by-add, sum_by-scale, sum_by-one}
use Rattle.herd_kinship.proofs.lemmas.ancestry.Depth.{Below, IsKnown, Below-member, Below-shallow, known_some, known-sire, known-dam}
use Rattle.herd_kinship.proofs.lemmas.ancestry.Shares.{share-itself, share-sire_later, share-dam_later, share-halved}
use Rattle.herd_kinship.proofs.lemmas.laws.Decompose.{decomposition, term_halved}
use Rattle.std.proofs.Common.{Contains}

-- the terms of x and y: those of x and y's parents, and that of y itself
shared-column : {A : Type 0} (kin : Ancestry A) → IsLawful kin → (l : ℕ) (x : Option A) (y : A) → Below kin (suc l) (Some y) →
    2 * shared kin l x (Some y) ≡ 2 * (share kin l x y * 2 ^ l * mendelian kin l y) + (shared kin l x (kin.sire y) + shared kin l x (kin.dam y))
unfolding shared
shared-column {A} kin w l x y b =
    let m : A → ℕ = mendelian kin l in
    let t : A → ℕ = share kin l x in
    let u : A → ℕ = share kin l (Some y) in
    let s : A → ℕ = share kin l (kin.sire y) in
    let d : A → ℕ = share kin l (kin.dam y) in
    let own : ℕ = 2 * (t y * 2 ^ l * m y) in
    let scale = sum_by-scale 2 (λ j. t j * u j * m j) kin.animals in
    let add2 = sum_by-add (λ j. t j * s j * m j) (λ j. t j * d j * m j) kin.animals in
    let add1 = sum_by-add (λ j. cond (kin.same y j) own 0) (λ j. t j * s j * m j + t j * d j * m j) kin.animals in
    let one = sum_by-one (kin.same y) own kin.animals (w.once y (Below-member kin (suc l) y b)) in
    let terms = sum_by-agree (λ j. 2 * (t j * u j * m j)) (λ j. cond (kin.same y j) own 0 + (t j * s j * m j + t j * d j * m j)) kin.animals (λ j c.
    ⊎_elim
    (λ e.
    let yj : y ≡ j = (w.same y j).0 e in
    let all : u j ≡ 2 ^ l = subst (λ v. u v ≡ 2 ^ l) yj (share-itself kin w l y) in
    let noneS : s j ≡ 0 = subst (λ v. s v ≡ 0) yj (share-sire_later kin w l y (Below-member kin (suc l) y b)) in
    let noneD : d j ≡ 0 = subst (λ v. d v ≡ 0) yj (share-dam_later kin w l y (Below-member kin (suc l) y b)) in
    let mine : own ≡ 2 * (t j * 2 ^ l * m j) = ap (λ v. 2 * (t v * 2 ^ l * m v)) yj in
    rw (e, all, noneS, noneD, mine) (omega arith))
    (λ e. rw e (omega (arith, term_halved (t j) (u j) (s j) (d j) (m j) (share-halved kin w l y j b e))))
    (cases_Bool (kin.same y j))) in
    omega (arith, scale, add1, add2, one, terms)

-- THE COLUMN, in unit 2^-4l: x is any animal of the ancestry or none
pub column : {A : Type 0} (kin : Ancestry A) → IsLawful kin → (l : ℕ) → IsShallow kin l → (x : Option A) (y : A) → IsKnown kin x → Contains kin.animals y →
    2 * (2 ^ (2 * l) * entry kin (2 * l) x (Some y))
    ≡ 2 * (share kin l x y * 2 ^ l * mendelian kin l y)
    + (2 ^ (2 * l) * entry kin (2 * l) x (kin.sire y) + 2 ^ (2 * l) * entry kin (2 * l) x (kin.dam y))
column kin w l f x y kx cy =
    rw (
      ← decomposition kin w l f x (Some y) kx (known_some kin y cy),
      ← decomposition kin w l f x (kin.sire y) kx (known-sire kin w y cy),
      ← decomposition kin w l f x (kin.dam y) kx (known-dam kin w y cy),
    ) (shared-column kin w l x y (Below-shallow kin w l f (Some y) (known_some kin y cy)))
