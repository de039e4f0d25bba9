-- Entries, coefficients and Mendelian sampling variances depend on the animals and their ancestors alone: neither on what
-- others there are, nor on how the animals are named.
use Rattle.std.proofs.Common.{map, ⊎_elim, ℕ, zero, suc, ◌+◌, ◌*◌, ◌-◌, ◌≡◌, inl, inr, Option, Some, None, refl, Contains, ◌∙◌, ap}
use Rattle.std.specs.Option.{option_map}
use Rattle.std.proofs.lemmas.List.Sorted.{Contains-permutation}
use Rattle.herd_kinship.proofs.lemmas.Lists.{Contains-map}
use Rattle.herd_kinship.specs.Ancestry.{Ancestry, IsParentIn}
use Rattle.herd_kinship.specs.Table.{entry, coefficient, mendelian}
use Rattle.herd_kinship.proofs.lemmas.ancestry.LawfulAncestry.{Path, IsIncluded, IsShallow, IsLawful, IsRenamed}
use Rattle.herd_kinship.proofs.lemmas.ancestry.Table.{entry-none_left, entry-none_right, entry-start, entry-step}
use Rattle.herd_kinship.proofs.lemmas.ancestry.Depth.{IsKnown, known-sire, known-dam}

-- by induction on the unit: the same case of the tabular method holds in both
pub entry-included : {A B : Type 0} (kin : Ancestry A) (g : Ancestry B) (φ : A → B) → IsLawful kin → IsIncluded kin g φ → (k : ℕ) (x y : Option A) → IsKnown kin x → IsKnown kin y →
    entry g k (option_map φ x) (option_map φ y) ≡ entry kin k x y
entry-included kin g φ w r k None y kx ky = rw (entry-none_left kin k y) (entry-none_left g k (option_map φ y))
entry-included kin g φ w r k (Some x) None kx ky = rw (entry-none_right kin k (Some x)) (entry-none_right g k (Some (φ x)))
entry-included kin g φ w r zero (Some x) (Some y) kx ky =
    rw (entry-start kin x y, entry-start g (φ x) (φ y), r.same x y (kx x refl) (ky y refl)) refl
entry-included kin g φ w r (suc k) (Some x) (Some y) kx ky =
    let cx = kx x refl in
    let cy = ky y refl in
    let sd = entry-included kin g φ w r k (kin.sire x) (kin.dam x) (known-sire kin w x cx) (known-dam kin w x cx) in
    let xs = entry-included kin g φ w r k (Some x) (kin.sire y) kx (known-sire kin w y cy) in
    let xd = entry-included kin g φ w r k (Some x) (kin.dam y) kx (known-dam kin w y cy) in
    let ys = entry-included kin g φ w r k (Some y) (kin.sire x) ky (known-sire kin w x cx) in
    let yd = entry-included kin g φ w r k (Some y) (kin.dam x) ky (known-dam kin w x cx) in
    rw (
      entry-step kin k x y,
      entry-step g k (φ x) (φ y),
      r.same x y cx cy,
      r.before x y cx cy,
      r.sire x cx,
      r.dam x cx,
      r.sire y cy,
      r.dam y cy,
      sd,
      xs,
      xd,
      ys,
      yd,
    ) refl

pub coefficient-included : {A B : Type 0} (kin : Ancestry A) (g : Ancestry B) (φ : A → B) → IsLawful kin → IsIncluded kin g φ → (l : ℕ) (x : A) → Contains kin.animals x →
    coefficient g l (φ x) ≡ coefficient kin l x
unfolding coefficient
coefficient-included kin g φ w r l x cx =
    rw (r.sire x cx, r.dam x cx) (entry-included kin g φ w r (2 * l - 1) (kin.sire x) (kin.dam x) (known-sire kin w x cx) (known-dam kin w x cx))

pub mendelian-included : {A B : Type 0} (kin : Ancestry A) (g : Ancestry B) (φ : A → B) → IsLawful kin → IsIncluded kin g φ → (l : ℕ) (x : A) → Contains kin.animals x →
    mendelian g l (φ x) ≡ mendelian kin l x
unfolding mendelian
mendelian-included kin g φ w r l x cx =
    rw (
      r.sire x cx,
      r.dam x cx,
      entry-included kin g φ w r (2 * l - 2) (kin.sire x) (kin.sire x) (known-sire kin w x cx) (known-sire kin w x cx),
      entry-included kin g φ w r (2 * l - 2) (kin.dam x) (kin.dam x) (known-dam kin w x cx) (known-dam kin w x cx),
    ) refl

included : {A B : Type 0} (kin : Ancestry A) (g : Ancestry B) (φ : A → B) → IsRenamed kin g φ → IsIncluded kin g φ
included kin g φ r = record { same = r.same; before = r.before; sire = r.sire; dam = r.dam }

pub entry-renamed : {A B : Type 0} (kin : Ancestry A) (g : Ancestry B) (φ : A → B) → IsLawful kin → IsRenamed kin g φ → (k : ℕ) (x y : Option A) → IsKnown kin x → IsKnown kin y →
    entry g k (option_map φ x) (option_map φ y) ≡ entry kin k x y
entry-renamed kin g φ w r = entry-included kin g φ w (included kin g φ r)

pub coefficient-renamed : {A B : Type 0} (kin : Ancestry A) (g : Ancestry B) (φ : A → B) → IsLawful kin → IsRenamed kin g φ → (l : ℕ) (x : A) → Contains kin.animals x →
    coefficient g l (φ x) ≡ coefficient kin l x
coefficient-renamed kin g φ w r = coefficient-included kin g φ w (included kin g φ r)

pub mendelian-renamed : {A B : Type 0} (kin : Ancestry A) (g : Ancestry B) (φ : A → B) → IsLawful kin → IsRenamed kin g φ → (l : ℕ) (x : A) → Contains kin.animals x →
    mendelian g l (φ x) ≡ mendelian kin l x
mendelian-renamed kin g φ w r = mendelian-included kin g φ w (included kin g φ r)

-- paths keep their lengths
pub path-renamed : {A B : Type 0} (kin : Ancestry A) (g : Ancestry B) (φ : A → B) → IsLawful kin → IsRenamed kin g φ → (n : ℕ) (x : A) → Path kin n x → Path g n (φ x)
unfolding Path
path-renamed kin g φ w r zero x path =
    Contains-permutation (map φ kin.animals) g.animals (φ x) r.animals (Contains-map φ kin.animals x path)
path-renamed {A} {B} kin g φ w r (suc n) x path =
    let p : A = path.1.0 in
    let here = Contains-permutation (map φ kin.animals) g.animals (φ x) r.animals (Contains-map φ kin.animals x path.0) in
    let is : IsParentIn g (φ p) (φ x) =
    ⊎_elim (λ e. inl (r.sire x path.0 ∙ ap (option_map φ) e)) (λ e. inr (r.dam x path.0 ∙ ap (option_map φ) e)) path.1.1 in
    (here, (φ p, is, path-renamed kin g φ w r n p path.1.2))

pub shallow-renamed : {A B : Type 0} (kin : Ancestry A) (g : Ancestry B) (φ : A → B) → IsLawful kin → IsRenamed kin g φ → (l : ℕ) → IsShallow g l → IsShallow kin l
shallow-renamed kin g φ w r l f x path = f (φ x) (path-renamed kin g φ w r (l + 1) x path)
