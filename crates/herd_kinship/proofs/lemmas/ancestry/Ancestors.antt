-- Paths to ancestors: where a share isn't 0 there is one, and an ancestor is older and less deep.
use Rattle.std.proofs.Common.{ℕ, zero, suc, ◌+◌, ◌≡◌, ◌⊎◌, inl, inr, ⊎_elim, false, Option, Some, None, IsTrue, arith, refl, sym, Contains, subst}
use Rattle.std.proofs.lemmas.Bool.{cases_Bool}
use Rattle.herd_kinship.specs.Ancestry.{Ancestry, PathTo}
use Rattle.herd_kinship.specs.Shares.{share}
use Rattle.herd_kinship.proofs.lemmas.ancestry.LawfulAncestry.{Path, IsLawful}
use Rattle.herd_kinship.proofs.lemmas.ancestry.Shares.{share-none, share-start, share-step}

-- a share of what no path leads to is 0
pub share-reached : {A : Type 0} (kin : Ancestry A) → IsLawful kin → (k : ℕ) (o : Option A) (j : A) →
    (share kin k o j ≡ 0) ⊎ ((x : A) × (o ≡ Some x) × ((n : ℕ) × PathTo kin n x j))
unfolding PathTo
share-reached kin w k None j = inl (share-none kin k j)
share-reached kin w zero (Some x) j =
    ⊎_elim (λ s. inr (x, refl, (0, (w.same x j).0 s))) (λ (s : kin.same x j ≡ false). inl (rw (share-start kin x j, s) refl)) (cases_Bool (kin.same x j))
share-reached {A} kin w (suc k) (Some x) j =
    ⊎_elim (λ s. inr (x, refl, (0, (w.same x j).0 s)))
    (λ (s : kin.same x j ≡ false).
    ⊎_elim
    (λ (zs : share kin k (kin.sire x) j ≡ 0). ⊎_elim (λ (zd : share kin k (kin.dam x) j ≡ 0). inl (rw (share-step kin k x j, s, zs, zd) refl))
    (λ r. inr (x, refl, (suc r.2.0, (r.0, inr r.1, r.2.1))))
    (share-reached kin w k (kin.dam x) j))
    (λ r. inr (x, refl, (suc r.2.0, (r.0, inl r.1, r.2.1))))
    (share-reached kin w k (kin.sire x) j))
    (cases_Bool (kin.same x j))

-- an ancestor comes before
pub ancestor-before : {A : Type 0} (kin : Ancestry A) → IsLawful kin → (n : ℕ) (x p : A) → Contains kin.animals x → PathTo kin (suc n) x p → IsTrue (kin.before p x)
unfolding PathTo
ancestor-before {A} kin w zero x p c path =
    let P : A → Type 0 = λ v. IsTrue (kin.before v x) in
    subst P path.2 (w.parents path.0 x c path.1).1
ancestor-before kin w (suc n) x p c path =
    let q = w.parents path.0 x c path.1 in
    w.chain p path.0 x (ancestor-before kin w n path.0 p q.0 path.2) q.1

-- a path to y and one from y are one path
pub path-joined : {A : Type 0} (kin : Ancestry A) → IsLawful kin → (k m : ℕ) (x y : A) → Contains kin.animals x → PathTo kin k x y → Path kin m y → Path kin (k + m) x
unfolding Path PathTo
path-joined {A} kin w zero m x y c to path =
    let back : Path kin m x = subst (λ v. Path kin m v) (sym to) path in
    subst (λ i. Path kin i x) (let e : m ≡ zero + m = omega arith in e) back
path-joined {A} kin w (suc k) m x y c to path =
    let q : A = to.0 in
    let member = (w.parents q x c to.1).0 in
    let whole : Path kin (suc (k + m)) x = (c, (q, to.1, path-joined kin w k m q y member to.2 path)) in
    subst (λ i. Path kin i x) (let e : suc (k + m) ≡ suc k + m = omega arith in e) whole
