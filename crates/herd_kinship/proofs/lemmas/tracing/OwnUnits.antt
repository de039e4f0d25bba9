-- Shares in units of their own: that of an ancestor p of x in unit 2^-(gx - gp), where gx and gp are the depths.
use Rattle.std.proofs.Common.{ℕ, suc, ◌+◌, ◌*◌, ◌-◌, ◌/◌, ◌^◌, ◌<◌, ◌≤◌, ◌≡◌, Some, arith, ◌∙◌, ap}
use Rattle.std.proofs.Math.Nat.{pow-succ', mul-div_cancel_left}
use Rattle.std.proofs.Math.Pow.{pow_pos}
use Rattle.std.proofs.lemmas.Nat.{pow-add}
use Rattle.herd_kinship.specs.Ancestry.{Ancestry}
use Rattle.herd_kinship.specs.Shares.{share}
use Rattle.herd_kinship.proofs.lemmas.ancestry.LawfulAncestry.{IsLawful, Path}
use Rattle.herd_kinship.proofs.lemmas.ancestry.Depth.{Below}
use Rattle.herd_kinship.proofs.lemmas.ancestry.Exact.{share-finer}
use Rattle.herd_kinship.proofs.lemmas.numbers.Sums.{cancel}

-- half of y's share, brought from y's unit to that of its parent p
pub half-own : (l gx gy gp s : ℕ) → gx ≤ l → gp < gy → s * 2 ^ (l - gx + gy) / 2 ≡ s * 2 ^ (gy - gp - 1) * 2 ^ (l - gx + gp)
half-own l gx gy gp s lx lp =
    let r : ℕ = gy - gp - 1 + (l - gx + gp) in
    let power : 2 ^ (l - gx + gy) ≡ 2 * 2 ^ r =
    ap (λ n. 2 ^ n) (let e : l - gx + gy ≡ suc r = omega arith in e) ∙ pow-succ' 2 r in
    let split : 2 ^ r ≡ 2 ^ (gy - gp - 1) * 2 ^ (l - gx + gp) = pow-add 2 (gy - gp - 1) (l - gx + gp) in
    let doubled : s * 2 ^ (l - gx + gy) ≡ 2 * (s * 2 ^ r) = rw power (omega arith) in
    ap (λ n. n / 2) doubled ∙ (mul-div_cancel_left (s * 2 ^ r) (let p : 0 < 2 = omega arith in p) ∙ rw split (omega arith))

-- what is pending at an ancestor, once nothing younger is pending, is its share in its own unit
pub share-own : {A : Type 0} (kin : Ancestry A) → IsLawful kin → (l gx gy s : ℕ) (x y : A) → gx ≤ l → gy ≤ gx → Below kin (suc gx) (Some x) → Path kin gy y →
    s * 2 ^ (l - gx + gy) ≡ share kin l (Some x) y → s ≡ share kin (gx - gy) (Some x) y
share-own kin w l gx gy s x y lx ly b path e =
    let d : ℕ = l - gx + gy in
    let f : share kin l (Some x) y ≡ 2 ^ d * share kin (gx - gy) (Some x) y =
    ap (λ n. share kin n (Some x) y) (let q : l ≡ d + (gx - gy) = omega arith in q)
    ∙ share-finer kin w d (gx - gy) (Some x) y (suc gx) gy b path (omega arith) in
    cancel (2 ^ d) s (share kin (gx - gy) (Some x) y) (pow_pos d) (let q : 2 ^ d * s ≡ share kin l (Some x) y = omega (arith, e) in q ∙ f)
