-- The depth that the parents' depths give, once these are looked up.
use Rattle.std.proofs.Common.{◌≡◌, ℕ, max, Option, Some, None, refl}
use Rattle.std.specs.Option.{option_map}
use Rattle.herd_frozen.specs.rules.Depths.{depth_above, depth_from}

above-read : {A : Type 0} (depth : A → ℕ) (parent : Option A) → depth_above (λ d. d) (option_map depth parent) ≡ depth_above depth parent
above-read depth None = refl
above-read depth (Some p) = refl

pub depth_from-read : {A : Type 0} (depth : A → ℕ) (sire dam : Option A) → depth_from (λ d. d) (option_map depth sire) (option_map depth dam) ≡ depth_from depth sire dam
depth_from-read depth sire dam = λ i. max (above-read depth sire i) (above-read depth dam i)
