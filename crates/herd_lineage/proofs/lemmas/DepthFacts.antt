-- The depth of an animal whose parents' depths were read.
use Rattle.std.proofs.Common.{◌≡◌, ℕ, Option, None, Some, option_map, refl}
use Rattle.herd_lineage.specs.Lineage.{depth_above, depth_from}

above-read : (depth : ℕ → ℕ) (parent : Option ℕ) → depth_above (λ d. d) (option_map depth parent) ≡ depth_above depth parent
above-read depth None = refl
above-read depth (Some rank) = refl

pub from_read : (depth : ℕ → ℕ) (sire dam : Option ℕ)
    → depth_from (λ d. d) (option_map depth sire) (option_map depth dam) ≡ depth_from depth sire dam
from_read depth sire dam = rw (above-read depth sire, above-read depth dam) refl
