-- Limits as contracts see them, and which a register may have.
use Rattle.std.specs.Prelude.{ℕ, ◌≤◌}
use Rattle.herd_frozen.specs.declared.TheConstants.{MOST_ANIMALS}
use Rattle.herd_register.specs.declared.limits.TheConstants.{MOST_STEPS}

-- the most animals in the book, and the most steps in the journal
pub record Limits : Type 0 where
  pub animals : ℕ
  pub steps : ℕ

abbrev pub limits_of : ℕ → ℕ → Limits
limits_of animals steps = record { animals = animals; steps = steps }

-- limits that a register may have
pub record AreLimits (limits : Limits) : Type 0 where
  pub some_animals : 1 ≤ limits.animals
  pub most_animals : limits.animals ≤ MOST_ANIMALS
  pub some_steps : 1 ≤ limits.steps
  pub most_steps : limits.steps ≤ MOST_STEPS
