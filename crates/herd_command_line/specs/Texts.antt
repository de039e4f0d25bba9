-- The texts of arguments, and the numbers that they write.
use Rattle.std.specs.Prelude.{◌≡◌, ℕ, ◌≤◌, ◌⊎◌, List, [], Option, Some, None, unwrap_or, option_map, codes}
use Rattle.std.specs.Str.Parse.{IsNumeral, digits_value, without_leading_plus}
use Rattle.clap.specs.Words.{Row, Text, all_of, first_of, one_of}
use Rattle.herd_clerks.specs.declared.deal.DeskPlan.{DeskPlan}
use Rattle.herd_office.specs.declared.limits.TheConstants.{MOST_DESKS, MOST_INSPECTORS}
use Rattle.herd_frozen.specs.declared.TheConstants.{MOST_ANIMALS}
use Rattle.herd_pool.specs.declared.limits.TheConstants.{DEFAULT_BLOCK, MOST_WORKERS}
use Rattle.herd_pool.specs.declared.work_plan.WorkPlan.{WorkPlan}
use Rattle.herd_register.specs.declared.limits.TheConstants.{MOST_STEPS}
use Rattle.herd_register.specs.Limits.{Limits}
use Rattle.herd_command_line.specs.declared.limits.TheConstants.{DEFAULT_ANIMALS, DEFAULT_STEPS}
use Rattle.herd_command_line.specs.declared.plans.OfficePlan.{OfficePlan}

-- a subcommand's name, and what was found of its arguments
abbrev pub Found : Type 0
Found = Option (Text × List Row)

abbrev pub name_in : Found → Option Text
name_in found = option_map (λ part. part.0) found

abbrev pub rows_in : Found → List Row
rows_in found = unwrap_or (option_map (λ part. part.1) found) []

-- a text writes a number from `least` to `most`
pub record Writes (least most : ℕ) (text : Text) (number : ℕ) : Type 0 where
  pub numeral : IsNumeral 10 (without_leading_plus text)
  pub value : digits_value 10 (without_leading_plus text) ≡ number
  pub low : least ≤ number
  pub high : number ≤ most

-- the number from `least` to `most` that a text writes, and another where there is no text or it writes none of these
abbrev pub IsNumberOr : ℕ → ℕ → ℕ → Option Text → ℕ → Type 0
IsNumberOr least most other None number = number ≡ other
IsNumberOr least most other (Some text) number =
    Writes least most text number ⊎ (((n : ℕ) → Writes least most text n → ⊥) × (number ≡ other))

-- the first text of an argument, and the empty text where there is none
abbrev pub text_of : Text → List Row → Text
text_of id rows = unwrap_or (first_of id rows) []

-- all texts of an argument
abbrev pub texts_of : Text → List Row → List Text
texts_of id rows = unwrap_or (all_of id rows) []

-- how the words share work, and commands; the numbers are those of the command line's rules
abbrev pub IsWorkPlanOf : List Row → WorkPlan → Type 0
IsWorkPlanOf rows plan =
    IsNumberOr 1 MOST_WORKERS 1 (one_of (codes "workers") rows) plan.workers
    × IsNumberOr 1 MOST_ANIMALS DEFAULT_BLOCK (one_of (codes "block") rows) plan.block

abbrev pub IsDeskPlanOf : List Row → DeskPlan → Type 0
IsDeskPlanOf rows plan =
    IsNumberOr 1 MOST_DESKS 2 (one_of (codes "desks") rows) plan.desks
    × IsNumberOr 0 MOST_STEPS 0 (one_of (codes "base") rows) plan.base

-- how large the book and its journal may grow
abbrev pub AreLimitsOf : List Row → Limits → Type 0
AreLimitsOf rows limits =
    IsNumberOr 1 MOST_ANIMALS DEFAULT_ANIMALS (one_of (codes "limit-animals") rows) limits.animals
    × IsNumberOr 1 MOST_STEPS DEFAULT_STEPS (one_of (codes "limit-steps") rows) limits.steps

-- how large a session's office is
abbrev pub IsOfficePlanOf : List Row → OfficePlan → Type 0
IsOfficePlanOf rows plan =
    IsNumberOr 1 MOST_DESKS 4 (one_of (codes "desks") rows) plan.desks
    × IsNumberOr 1 MOST_INSPECTORS 4 (one_of (codes "inspectors") rows) plan.inspectors
    × AreLimitsOf rows plan.limits
