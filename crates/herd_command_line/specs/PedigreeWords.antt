-- What the words behind `pedigree` ask for.
use Rattle.std.specs.Prelude.{◌≡◌, ◌==◌, ◌&&◌, ◌||◌, ℕ, Bool, true, false, not, codes, length, map, List, Option}
use Rattle.std.specs.Str.{bytes_eq}
use Rattle.clap.specs.Words.{Row, Text, kind_of, one_of}
use Rattle.clap.specs.declared.error.kind.ErrorKind.TheVariants.{OutOfMemory}
use Rattle.herd_frozen.specs.declared.TheConstants.{MOST_ANIMALS}
use Rattle.herd_pedigree_file.specs.Number.{rank_in}
use Rattle.herd_pedigree_report.specs.declared.pedigree_order.PedigreeOrder.{PedigreeOrder}
use Rattle.herd_pedigree_report.specs.declared.pedigree_order.PedigreeOrder.TheVariants.{Inbreeding, Inverse, Relationships}
use Rattle.herd_command_line.specs.Texts.{IsNumberOr, IsWorkPlanOf, text_of, texts_of}
use Rattle.herd_command_line.specs.declared.arguments.WordsFault.{WordsFault}
use Rattle.herd_command_line.specs.declared.arguments.WordsFault.TheVariants.{Words, Number, Misplaced, NoSeal}
use Rattle.herd_command_line.specs.declared.plans.PedigreePlan.{PedigreePlan}
use Rattle.herd_command_line.specs.declared.limits.TheConstants.{DEFAULT_ANIMALS}

-- whether an argument has texts, and whether its text is this one
abbrev pub is_given : Text → List Row → Bool
is_given id rows = not (length (texts_of id rows) == 0)

abbrev pub says : Text → Text → List Row → Bool
says id text rows = bytes_eq (text_of id rows) text

-- animals are named, or work is shared
abbrev pub names_animals : List Row → Bool
names_animals rows = is_given (codes "ANIMAL") rows || is_given (codes "with") rows

abbrev pub has_plan : List Row → Bool
has_plan rows = is_given (codes "workers") rows || is_given (codes "block") rows

abbrev pub wants_units : List Row → Bool
wants_units rows = says (codes "units") (codes "true") rows

-- a report is asked for, with words that belong to it
abbrev pub asks_inbreeding : List Row → Bool
asks_inbreeding rows = says (codes "REPORT") (codes "inbreeding") rows && not (names_animals rows)

abbrev pub asks_inverse : List Row → Bool
asks_inverse rows =
    says (codes "REPORT") (codes "inverse") rows && not (names_animals rows) && not (has_plan rows)
    && not (wants_units rows)

abbrev pub asks_relationships : List Row → Bool
asks_relationships rows =
    says (codes "REPORT") (codes "relationships") rows && is_given (codes "ANIMAL") rows && not (has_plan rows)

-- the ranks of the animals that an argument names
abbrev pub named_in : Text → List Row → List (Option ℕ)
named_in id rows = map (rank_in MOST_ANIMALS) (texts_of id rows)

-- what is asked of a pedigree
abbrev pub IsPedigreeOrdered : List Row → PedigreeOrder → Type 0
IsPedigreeOrdered rows (Inbreeding plan in_units) =
    (asks_inbreeding rows ≡ true) × IsWorkPlanOf rows plan × (in_units ≡ wants_units rows)
IsPedigreeOrdered rows Inverse = asks_inverse rows ≡ true
IsPedigreeOrdered rows (Relationships animals others in_units) =
    (asks_relationships rows ≡ true) × (animals.now ≡ named_in (codes "ANIMAL") rows)
    × (others.now ≡ named_in (codes "with") rows) × (in_units ≡ wants_units rows)

-- the words ask for no report, or have some that don't belong to it
abbrev pub AreMisplaced : List Row → Type 0
AreMisplaced rows =
    (asks_inbreeding rows ≡ false) × (asks_inverse rows ≡ false) × (asks_relationships rows ≡ false)

-- memory ran out, or words are misplaced
abbrev pub IsPedigreeUnread : List Row → WordsFault → Type 0
IsPedigreeUnread rows (Words error) = kind_of error ≡ OutOfMemory
IsPedigreeUnread rows (Number fault) = ⊥
IsPedigreeUnread rows Misplaced = AreMisplaced rows
IsPedigreeUnread rows NoSeal = ⊥

-- how large the pedigree may be
abbrev pub IsPedigreePlanOf : List Row → PedigreePlan → Type 0
IsPedigreePlanOf rows plan =
    IsNumberOr 1 MOST_ANIMALS DEFAULT_ANIMALS (one_of (codes "limit-animals") rows) plan.animals
