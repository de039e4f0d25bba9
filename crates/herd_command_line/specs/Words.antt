-- What the words of the command line ask for, or why they ask for nothing.
use Rattle.std.specs.Prelude.{◌≡◌, ℕ, ◌<◌, ◌⊎◌, All, IsOk, List, Ok, Some, codes, slice_get}
use Rattle.hex.specs.Hex.{decode_sized}
use Rattle.std.specs.Option.{option_map_or}
use Rattle.clap.specs.Words.{HasKind, Row, Text, fault_of, kind_of, subcommand_of}
use Rattle.clap.specs.declared.error.kind.ErrorKind.TheVariants.{OutOfMemory}
use Rattle.herd_animal.specs.AnimalNumber.{IsAnimalNumber}
use Rattle.herd_animal.specs.NumberFault.{IsNumberFault}
use Rattle.herd_animal.specs.declared.number.NumberFault.{NumberFault}
use Rattle.herd_orders.specs.declared.orders.Order.{Order}
use Rattle.herd_orders.specs.declared.orders.Order.TheVariants.{Inbreeding, Certificates, Mating, Inverse, Relationships, Records, Seal, Sealed}
use Rattle.herd_command_line.specs.CommandLine.{command_line}
use Rattle.herd_command_line.specs.Subcommand.{subcommand_named}
use Rattle.herd_command_line.specs.declared.arguments.Request.{Request}
use Rattle.herd_command_line.specs.declared.arguments.Request.TheVariants.{File, Report, Check, Pedigree, Clerks, Session}
use Rattle.herd_command_line.specs.declared.arguments.WordsFault.{WordsFault}
use Rattle.herd_command_line.specs.declared.arguments.WordsFault.TheVariants.{Words, Number, Misplaced, NoSeal}
use Rattle.herd_command_line.specs.PedigreeWords.{AreMisplaced, IsPedigreeOrdered, IsPedigreePlanOf}
pub use Rattle.herd_command_line.specs.Texts.{AreLimitsOf, Found, IsDeskPlanOf, IsNumberOr, IsOfficePlanOf, IsWorkPlanOf}
pub use Rattle.herd_command_line.specs.Texts.{name_in, rows_in, text_of, texts_of}
use Rattle.herd_command_line.specs.declared.subcommand.Subcommand.{Subcommand}
use Rattle.herd_command_line.specs.declared.subcommand.Subcommand.TheVariants as sub

-- that subcommand, and `file` where none was found
abbrev pub subcommand_in : Found → Subcommand
subcommand_in found = option_map_or subcommand_named (name_in found) sub.File

-- what is asked of the book
abbrev pub IsOrdered : Found → Order → Type 0
IsOrdered found (Inbreeding plan) =
    (subcommand_in found ≡ sub.Inbreeding) × IsWorkPlanOf (rows_in found) plan
IsOrdered found (Certificates numbers) =
    (subcommand_in found ≡ sub.Certificate) × (texts_of (codes "NUMBER") (rows_in found) ≡ numbers.now)
IsOrdered found (Mating dam sires) =
    (subcommand_in found ≡ sub.Mating)
    × (text_of (codes "dam") (rows_in found) ≡ dam)
    × (texts_of (codes "SIRE") (rows_in found) ≡ sires.now)
IsOrdered found Inverse = subcommand_in found ≡ sub.Inverse
IsOrdered found (Relationships numbers others) =
    (subcommand_in found ≡ sub.Relationships)
    × (texts_of (codes "NUMBER") (rows_in found) ≡ numbers.now)
    × (texts_of (codes "with") (rows_in found) ≡ others.now)
IsOrdered found (Records numbers) =
    (subcommand_in found ≡ sub.Records) × (texts_of (codes "NUMBER") (rows_in found) ≡ numbers.now)
IsOrdered found Seal = subcommand_in found ≡ sub.Seal
IsOrdered found (Sealed number) =
    (subcommand_in found ≡ sub.Sealed) × (text_of (codes "NUMBER") (rows_in found) ≡ number)

abbrev pub IsAsked : Found → Request → Type 0
IsAsked found (File book) = (subcommand_in found ≡ sub.File) × AreLimitsOf (rows_in found) book.limits
IsAsked found (Report book order) = IsOrdered found order × AreLimitsOf (rows_in found) book.limits
IsAsked found (Check plan) =
    (subcommand_in found ≡ sub.Check) × (decode_sized (text_of (codes "SEAL") (rows_in found)) 32 ≡ Ok plan.seal)
IsAsked found (Pedigree plan order) =
    (subcommand_in found ≡ sub.Pedigree) × IsPedigreePlanOf (rows_in found) plan × IsPedigreeOrdered (rows_in found) order
IsAsked found (Clerks book plan) =
    (subcommand_in found ≡ sub.Clerks) × IsDeskPlanOf (rows_in found) plan × AreLimitsOf (rows_in found) book.limits
IsAsked found (Session plan) = (subcommand_in found ≡ sub.Session) × IsOfficePlanOf (rows_in found) plan

-- the fault is that of the first text that is no animal number
pub record IsFirstFault (texts : List Text) (fault : NumberFault) : Type 0 where
  pub place : ℕ
  pub text : Text
  pub there : slice_get texts place ≡ Some text
  pub wrong : IsNumberFault text fault
  pub before : (earlier : ℕ) (other : Text) → earlier < place → slice_get texts earlier ≡ Some other
      → IsAnimalNumber other

-- the fault of the first of a dam and then her sires that is no animal number
abbrev pub IsMatingFault : List Row → NumberFault → Type 0
IsMatingFault rows fault =
    IsNumberFault (text_of (codes "dam") rows) fault
    ⊎ (IsAnimalNumber (text_of (codes "dam") rows) × IsFirstFault (texts_of (codes "SIRE") rows) fault)

-- the fault of the first of some animals and then of the others that is no animal number
abbrev pub IsPairsFault : List Row → NumberFault → Type 0
IsPairsFault rows fault =
    IsFirstFault (texts_of (codes "NUMBER") rows) fault
    ⊎ (All IsAnimalNumber (texts_of (codes "NUMBER") rows) × IsFirstFault (texts_of (codes "with") rows) fault)

abbrev pub IsWrongNumber : Found → NumberFault → Type 0
IsWrongNumber found fault =
    ((subcommand_in found ≡ sub.Certificate) × IsFirstFault (texts_of (codes "NUMBER") (rows_in found)) fault)
    ⊎ ((subcommand_in found ≡ sub.Mating) × IsMatingFault (rows_in found) fault)
    ⊎ ((subcommand_in found ≡ sub.Relationships) × IsPairsFault (rows_in found) fault)
    ⊎ ((subcommand_in found ≡ sub.Records) × IsFirstFault (texts_of (codes "NUMBER") (rows_in found)) fault)
    ⊎ ((subcommand_in found ≡ sub.Sealed) × IsNumberFault (text_of (codes "NUMBER") (rows_in found)) fault)

-- the words behind `pedigree` ask for no report, or have some that don't belong to it
abbrev pub IsMisplaced : Found → Type 0
IsMisplaced found = (subcommand_in found ≡ sub.Pedigree) × AreMisplaced (rows_in found)

-- a text is 64 hexadecimal digits: those of 32 bytes
abbrev pub IsSealText : Text → Type 0
IsSealText text = IsOk (decode_sized text 32)

-- the word behind `check` is no seal
abbrev pub IsNoSeal : Found → Type 0
IsNoSeal found = (subcommand_in found ≡ sub.Check) × ¬ (IsSealText (text_of (codes "SEAL") (rows_in found)))

-- memory ran out, or a number is none
abbrev pub IsUnread : (NumberFault → Type 0) → WordsFault → Type 0
IsUnread wrong (Words error) = kind_of error ≡ OutOfMemory
IsUnread wrong (Number fault) = wrong fault
IsUnread wrong Misplaced = ⊥
IsUnread wrong NoSeal = ⊥

-- the same, or words are misplaced, or one is no seal
abbrev pub IsUnreadOf : Found → WordsFault → Type 0
IsUnreadOf found (Words error) = kind_of error ≡ OutOfMemory
IsUnreadOf found (Number fault) = IsWrongNumber found fault
IsUnreadOf found Misplaced = IsMisplaced found
IsUnreadOf found NoSeal = IsNoSeal found

-- `clap` refuses the words, or they ask for help or the version; or a number or a seal is none, or words are misplaced
abbrev pub IsRefused : List Text → WordsFault → Type 0
IsRefused words (Words error) = HasKind (fault_of command_line words) error
IsRefused words (Number fault) = IsWrongNumber (subcommand_of command_line words) fault
IsRefused words Misplaced = IsMisplaced (subcommand_of command_line words)
IsRefused words NoSeal = IsNoSeal (subcommand_of command_line words)
