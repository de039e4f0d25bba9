-- What one record of a command file means.
use Rattle.std.specs.Prelude.{ℕ, List, [], ◌∷◌, ◌++◌, drop, length, codes, Bool, false, ◌==◌, if◌then◌else◌, Option, Some, None, Result, Ok, Err}
use Rattle.std.specs.Option.{option_map_or}
use Rattle.std.specs.Str.{bytes_eq}
use Rattle.std.specs.Cmp.Lexicographic.{pointwise}
use Rattle.csv_records.specs.Fields.{Fields, field}
use Rattle.herd_register.specs.declared.command.Command.{Command}
use Rattle.herd_register.specs.declared.command.Command.TheVariants as command
use Rattle.herd_command_file.specs.Field.{day_in, herd_in, is_animal_number, is_day, is_embryo, is_embryo_flag, is_empty, is_herd, is_parent, parent_in}
use Rattle.herd_command_file.specs.declared.columns.Kind.{Kind}
use Rattle.herd_command_file.specs.declared.columns.Kind.TheVariants.{Birth, Parents, Transfer, Exit}
use Rattle.herd_command_file.specs.declared.line_fault.LineCause.{LineCause}
use Rattle.herd_command_file.specs.declared.line_fault.LineCause.TheVariants as cause
use Rattle.herd_command_file.specs.declared.line_fault.LineCause.TheVariants.{Animal, Day, Sire, Dam, FromHerd, ToHerd, FieldNotUsed, Embryo}
use Rattle.herd_command_file.specs.declared.version.Version.{Version}
use Rattle.herd_command_file.specs.declared.version.Version.TheVariants.{One, Two}

-- the columns of version 1
abbrev pub first_columns : Fields
first_columns =
    codes "kind" ∷ codes "animal" ∷ codes "day" ∷ codes "sire" ∷ codes "dam" ∷ codes "from" ∷ codes "to" ∷ []

-- the header of a version: version 2 has one more column
abbrev pub header : Version → Fields
header One = first_columns
header Two = first_columns ++ codes "embryo" ∷ []

-- whether a record is the header of a version
abbrev pub is_header : Version → Fields → Bool
is_header version fields = pointwise bytes_eq fields (header version)

-- the version whose header a record is
unfoldable pub version_of : Fields → Option Version
version_of fields = if is_header One fields then Some One else if is_header Two fields then Some Two else None

-- the kind that a text names
abbrev pub kind_of : List ℕ → Option Kind
kind_of text =
    if bytes_eq text (codes "birth") then Some Birth
    else if bytes_eq text (codes "parents") then Some Parents
    else if bytes_eq text (codes "transfer") then Some Transfer
    else if bytes_eq text (codes "exit") then Some Exit
    else None

-- whether a column accepts a text; a column is named by the cause of a text that it doesn't accept
abbrev pub accepts : LineCause → List ℕ → Bool
accepts Animal text = is_animal_number text
accepts Day text = is_day text
accepts Sire text = is_parent text
accepts Dam text = is_parent text
accepts FromHerd text = is_herd text
accepts ToHerd text = is_herd text
accepts FieldNotUsed text = is_empty text
accepts Embryo text = is_embryo_flag text
accepts other text = false

-- the columns animal, day, sire, dam, from, to and embryo, as a kind uses them
abbrev pub columns : Kind → List LineCause
columns Birth = Animal ∷ Day ∷ Sire ∷ Dam ∷ FieldNotUsed ∷ ToHerd ∷ Embryo ∷ []
columns Parents = Animal ∷ FieldNotUsed ∷ Sire ∷ Dam ∷ FieldNotUsed ∷ FieldNotUsed ∷ FieldNotUsed ∷ []
columns Transfer = Animal ∷ Day ∷ FieldNotUsed ∷ FieldNotUsed ∷ FromHerd ∷ ToHerd ∷ FieldNotUsed ∷ []
columns Exit = Animal ∷ Day ∷ FieldNotUsed ∷ FieldNotUsed ∷ FieldNotUsed ∷ FieldNotUsed ∷ FieldNotUsed ∷ []

-- the cause of the first field that its column doesn't accept
abbrev pub first_fault : List LineCause → Fields → Option LineCause
first_fault [] fields = None
first_fault (column ∷ more) [] = None
first_fault (column ∷ more) (field ∷ fields) = if accepts column field then first_fault more fields else Some column

-- the fields of a record by their columns
pub record Texts : Type 0 where
  pub kind : List ℕ
  pub animal : List ℕ
  pub day : List ℕ
  pub sire : List ℕ
  pub dam : List ℕ
  pub from : List ℕ
  pub to : List ℕ
  pub embryo : List ℕ

-- the columns of a record; version 1 has no embryo column, which is read as empty
abbrev pub texts_in : Fields → Texts
texts_in fields = record {
  kind = field 0 fields;
  animal = field 1 fields;
  day = field 2 fields;
  sire = field 3 fields;
  dam = field 4 fields;
  from = field 5 fields;
  to = field 6 fields;
  embryo = field 7 fields;
}

-- the fields that stand behind the kind, in their order
abbrev pub used_fields : Texts → Fields
used_fields c = c.animal ∷ c.day ∷ c.sire ∷ c.dam ∷ c.from ∷ c.to ∷ c.embryo ∷ []

-- the command of a kind in columns that accept their fields
abbrev pub command_in : Kind → Texts → Command
command_in Birth c =
    command.Birth c.animal (day_in c.day) (parent_in c.sire) (parent_in c.dam) (herd_in c.to) (is_embryo c.embryo)
command_in Parents c = command.Parents c.animal (parent_in c.sire) (parent_in c.dam)
command_in Transfer c = command.Transfer c.animal (day_in c.day) (herd_in c.from) (herd_in c.to)
command_in Exit c = command.Exit c.animal (day_in c.day)

-- the command of a kind in its columns, or the first fault
abbrev pub command_or_fault : Kind → Texts → Result Command LineCause
command_or_fault kind c = option_map_or Err (first_fault (columns kind) (used_fields c)) (Ok (command_in kind c))

-- the command in the columns of a record, or its fault
abbrev pub command_in_columns : Texts → Result Command LineCause
command_in_columns c = option_map_or (λ kind. command_or_fault kind c) (kind_of c.kind) (Err cause.Kind)

-- the command of a record under the header of a version, or its fault
unfoldable pub command_of : Version → Fields → Result Command LineCause
command_of version fields =
    if length fields == length (header version) then command_in_columns (texts_in fields) else Err cause.Fields

-- the command of the fields that stand behind so many others, in the columns of version 2, or its fault
abbrev pub command_behind : ℕ → Fields → Result Command LineCause
command_behind others fields = command_of Two (drop others fields)
