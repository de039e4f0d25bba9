-- The subcommands by their names.
use Rattle.std.specs.Prelude.{ℕ, List, codes, if◌then◌else◌}
use Rattle.std.specs.Str.{bytes_eq}
use Rattle.herd_command_line.specs.declared.subcommand.Subcommand.{Subcommand}
use Rattle.herd_command_line.specs.declared.subcommand.Subcommand.TheVariants.{File, Inbreeding, Certificate, Mating, Inverse, Relationships, Records, Seal, Sealed, Check, Pedigree, Clerks, Session}

-- the subcommand of a name; any other name is as `file`
abbrev pub subcommand_named : List ℕ → Subcommand
subcommand_named name =
    if bytes_eq name (codes "inbreeding") then Inbreeding
    else if bytes_eq name (codes "certificate") then Certificate
    else if bytes_eq name (codes "mating") then Mating
    else if bytes_eq name (codes "inverse") then Inverse
    else if bytes_eq name (codes "relationships") then Relationships
    else if bytes_eq name (codes "records") then Records
    else if bytes_eq name (codes "seal") then Seal
    else if bytes_eq name (codes "sealed") then Sealed
    else if bytes_eq name (codes "check") then Check
    else if bytes_eq name (codes "pedigree") then Pedigree
    else if bytes_eq name (codes "clerks") then Clerks
    else if bytes_eq name (codes "session") then Session
    else File
