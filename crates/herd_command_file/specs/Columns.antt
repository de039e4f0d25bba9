-- What stands in the columns of a record, as texts.
use Rattle.std.specs.Prelude.{[], ◌∷◌, Bool}
use Rattle.std.specs.Cmp.Lexicographic.{pointwise}
use Rattle.std.specs.Str.{bytes_eq}
use Rattle.herd_command_file.specs.Grammar.{Texts, first_columns}
use Rattle.herd_command_file.specs.declared.columns.Columns.{Columns}

-- the columns of a record as texts
abbrev pub texts_of : Columns → Texts
texts_of c = record {
  kind = c.kind.now;
  animal = c.animal.now;
  day = c.day.now;
  sire = c.sire.now;
  dam = c.dam.now;
  from = c.from.now;
  to = c.to.now;
  embryo = c.embryo.now;
}

-- the texts are the names of version 1's columns
abbrev pub are_names : Texts → Bool
are_names c =
    pointwise bytes_eq (c.kind ∷ c.animal ∷ c.day ∷ c.sire ∷ c.dam ∷ c.from ∷ c.to ∷ []) first_columns
