-- What a writer holds after a text, or a front of it.
use Rattle.std.specs.Prelude.{◌≡◌, ◌⊎◌, ℕ, ◌<◌, List, ◌++◌, length, Option}
use Rattle.std.specs.Io.KnownBytes.{Appends}
use Rattle.herd_text.specs.declared.report_fault.ReportFault.{ReportFault}
use Rattle.herd_text.specs.declared.report_fault.ReportFault.TheVariants.{Memory, Write}

-- known bytes grow by a front of the text, and the rest is left
pub record PassesOn (old new : Option (List ℕ)) (text rest : List ℕ) : Type 0 where
  pub front : List ℕ
  pub split : front ++ rest ≡ text
  pub written : Appends old new front

-- known bytes grow by a front of the text, and some of it is left
pub record AppendsFront (old new : Option (List ℕ)) (text : List ℕ) : Type 0 where
  pub rest : List ℕ
  pub left : 0 < length rest
  pub passed : PassesOn old new text rest

-- how a text before which memory may run out ends early
abbrev pub EndsReport : Option (List ℕ) → Option (List ℕ) → List ℕ → ReportFault → Type 0
EndsReport old new text Write = AppendsFront old new text
EndsReport old new text Memory = (new ≡ old) ⊎ AppendsFront old new text
