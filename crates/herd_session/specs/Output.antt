-- What stands on the writer that all answers go to.
use Rattle.std.specs.Prelude.{ℕ, Bool, true, false, List, Option}
use Rattle.herd_register.specs.Limits.{Limits}
use Rattle.herd_register.specs.declared.step.Step.{Step}
use Rattle.csv_records.specs.Fields.{Fields}
use Rattle.herd_session.specs.Answers.{AreWritten}

-- answers were written and nothing else, but for what waits; or once a write has failed, but for some rest of them
abbrev pub HasAnswers : Limits → Option (List Fields) → List Step → Bool → Option (List ℕ) → Option (List ℕ) → List ℕ
    → Type 0
HasAnswers limits records journal false old new waiting = AreWritten limits records journal old new waiting
HasAnswers limits records journal true old new waiting =
    (rest : List ℕ) × AreWritten limits records journal old new rest
