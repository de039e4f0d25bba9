-- How sessions end.
use Rattle.std.proofs.Common.{◌≡◌, ◌∙◌, inl, inr, Bool, true, false, ℕ, List, [], ◌++◌, Option, length, refl, ap, sym, subst}
use Rattle.std.proofs.KnownBytes.{Appends-nil}
use Rattle.std.proofs.lemmas.List.{append-nil}
use Rattle.std.proofs.lemmas.List.Elements.{All-nil}
use Rattle.std.specs.Io.KnownBytes.{Appends}
use mathlib.Core.List.{IsPrefix}
use Rattle.herd_register.specs.Limits.{Limits}
use Rattle.herd_register.specs.Register.{Register}
use Rattle.herd_register.specs.Run.{IsLegal, commands_of, run_book}
use Rattle.herd_register.specs.declared.step.Step.{Step}
use Rattle.csv_records.specs.Fields.{Fields}
use Rattle.herd_text.proofs.lemmas.TextFacts.{passes_before, passes_more}
use Rattle.herd_text.specs.Text.{PassesOn}
use Rattle.herd_office.specs.declared.faults.OpenFault.{OpenFault}
use Rattle.herd_office.specs.declared.faults.OpenFault.TheVariants as opening
use Rattle.herd_session.proofs.AnswerFacts.{written_later}
use Rattle.herd_session.specs.Answers.{AreWritten, IsAnswer, closed_line, joined}
use Rattle.herd_session.specs.Closing.{CanStop, EndsBy, EndsEarly, EndsUnclosed, IsClosedSession, IsOfDesks, fault_of_opening, last_line}
use Rattle.herd_session.specs.Output.{HasAnswers}
use Rattle.herd_session.specs.declared.session_fault.SessionFault.{SessionFault}
use Rattle.herd_session.specs.declared.session_fault.SessionFault.TheVariants.{Line, Memory, NoPlace, NoThread, Write}

-- answers alone were written, but for some rest
pub ends_early : (limits : Limits) (records : Option (List Fields)) (journal : List Step) (old now new : Option (List ℕ)) (waiting rest : List ℕ)
    → IsLegal limits journal → AreWritten limits records journal old now waiting → PassesOn now new waiting rest → EndsEarly limits records old new
ends_early limits records journal old now new waiting rest legal are passed = record {
  journal = journal;
  legal = legal;
  answers = are.answers;
  each = are.each;
  ending = [];
  last = inl refl;
  rest = rest;
  written =
      subst (λ text. PassesOn old new text rest) (sym (append-nil (joined are.answers))) (passes_more are.written passed);
}

-- all that waits stays so
stays : (known : Option (List ℕ)) (waiting : List ℕ) → PassesOn known known waiting waiting
stays known waiting = record { front = []; split = refl; written = Appends-nil known }

-- all that waits was written
whole : (now new : Option (List ℕ)) (waiting : List ℕ) → Appends now new waiting → PassesOn now new waiting []
whole now new waiting written = record { front = waiting; split = append-nil waiting; written = written }

-- what the writer has is answers
pub ends_unwritten : (limits : Limits) (records : Option (List Fields)) (journal : List Step) (failed : Bool) (old new : Option (List ℕ))
    (waiting : List ℕ) → IsLegal limits journal → HasAnswers limits records journal failed old new waiting → EndsEarly limits records old new
ends_unwritten limits records journal false old new waiting legal are =
    ends_early limits records journal old new new waiting waiting legal are (stays new waiting)
ends_unwritten limits records journal true old new waiting legal are =
    ends_early limits records journal old new new are.0 are.0 legal are.1 (stays new are.0)

-- answers alone were written whole
ends_unclosed : (limits : Limits) (records : Option (List Fields)) (journal : List Step) (old now new : Option (List ℕ)) (waiting : List ℕ)
    → IsLegal limits journal → AreWritten limits records journal old now waiting → Appends now new waiting → EndsUnclosed limits records old new
ends_unclosed limits records journal old now new waiting legal are written =
    let all = passes_more are.written (whole now new waiting written) in
    record {
      journal = journal;
      legal = legal;
      answers = are.answers;
      each = are.each;
      written = subst (Appends old new) (sym (append-nil all.front) ∙ all.split) all.written;
    }

-- the work stopped, and what waited was written
pub ends_stopped : (fault : SessionFault) (limits : Limits) (records : Option (List Fields)) (journal : List Step) (old now new : Option (List ℕ))
    (waiting : List ℕ)
    → IsLegal limits journal → AreWritten limits records journal old now waiting → Appends now new waiting → CanStop records fault
    → EndsBy limits records old new fault
ends_stopped (Line fault) limits records journal old now new waiting legal are written can =
    (ends_unclosed limits records journal old now new waiting legal are written, can)
ends_stopped NoThread limits records journal old now new waiting legal are written can =
    ends_unclosed limits records journal old now new waiting legal are written
ends_stopped Memory limits records journal old now new waiting legal are written can =
    ends_unclosed limits records journal old now new waiting legal are written
ends_stopped Write limits records journal old now new waiting legal are written can =
    ends_early limits records journal old now new waiting [] legal are (whole now new waiting written)
ends_stopped NoPlace limits records journal old now new waiting legal are written can =
    ends_unclosed limits records journal old now new waiting legal are written

-- nothing was written
nothing : (limits : Limits) (records : Option (List Fields)) (known : Option (List ℕ)) → EndsUnclosed limits records known known
nothing limits records known = record {
  journal = [];
  legal = refl;
  answers = [];
  each = All-nil (IsAnswer limits records []);
  written = Appends-nil known;
}

-- the office wasn't opened
pub ends_unbegun : (cause : OpenFault) (limits : Limits) (records : Option (List Fields)) (known : Option (List ℕ))
    → EndsBy limits records known known (fault_of_opening cause)
ends_unbegun opening.Memory limits records known = nothing limits records known
ends_unbegun opening.NoPlace limits records known = nothing limits records known

-- answers and a front of the last line were written
pub ends_within : (limits : Limits) (records : Option (List Fields)) (told : List Step) (register : Register) (old now new : Option (List ℕ))
    (waiting rest : List ℕ)
    → AreWritten limits records told old now waiting → IsPrefix told register.journal → register.limits ≡ limits
    → IsLegal register.limits register.journal → PassesOn now new (waiting ++ last_line register) rest → EndsEarly limits records old new
ends_within limits records told register old now new waiting rest are begins same legal passed =
    let later = written_later limits records told register.journal old now waiting begins are in
    record {
      journal = register.journal;
      legal = subst (λ (l : Limits). IsLegal l register.journal) same legal;
      answers = later.answers;
      each = later.each;
      ending = last_line register;
      last =
          inr (ap (λ (l : Limits). closed_line (length register.journal) (length (run_book l (commands_of register.journal)))) same);
      rest = rest;
      written = passes_more (passes_before (last_line register) later.written) passed;
    }

-- answers and the last line were written
pub ends_closed : (limits : Limits) (records : Option (List Fields)) (told : List Step) (register : Register) (old now new : Option (List ℕ))
    (waiting : List ℕ)
    → AreWritten limits records told old now waiting → IsPrefix told register.journal → register.limits ≡ limits
    → IsLegal register.limits register.journal → (numbers : List ℕ) → IsOfDesks records register.journal numbers
    → PassesOn now new (waiting ++ last_line register) [] → IsClosedSession limits records old new
ends_closed limits records told register old now new waiting are begins same legal numbers desks passed =
    let later = written_later limits records told register.journal old now waiting begins are in
    let all = passes_more (passes_before (last_line register) later.written) passed in
    let whole : all.front ≡ joined later.answers ++ last_line register = sym (append-nil all.front) ∙ all.split in
    record {
      journal = register.journal;
      legal = subst (λ (l : Limits). IsLegal l register.journal) same legal;
      numbers = numbers;
      of_desks = desks;
      answers = later.answers;
      each = later.each;
      written =
          subst
          (λ (l : Limits). Appends old new (joined later.answers ++ closed_line (length register.journal) (length (run_book l (commands_of register.journal)))))
          same (subst (Appends old new) whole all.written);
    }
