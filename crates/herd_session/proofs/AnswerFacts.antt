-- Answers that were written, and those that are written next.
use Rattle.std.proofs.Common.{◌≡◌, ◌∙◌, ◌⊎◌, ⊎_elim, inl, inr, ℕ, Bool, true, false, Result, Ok, Err, List, [], ◌∷◌, ◌++◌, Option, refl, ap, sym, subst}
use Rattle.std.proofs.KnownBytes.{Appends-nil}
use Rattle.std.proofs.lemmas.List.{append-nil}
use Rattle.std.proofs.lemmas.List.Concat.{flat_map-append}
use Rattle.std.proofs.lemmas.List.Elements.{All-nil, All-push, All-weaker}
use Rattle.std.specs.Prelude.{OnErr, OnOk, is_err}
use mathlib.Core.List.{IsPrefix}
use Rattle.herd_register.specs.Limits.{Limits}
use Rattle.herd_register.specs.declared.step.Step.{Step}
use Rattle.herd_office.proofs.Fronts.{prefix_trans}
use Rattle.csv_records.specs.Fields.{Fields}
use Rattle.herd_text.proofs.lemmas.TextFacts.{passes_before, passes_more}
use Rattle.herd_text.specs.Text.{PassesOn}
use Rattle.herd_session.specs.Answers.{AreWritten, IsAnswer, IsFaultTold, IsReplyTold, IsReportTold, joined}
use Rattle.herd_session.specs.Output.{HasAnswers}

reply_later : (limits : Limits) (records : Option (List Fields)) (before after : List Step) (text : List ℕ) → IsPrefix before after
    → IsReplyTold limits records before text → IsReplyTold limits records after text
reply_later limits records before after text longer told =
    record {
      before = told.before;
      desk = told.desk;
      tag = told.tag;
      command = told.command;
      asked = told.asked;
      reply = told.reply;
      history = told.history;
      legal = told.legal;
      begins = prefix_trans told.history before after told.begins longer;
      ends = told.ends;
      told = told.told;
    }

report_later : (limits : Limits) (records : Option (List Fields)) (before after : List Step) (text : List ℕ) → IsPrefix before after
    → IsReportTold limits records before text → IsReportTold limits records after text
report_later limits records before after text longer told =
    record {
      before = told.before;
      inspector = told.inspector;
      tag = told.tag;
      question = told.question;
      asked = told.asked;
      history = told.history;
      legal = told.legal;
      begins = prefix_trans told.history before after told.begins longer;
      told = told.told;
    }

-- an answer stays one while the journal grows
pub answer_later : (limits : Limits) (records : Option (List Fields)) (before after : List Step) (text : List ℕ) → IsPrefix before after
    → IsAnswer limits records before text → IsAnswer limits records after text
answer_later limits records before after text longer told =
    ⊎_elim
    (λ (reply : IsReplyTold limits records before text). inl (reply_later limits records before after text longer reply))
    (λ (other : IsReportTold limits records before text ⊎ IsFaultTold records text).
    inr (⊎_elim
    (λ (report : IsReportTold limits records before text). inl (report_later limits records before after text longer report))
    (λ (fault : IsFaultTold records text). inr fault)
    other))
    told

-- nothing was written yet
pub nothing_written : (limits : Limits) (records : Option (List Fields)) (journal : List Step) (known : Option (List ℕ)) → AreWritten limits records journal known known []
nothing_written limits records journal known = record {
  answers = [];
  each = All-nil (IsAnswer limits records journal);
  written = record { front = []; split = refl; written = Appends-nil known };
}

-- what was written stays so while the journal grows
pub written_later : (limits : Limits) (records : Option (List Fields)) (before after : List Step) (old new : Option (List ℕ)) (rest : List ℕ)
    → IsPrefix before after → AreWritten limits records before old new rest → AreWritten limits records after old new rest
written_later limits records before after old new rest longer are =
    record {
      answers = are.answers;
      each =
          All-weaker (IsAnswer limits records before) (IsAnswer limits records after)
          (λ text told. answer_later limits records before after text longer told)
          are.answers are.each;
      written = are.written;
    }

joined-more : (answers : List (List ℕ)) (text : List ℕ) → joined (answers ++ text ∷ []) ≡ joined answers ++ text
joined-more answers text =
    flat_map-append (λ (answer : List ℕ). answer) answers (text ∷ []) ∙ ap (λ l. joined answers ++ l) (append-nil text)

-- an answer more was written, or waits, behind what waited before
pub written_more : (limits : Limits) (records : Option (List Fields)) (journal : List Step) (old now new : Option (List ℕ))
    (waiting text rest : List ℕ)
    → AreWritten limits records journal old now waiting → IsAnswer limits records journal text
    → PassesOn now new (waiting ++ text) rest → AreWritten limits records journal old new rest
written_more limits records journal old now new waiting text rest are told passed =
    record {
      answers = are.answers ++ text ∷ [];
      each = All-push (IsAnswer limits records journal) are.answers text are.each told;
      written =
          subst (λ whole. PassesOn old new whole rest) (sym (joined-more are.answers text))
          (passes_more (passes_before text are.written) passed);
    }

-- the same, once a write may have failed
pub has_later : (limits : Limits) (records : Option (List Fields)) (before after : List Step) (failed : Bool) (old now : Option (List ℕ))
    (waiting : List ℕ) → IsPrefix before after → HasAnswers limits records before failed old now waiting
    → HasAnswers limits records after failed old now waiting
has_later limits records before after false old now waiting longer has =
    written_later limits records before after old now waiting longer has
has_later limits records before after true old now waiting longer has =
    (has.0, written_later limits records before after old now has.0 longer has.1)

-- an answer more was written or waits, or its writing failed
pub has_written : {T E : Type 0} (result : Result T E) (limits : Limits) (records : Option (List Fields)) (before history after : List Step)
    (old now new : Option (List ℕ)) (waiting text left : List ℕ)
    → HasAnswers limits records before false old now waiting → IsPrefix before after
    → IsAnswer limits records history text → IsPrefix history after
    → OnOk result (PassesOn now new (waiting ++ text) left)
    → OnErr result ((rest : List ℕ) × PassesOn now new (waiting ++ text) rest)
    → HasAnswers limits records after (is_err result) old new left
has_written (Ok done) limits records before history after old now new waiting text left has longer told begins ok err =
    written_more limits records after old now new waiting text left
    (written_later limits records before after old now waiting longer has)
    (answer_later limits records history after text begins told) ok
has_written (Err fault) limits records before history after old now new waiting text left has longer told begins ok err = (
  err.0,
  written_more limits records after old now new waiting text err.0
      (written_later limits records before after old now waiting longer has)
      (answer_later limits records history after text begins told) err.1,
)
