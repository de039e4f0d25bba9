-- What clerks have done, and how it is told.
use Rattle.std.specs.Prelude.{◌≡◌, ℕ, ◌+◌, List, [], ◌∷◌, ◌++◌, codes, decimal, drop, length, map, sum_by, slice_get, take, Option, Some}
use Rattle.std.specs.List.{range_with_len}
use Rattle.herd_register.specs.Run.{IsLegal, commands_of, run_book}
use Rattle.herd_register.specs.Register.{Register, register_book}
use Rattle.herd_register.specs.declared.command.Command.{Command}
use Rattle.herd_register.specs.Limits.{Limits}
use Rattle.herd_register.specs.declared.step.Step.{Step}
use Rattle.herd_office.specs.Histories.{of_desk}
use Rattle.herd_text.specs.Text.{AppendsFront}
use Rattle.herd_text.specs.declared.report_fault.ReportFault.{ReportFault}
use Rattle.herd_text.specs.declared.report_fault.ReportFault.TheVariants.{Memory, Write}
use Rattle.herd_clerks.specs.Deal.{commands_at, dealt}
use Rattle.herd_clerks.specs.declared.deal.Deal.{Deal}
use Rattle.herd_clerks.specs.declared.summary.DeskCount.{DeskCount}
use Rattle.herd_clerks.specs.declared.summary.Summary.{Summary}

-- a desk's number, and how many of its calls were answered
abbrev pub count_of : ℕ → ℕ → DeskCount
count_of number answered = record { number = number; answered = answered }

-- a line for each desk
abbrev pub desk_lines : List DeskCount → List ℕ
desk_lines [] = []
desk_lines (desk ∷ more) =
    codes "desk " ++ decimal desk.number ++ codes " answered " ++ decimal desk.answered ++ codes "\n" ++ desk_lines more

abbrev pub summary_text : Summary → List ℕ
summary_text summary =
    desk_lines summary.desks.items
    ++ codes "steps " ++ decimal summary.steps ++ codes "\nanimals " ++ decimal summary.animals
    ++ codes "\nseen " ++ decimal summary.seen ++ codes "\n"

-- how the writing of a summary's text may end early: where memory is refused, nothing is written
abbrev pub EndsTelling : Option (List ℕ) → Option (List ℕ) → List ℕ → ReportFault → Type 0
EndsTelling old new text Memory = new ≡ old
EndsTelling old new text Write = AppendsFront old new text

-- a summary has these counts of desks, and the steps and animals of a register, and tells all its steps as seen
pub record CountsOf (register : Register) (desks : List DeskCount) (summary : Summary) : Type 0 where
  pub desks_are : summary.desks.items ≡ desks
  pub steps_are : summary.steps ≡ length register.journal
  pub animals_are : summary.animals ≡ length (register_book register)
  pub all_seen : summary.seen ≡ summary.steps

-- a summary of the closed office of so many desks for commands of which the first ones fell to desk 1: a legal journal
-- is as long as all are, and each desk's steps in it are of the commands that fell to it, in their order; there is a
-- count for each desk, from 1 on, of its steps; the animals are those of the journal's book, and the number told as
-- seen is that of all steps; in which order different desks filed is left open
pub record IsSummaryOf (limits : Limits) (desks : ℕ) (first rest : List Command) (summary : Summary) : Type 0 where
  pub journal : List Step
  pub legal : IsLegal limits journal
  pub steps_are : summary.steps ≡ length journal
  pub as_many : summary.steps ≡ length first + length rest
  pub numbers_are : map (λ d. d.number) summary.desks.items ≡ range_with_len 1 desks
  pub sum_is : sum_by (λ d. d.answered) summary.desks.items ≡ summary.steps
  pub each_is : (place : ℕ) (desk : DeskCount) → slice_get summary.desks.items place ≡ Some desk
      → desk.answered ≡ of_desk desk.number journal
  pub dealt_are : (place : ℕ) (desk : DeskCount) → slice_get summary.desks.items place ≡ Some desk
      → commands_at desk.number journal ≡ dealt desks first rest desk.number
  pub animals_are : summary.animals ≡ length (run_book limits (commands_of journal))
  pub all_seen : summary.seen ≡ summary.steps

-- a summary of the closed office in which the commands of a deal were filed
abbrev pub IsSummaryOfDeal : Limits → Deal → Summary → Type 0
IsSummaryOfDeal limits deal summary = IsSummaryOf limits deal.desks deal.first.now deal.rest.now summary

-- the text is that of such a summary, where so many first commands fell to desk 1
pub record TellsOf (limits : Limits) (desks base : ℕ) (commands : List Command) (text : List ℕ) : Type 0 where
  pub summary : Summary
  pub counts : IsSummaryOf limits desks (take base commands) (drop base commands) summary
  pub text_is : text ≡ summary_text summary
