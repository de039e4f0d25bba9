-- A report from the frozen book answers its question.
use Rattle.std.proofs.Common.{◌≡◌, ◌∙◌, ◌++◌, [], List, ℕ, ap, length, subst, sym}
use Rattle.std.proofs.Math.Logic.{∥∥₁_elim, ∥∥₁_map, ∥∥₁_prop}
use Rattle.herd_register.specs.Run.{commands_of, run_book}
use Rattle.herd_register.specs.declared.step.Step.{Step}
use Rattle.herd_frozen.specs.declared.freezing.frozen.Row.{Row}
use Rattle.herd_session.proofs.ScopeFacts.{whole_of}
use Rattle.herd_session.proofs.AskedFacts.{answered_by_report, report_answers}
use Rattle.herd_session.specs.Answers.{IsAnswer, IsReport, end_line, lines_behind, report_text}
use Rattle.herd_session.specs.Texts.{text_of}
use Rattle.herd_session.proofs.reporting_inspector.report_answer.Given.{Over}
use Rattle.herd_session.proofs.reporting_inspector.report_answer.Goals.{After-again}
use Rattle.herd_session.proofs.reporting_inspector.report_answer.Goals as goal

-- what was written is the text of the report
written : (g : Over) (c : After-again g)
    → c.push_end.new.out.items
    ≡ report_text c.args.task.now.tag (text_of c.args.question.now (length c.args.reading.now.of.history) c.args.reading.now.frozen) (length c.args.reading.now.of.history)
written g c =
    let tag = c.args.task.now.tag in
    let text = text_of c.args.question.now (length c.args.reading.now.of.history) c.args.reading.now.frozen in
    let begun : c.new-text.result.items ≡ [] = c.new-text.ensures.items in
    let report : c.as_slice.result.now ≡ text = c.as_slice.ensures.value ∙ c.in_ok-report.ensures.text in
    let lines : c.push_behind.new.out.items ≡ lines_behind tag text =
    c.in_ok-push_behind.ensures ∙ ap (λ (l : List ℕ). l ++ lines_behind tag c.as_slice.result.now) begun
    ∙ ap (λ (t : List ℕ). lines_behind tag t) report in
    c.in_ok-push_end.ensures ∙ ap (λ (l : List ℕ). l ++ end_line tag c.steps.result) lines
    ∙ ap (λ (n : ℕ). lines_behind tag text ++ end_line tag n) c.steps.ensures.steps

-- and of the whole book
told : (g : Over) (c : After-again g) (whole : List Row)
    → text_of c.args.question.now (length c.args.reading.now.of.history) c.args.reading.now.frozen ≡ text_of c.args.question.now (length c.args.reading.now.of.history) whole
    → c.push_end.new.out.items
    ≡ report_text c.args.task.now.tag (text_of c.args.question.now (length c.args.reading.now.of.history) whole) (length c.args.reading.now.of.history)
told g c whole same = written g c ∙ ap (λ (text : List ℕ). report_text c.args.task.now.tag text (length c.args.reading.now.of.history)) same

pub invariant_of-result : goal.invariant_of-result
invariant_of-result g c =
    let limits = g.N.OfficeName.limits in
    let records = g.N.SessionName.records in
    let task = c.args.task.now in
    let reading = c.args.reading.now in
    let question = c.args.question.now in
    let text = c.push_end.new.out.items in
    record {
      answers =
          subst (λ (h : List Step). ∥ IsAnswer limits records h text ∥₁) (sym c.again.ensures)
          (∥∥₁_elim task.asked ∥∥₁_prop
          (λ asked.
          ∥∥₁_map reading.book
          (λ read.
          let all = whole_of question reading.scope (run_book limits (commands_of reading.of.history)) reading.frozen c.requires.suffices read in
          report_answers limits records task.before task.number task.tag task.wanted question reading.of.history text asked
          c.requires.wanted c.steps.ensures.legal
          (answered_by_report limits reading.of.history task.tag question text c.requires.other
          (record { rows = all.whole; frozen = all.frozen; told = told g c all.whole (all.same (length reading.of.history)) })))));
    }

pub returns-clause-answer : goal.returns-clause-answer
returns-clause-answer g c =
    let reading = c.args.reading.now in
    subst (λ (h : List Step). ∥ IsReport g.N.OfficeName.limits h c.args.task.now.tag c.args.question.now c.push_end.new.out.items ∥₁)
    (sym c.again.ensures)
    (∥∥₁_map reading.book
    (λ read.
    let all = whole_of c.args.question.now reading.scope (run_book g.N.OfficeName.limits (commands_of reading.of.history)) reading.frozen c.requires.suffices read in
    record { rows = all.whole; frozen = all.frozen; told = told g (goal.at.returns-clause-answer g c).After-again all.whole (all.same (length reading.of.history)) }))
