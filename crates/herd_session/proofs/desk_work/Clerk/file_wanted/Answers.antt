-- A desk that is as it was, or has filed the task's command.
use Rattle.std.proofs.Common.{◌≡◌, ◌≤◌, Ok, arith, subst}
use Rattle.std.proofs.Math.Logic.{∥∥₁_elim, ∥∥₁_map, ∥∥₁_prop}
use Rattle.std.proofs.lemmas.Bool.Decides.{nat_tests}
use Rattle.herd_session.proofs.FiledFacts.{filed_below_more, filed_below_same}
use Rattle.herd_requests.specs.Requests.{IsAskedOfDesk}
use Rattle.herd_session.proofs.desk_work.Clerk.file_wanted.Goals as goal

pub invariant_of-self-in-Break-branch-2 : goal.invariant_of-self-in-Break-branch-2
invariant_of-self-in-Break-branch-2 g c =
    let told = c.in_err-filed.ensures in
    record {
      filed =
          ∥∥₁_map c.args.self.now.filed
          (λ was. filed_below_same g.N.SessionName.records c.args.self.now.next c.args.self.now.desk c.file.new.desk told.number told.not_answered told.not_held was);
    }

pub invariant_of-self-2 : goal.invariant_of-self-2
invariant_of-self-2 g c =
    let records = g.N.SessionName.records in
    let task = c.args.task.now in
    let old = c.args.self.now.desk in
    let told = c.in_ok-filed.ensures in
    let mine : task.number ≡ old.number = grind (arith, nat_tests, c.from.ensures, c.number.ensures.value) in
    let later : c.args.self.now.next ≤ task.before = grind (arith, nat_tests) in
    record {
      filed =
          ∥∥₁_elim c.args.self.now.filed ∥∥₁_prop
          (λ was.
          ∥∥₁_map task.asked
          (λ asked.
          filed_below_more records c.args.self.now.next task.before task.tag old c.file.new.desk c.in_ok-command.command
          c.in_ok-filed.filed.reply later
          (subst (λ n. IsAskedOfDesk records task.before n task.tag (Ok c.in_ok-command.command)) mine
          (subst (IsAskedOfDesk records task.before task.number task.tag) c.in_ok-command.was asked))
          told.number told.answered told.begins told.longer (rw told.held told.ends) was));
    }
