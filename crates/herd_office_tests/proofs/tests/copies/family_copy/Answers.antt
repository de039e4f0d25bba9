-- `family_copy`: its loop and its clause.
use Rattle.std.proofs.Common.{◌∙◌, ap, sym}
use Rattle.herd_register.specs.Copybook.{Copybook, copy_of}
use Rattle.herd_register.specs.Limits.{Limits}
use Rattle.herd_register.specs.Register.{Register}
use Rattle.herd_register.specs.Run.{commands_of, run_book}
use Rattle.herd_office_tests.proofs.tests.copies.family_copy.Goals as goal

pub loop-command-init : goal.loop-command-init
loop-command-init c = c.new-copybook.ensures ∙ sym (ap (λ (r : Register). copy_of r.limits r.journal) c.new-register.ensures)

pub returns : goal.returns
returns c =
    let commands = commands_of c.loop-command.register.journal in
    let is = c.loop-command.invariant in
    record {
      commands = commands;
      book =
          ap (λ (copybook : Copybook). copybook.book) is
          ∙ ap (λ (limits : Limits). run_book limits commands) (sym (ap (λ (copybook : Copybook). copybook.limits) is));
    }
