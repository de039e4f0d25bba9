-- `answer_commands`: what was written of the replies is the replies to the file, or a front of them.
use Rattle.std.proofs.Common.{None, subst}
use Rattle.herd_register.specs.Run.{commands_of}
use Rattle.herd_command_file.specs.CommandFile.{IsRead}
use Rattle.herd_text.proofs.lemmas.Exits.{if_err}
use Rattle.herd_orders.proofs.RunFacts.{stops_replying}
use Rattle.herd_orders.proofs.orders.answer_commands.Goals as goal

pub returns-in_err-write_replies-clause-err : goal.returns-in_err-write_replies-clause-err
returns-in_err-write_replies-clause-err g c =
    let limits = c.args.register.now.limits in
    let filed = c.in_ok-fault in
    let list = commands_of c.file_commands.new.register.journal in
    let front = rw (c.journal.ensures.value, filed.ensures.filed.journal_is) at c.in_err-write_replies.ensures.err in
    if_err c.from_residual-in_err-write_replies.result _ _ c.from_residual-in_err-write_replies.ensures.1
    (λ file given. stops_replying limits file list filed.fault _ _ _ (filed.ensures.file file given) front)

pub returns-in-None-clause-ok : goal.returns-in-None-clause-ok
returns-in-None-clause-ok g c = λ file given.
    let limits = c.args.register.now.limits in
    let filed = c.in_ok-fault in
    let list = commands_of c.file_commands.new.register.journal in
    let read : IsRead limits.steps file list None = subst (λ fault. IsRead limits.steps file list fault) c.in-None.is (filed.ensures.file file given) in
    record {
      faultless = read.1;
      written = rw (c.journal.ensures.value, filed.ensures.filed.journal_is, read.0) at c.in_ok-write_replies.ensures.ok;
    }
