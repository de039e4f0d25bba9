-- `file_all`: what was read and filed is what the file says.
use Rattle.std.proofs.Common.{Some, inl, refl, subst}
use Rattle.herd_register.specs.Run.{commands_of}
use Rattle.herd_command_file.specs.CommandFile.{IsReadUpTo}
use Rattle.herd_orders.proofs.orders.file_all.Goals as goal

pub returns-in-Ok-None-clause-read : goal.returns-in-Ok-None-clause-read
returns-in-Ok-None-clause-read g c = rw c.in-Ok-None.field-0-is at c.in-Ok-None.ensures.file

pub returns-in-Ok-Some-clause-err : goal.returns-in-Ok-Some-clause-err
returns-in-Ok-Some-clause-err g c = λ file given order text.
    let read = rw c.in-Ok-Some.field-0-is at c.in-Ok-Some.ensures.file in
    ((commands_of c.file_commands.new.register.journal, read file given), refl)

pub returns-in-Some-clause-err : goal.returns-in-Some-clause-err
returns-in-Some-clause-err g c = λ file given order text.
    let stopped = c.in-Err.ensures in
    let far = stopped.rest file given in
    (subst (λ most. IsReadUpTo most file (Some c.in-Some.line)) stopped.ready.most_is (c.in-Some.ensures.file file far.0 far.1), refl)

pub returns-in-None-clause-err : goal.returns-in-None-clause-err
returns-in-None-clause-err g c = λ file given order text.
    let far = c.in-Err.ensures.rest file given in
    ((c.in-None.ensures.file file far.0 far.1).1.1, inl refl)
