-- A command that was filed is the last of those that the reader gave.
use Rattle.std.proofs.Common.{◌≡◌, ◌∙◌, ◌+◌, ◌++◌, ◌∷◌, [], ap, length}
use Rattle.std.proofs.lemmas.List.{length_push}
use Rattle.herd_register.specs.Register.{Register, register_book, with_step}
use Rattle.herd_register.specs.Run.{answer, commands_of, step_of}
use Rattle.herd_command_file.proofs.CommandReaderFacts.{some_given}
use Rattle.herd_command_file.proofs.FilingFacts.{commands_of-filed, filed-more}
use Rattle.herd_command_file.proofs.command_filing.file_commands.Goals as goal

pub loop-command-preserved : goal.loop-command-preserved
loop-command-preserved g c =
    let limits = c.args.register.now.limits in
    let old = c.loop-command.register in
    let new = c.file.new.self in
    let command = c.in-Ok-Some.command in
    let list = commands_of old.journal in
    let given = rw c.in-Ok-Some.field-0-is at c.in-Ok-Some.ensures.ready in
    let gives = rw c.in-Ok-Some.field-0-is at c.in-Ok-Some.ensures.gives in
    let stored : new ≡ with_step old (step_of 0 command (answer old.limits (register_book old) command)) =
    c.in-Ok.ensures.stored ∙ ap (λ reply. with_step old (step_of 0 command reply)) c.in-Ok.ensures.reply in
    let filed = filed-more limits list command old new c.loop-command.invariant.filed stored in
    let same : commands_of new.journal ≡ list ++ command ∷ [] = commands_of-filed limits _ new filed in
    let count : length new.journal ≡ length old.journal + 1 = ap (λ (r : Register). length r.journal) stored ∙ length_push old.journal _ in
    let before = c.loop-command.invariant.ready in
    record {
      ready = rw (count, ← before.most_is, ← before.given_is) given;
      filed = rw same filed;
      gives = λ file before. rw same (gives file list (c.loop-command.invariant.gives file before));
    }

pub returns-in-Ok-None-clause-file : goal.returns-in-Ok-None-clause-file
returns-in-Ok-None-clause-file g c =
    let ends = rw c.in-Ok-None.field-0-is at c.in-Ok-None.ensures.gives in
    λ file before. ends file (commands_of c.loop-command.register.journal) (c.loop-command.invariant.gives file before)

pub returns-in-Err-file-clause-some : goal.returns-in-Err-file-clause-some
returns-in-Err-file-clause-some g c =
    let gives = rw c.in-Ok-Some.field-0-is at c.in-Ok-Some.ensures.gives in
    let list = commands_of c.loop-command.register.journal in
    λ file before. some_given g.R.Read.remaining file list c.in-Ok-Some.command _ (gives file list (c.loop-command.invariant.gives file before))

pub returns-in-Err-file-clause-rest : goal.returns-in-Err-file-clause-rest
returns-in-Err-file-clause-rest g c =
    let gives = rw c.in-Ok-Some.field-0-is at c.in-Ok-Some.ensures.gives in
    let list = commands_of c.loop-command.register.journal in
    λ file before. (list ++ c.in-Ok-Some.command ∷ [], gives file list (c.loop-command.invariant.gives file before))
