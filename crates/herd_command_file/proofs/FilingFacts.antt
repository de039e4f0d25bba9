-- What filing commands one after the other leaves.
use Rattle.std.proofs.Common.{◌≡◌, ℕ, suc, List, [], ◌∷◌, ◌++◌, refl, ap, sym, ◌∙◌, length}
use Rattle.herd_frozen.specs.rules.Book.{Book}
use Rattle.herd_register.specs.Register.{Register, register_book, with_step}
use Rattle.herd_register.specs.Run.{answer, next, step_of, book_after, commands_of, run_book}
use Rattle.herd_register.specs.declared.command.Command.{Command}
use Rattle.herd_register.specs.Limits.{Limits}
use Rattle.herd_command_file.specs.Filing.{HasFiled, filed_from}

-- the steps of more commands come after those of the first ones
pub filed_from-append : (limits : Limits) (book : Book) (first rest : List Command) →
    filed_from limits book (first ++ rest) ≡ filed_from limits book first ++ filed_from limits (book_after limits book first) rest
filed_from-append limits book [] rest = refl
filed_from-append limits book (command ∷ first) rest =
    ap (λ steps. step_of 0 command (answer limits book command) ∷ steps) (filed_from-append limits (next limits book command) first rest)

-- their commands are those that were filed
pub commands_of-filed_from : (limits : Limits) (book : Book) (commands : List Command) → commands_of (filed_from limits book commands) ≡ commands
commands_of-filed_from limits book [] = refl
commands_of-filed_from limits book (command ∷ commands) =
    ap (λ rest. command ∷ rest) (commands_of-filed_from limits (next limits book command) commands)

-- there is a step for each
pub length-filed : (limits : Limits) (book : Book) (commands : List Command) → length (filed_from limits book commands) ≡ length commands
length-filed limits book [] = refl
length-filed limits book (command ∷ commands) = ap (λ (n : ℕ). suc n) (length-filed limits (next limits book command) commands)

-- the commands of the steps are those that were filed
pub commands_of-filed : (limits : Limits) (commands : List Command) (register : Register) → HasFiled limits commands register → commands_of register.journal ≡ commands
commands_of-filed limits commands register filed = ap commands_of filed.journal_is ∙ commands_of-filed_from limits [] commands

-- and its book is theirs
pub book_of-filed : (limits : Limits) (commands : List Command) (register : Register) → HasFiled limits commands register →
    register_book register ≡ run_book limits commands
book_of-filed limits commands register filed =
    ap (λ l. run_book l (commands_of register.journal)) filed.limits_are ∙ ap (run_book limits) (commands_of-filed limits commands register filed)

-- a register that has answered one command more
pub filed-more : (limits : Limits) (commands : List Command) (command : Command) (old new : Register) → HasFiled limits commands old →
    new ≡ with_step old (step_of 0 command (answer old.limits (register_book old) command)) → HasFiled limits (commands ++ command ∷ []) new
filed-more limits commands command old new filed e =
    let book : register_book old ≡ book_after limits [] commands = book_of-filed limits commands old filed in
    let reply : answer old.limits (register_book old) command ≡ answer limits (book_after limits [] commands) command =
    ap (λ l. answer l (register_book old) command) filed.limits_are ∙ ap (λ b. answer limits b command) book in
    record {
      limits_are = ap (λ r. r.limits) e ∙ filed.limits_are;
      journal_is = ap (λ r. r.journal) e
          ∙ ap (λ steps. steps ++ step_of 0 command (answer old.limits (register_book old) command) ∷ []) filed.journal_is
          ∙ ap (λ r. filed_from limits [] commands ++ step_of 0 command r ∷ []) reply
          ∙ sym (filed_from-append limits [] commands (command ∷ []));
    }
