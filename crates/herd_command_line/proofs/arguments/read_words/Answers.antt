-- What isn't read of the matches isn't read of the words, and there are matches only where `clap` takes the words.
use Rattle.std.proofs.Common.{◌≡◌, ◌∙◌, ap, subst, sym, map, string_bytes}
use Rattle.std.proofs.lemmas.Result.{IfErr-weaker, IfOk-weaker, err_from_is_err_and}
use Rattle.clap.specs.Words.{App, HasKind, fault_of, is_simple, is_simple_and_free, subcommand_of, subcommand_rows_of}
use Rattle.herd_command_line.specs.CommandLine.{command_line}
use Rattle.herd_command_line.specs.Words.{Found, IsAsked}
use Rattle.herd_command_line.proofs.WordsFacts.{IfOk-all, IsRefused-unread, is_free-command_line, is_simple-command_line}
use Rattle.herd_command_line.proofs.arguments.read_words.Goals as goal

pub returns-clause-refused : goal.returns-clause-refused
returns-clause-refused c =
    let words = map string_bytes c.args.words.now in
    let found : subcommand_rows_of c.in_ok-matches.matches ≡ subcommand_of command_line words =
    (c.in_ok-matches.ensures.matches (ap is_simple c.in_ok-command.ensures ∙ is_simple-command_line)).1 ∙ ap (λ (a : App). subcommand_of a words) c.in_ok-command.ensures in
    IfErr-weaker c.request_of.result _ _ (λ fault unread. IsRefused-unread words _ fault found unread) c.request_of.ensures.unread

pub returns-in_err-matches-clause-refused : goal.returns-in_err-matches-clause-refused
returns-in_err-matches-clause-refused c =
    let exit = err_from_is_err_and c.from_residual-in_err-matches.result c.from_residual-in_err-matches.ensures.1 in
    let told = c.in_err-matches.ensures.kinds (ap is_simple_and_free c.in_ok-command.ensures ∙ is_free-command_line) in
    rw (exit.1, exit.2)
    (subst (λ (a : App). HasKind (fault_of a (map string_bytes c.args.words.now)) c.in_err-matches.field-0.0) c.in_ok-command.ensures told)

pub returns-clause-asked : goal.returns-clause-asked
returns-clause-asked c =
    let words = map string_bytes c.args.words.now in
    let found : subcommand_rows_of c.in_ok-matches.matches ≡ subcommand_of command_line words =
    (c.in_ok-matches.ensures.matches (ap is_simple c.in_ok-command.ensures ∙ is_simple-command_line)).1 ∙ ap (λ (a : App). subcommand_of a words) c.in_ok-command.ensures in
    IfOk-weaker c.request_of.result _ _ (λ request asked. subst (λ (f : Found). IsAsked f request) found asked) c.request_of.ensures.asked

pub returns-clause-taken : goal.returns-clause-taken
returns-clause-taken c =
    let words = map string_bytes c.args.words.now in
    let taken = c.in_ok-matches.ensures.kinds (ap is_simple_and_free c.in_ok-command.ensures ∙ is_free-command_line) in
    IfOk-all c.request_of.result _ (ap (λ (a : App). fault_of a words) (sym c.in_ok-command.ensures) ∙ taken)
