-- The text that is parsed is that under the id.
use Rattle.std.proofs.Common.{◌≡◌, sym, ◌∙◌, refl}
use Rattle.std.proofs.lemmas.Result.{IfOk-weaker}
use Rattle.clap.specs.Words.{found_of, rows_of}
use Rattle.herd_command_line.specs.Words.{text_of}
use Rattle.herd_command_line.proofs.WordsFacts.{text_of-found}
use Rattle.herd_command_line.proofs.arguments.number_argument.Goals as goal

pub returns-clause-read : goal.returns-clause-read
returns-clause-read c =
    let text : text_of c.args.id.now (rows_of (found_of c.args.given.now)) ≡ c.unwrap_or.result.now = rw c.unwrap_or.ensures (text_of-found (found_of c.args.given.now) c.args.id.now _ _ c.get_str.ensures refl) in
    IfOk-weaker c.parse.result _ _ (λ number is. text ∙ sym c.as_bytes.ensures.value ∙ sym is) c.parse.ensures.value

pub returns-clause-fault : goal.returns-clause-fault
returns-clause-fault c =
    let text : text_of c.args.id.now (rows_of (found_of c.args.given.now)) ≡ c.unwrap_or.result.now = rw c.unwrap_or.ensures (text_of-found (found_of c.args.given.now) c.args.id.now _ _ c.get_str.ensures refl) in
    rw (text, ← c.as_bytes.ensures.value) c.parse.ensures.fault
