-- The texts that are read are those under the id.
use Rattle.std.proofs.Common.{◌≡◌, map, refl}
use Rattle.clap.specs.Words.{found_of, rows_of}
use Rattle.herd_command_line.specs.Words.{texts_of}
use Rattle.herd_command_line.proofs.WordsFacts.{texts_of-found}
use Rattle.herd_command_line.proofs.arguments.add_numbers.Goals as goal

pub returns-clause-read : goal.returns-clause-read
returns-clause-read c =
    let texts : texts_of c.args.id.now (rows_of (found_of c.args.given.now)) ≡ map (λ text. text.now) c.unwrap_or.result.now = rw c.unwrap_or.ensures (texts_of-found (found_of c.args.given.now) c.args.id.now _ _ c.get_strs.ensures refl) in
    rw texts c.add_texts.ensures.read

pub returns-clause-unread : goal.returns-clause-unread
returns-clause-unread c =
    let texts : texts_of c.args.id.now (rows_of (found_of c.args.given.now)) ≡ map (λ text. text.now) c.unwrap_or.result.now = rw c.unwrap_or.ensures (texts_of-found (found_of c.args.given.now) c.args.id.now _ _ c.get_strs.ensures refl) in
    rw texts c.add_texts.ensures.unread

pub returns-clause-right : goal.returns-clause-right
returns-clause-right c =
    let texts : texts_of c.args.id.now (rows_of (found_of c.args.given.now)) ≡ map (λ text. text.now) c.unwrap_or.result.now = rw c.unwrap_or.ensures (texts_of-found (found_of c.args.given.now) c.args.id.now _ _ c.get_strs.ensures refl) in
    rw texts c.add_texts.ensures.right
