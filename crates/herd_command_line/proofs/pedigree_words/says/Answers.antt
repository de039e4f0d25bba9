-- The text is that under the id.
use Rattle.std.proofs.Common.{◌≡◌, refl}
use Rattle.clap.specs.Words.{found_of, rows_of}
use Rattle.herd_command_line.specs.Words.{text_of}
use Rattle.herd_command_line.proofs.WordsFacts.{text_of-found}
use Rattle.herd_command_line.proofs.pedigree_words.says.Goals as goal

pub returns : goal.returns
returns c =
    let text : text_of c.args.id.now (rows_of (found_of c.args.given.now)) ≡ c.unwrap_or.result.now = rw c.unwrap_or.ensures (text_of-found (found_of c.args.given.now) c.args.id.now _ _ c.get_str.ensures refl) in
    rw text c.eq.ensures
