-- The text that is read is that of the seal.
use Rattle.std.proofs.Common.{◌≡◌, codes, refl}
use Rattle.clap.specs.Words.{found_of, rows_of}
use Rattle.herd_command_line.specs.Words.{text_of}
use Rattle.herd_command_line.proofs.WordsFacts.{text_of-found}
use Rattle.herd_command_line.proofs.arguments.check_plan_of.Goals as goal

pub returns-clause-read : goal.returns-clause-read
returns-clause-read c =
    let text : text_of (codes "SEAL") (rows_of (found_of c.args.given.now)) ≡ c.unwrap_or.result.now = rw c.unwrap_or.ensures (text_of-found (found_of c.args.given.now) (codes "SEAL") _ _ c.get_str.ensures refl) in
    rw (text, ← c.as_bytes.ensures.value) c.seal_of_text.ensures.read

pub returns-clause-fault : goal.returns-clause-fault
returns-clause-fault c =
    let text : text_of (codes "SEAL") (rows_of (found_of c.args.given.now)) ≡ c.unwrap_or.result.now = rw c.unwrap_or.ensures (text_of-found (found_of c.args.given.now) (codes "SEAL") _ _ c.get_str.ensures refl) in
    rw (text, ← c.as_bytes.ensures.value) c.seal_of_text.ensures.fault
