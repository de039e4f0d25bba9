-- The texts are those under the id.
use Rattle.std.proofs.Common.{◌≡◌, Bor, List, ap, map, not, refl, ℕ}
use Rattle.std.proofs.lemmas.List.{length-map}
use Rattle.clap.specs.Words.{found_of, rows_of}
use Rattle.herd_command_line.specs.Words.{texts_of}
use Rattle.herd_command_line.proofs.WordsFacts.{texts_of-found}
use Rattle.herd_command_line.proofs.pedigree_words.is_given.Goals as goal

pub returns : goal.returns
returns c =
    let texts : texts_of c.args.id.now (rows_of (found_of c.args.given.now)) ≡ map (λ text. text.now) c.unwrap_or.result.now = rw c.unwrap_or.ensures (texts_of-found (found_of c.args.given.now) c.args.id.now _ _ c.get_strs.ensures refl) in
    rw (texts, length-map c.unwrap_or.result.now (λ (text : Bor (List ℕ)). text.now)) (ap not c.is_empty.ensures)
