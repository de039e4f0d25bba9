-- The text is an animal number, so it is read.
use Rattle.std.proofs.lemmas.List.{append-nil}
use Rattle.herd_fixtures.proofs.NumberFacts.{IsAnimalNumber-number_with}
use Rattle.herd_fixtures.proofs.name.animal_number.Goals as goal

pub unreachable-requires : goal.unreachable-requires
unreachable-requires c =
    let read = c.in_default.ensures.accepted.1 (rw (c.write_digits.ensures, c.letter.ensures, append-nil) (IsAnimalNumber-number_with c.args.sex c.args.serial)) in
    cc
