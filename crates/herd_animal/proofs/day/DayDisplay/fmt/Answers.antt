-- `DayDisplay::fmt`: what `unreachable` requires.
use Rattle.herd_animal.proofs.AsciiFacts.{day-utf8}
use Rattle.herd_animal.proofs.day.DayDisplay.fmt.Goals as goal

pub unreachable-requires : goal.unreachable-requires
unreachable-requires g c = c.in-Err.ensures.cases.0 (day-utf8 c.text-text.result c.text-text.ensures.day)
