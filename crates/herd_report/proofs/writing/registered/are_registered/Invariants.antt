-- `are_registered`: the numbers so far are in the book.
use Rattle.std.proofs.Common.{◌≡◌, take, true}
use Rattle.herd_frozen.specs.freezing.Frozen.{book_of}
use Rattle.herd_report.specs.writing.Registered.{are_there}
use Rattle.herd_report.proofs.writing.registered.are_registered.Given as goal

abbrev pub invariant-loop-number : goal.invariant-loop-number
invariant-loop-number g l = are_there (book_of l.frozen) (take l.number-index l.numbers) ≡ true
