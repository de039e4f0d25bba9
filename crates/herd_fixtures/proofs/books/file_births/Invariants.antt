-- The births so far are filed.
use Rattle.std.proofs.Common.{◌≡◌, ◌++◌, map, take}
use Rattle.herd_fixtures.specs.Birth.{entry}
use Rattle.herd_fixtures.proofs.books.file_births.Given as goal

abbrev pub invariant-loop-birth : goal.invariant-loop-birth
invariant-loop-birth g l = l.pedigree.book ≡ l.initial.pedigree.book ++ map entry (take l.birth-index l.births)
