-- The texts so far are numbers, and they are read.
use Rattle.std.proofs.Common.{◌≡◌, ℕ, ◌<◌, ◌++◌, List, map, take, Some, slice_get}
use Rattle.herd_animal.specs.AnimalNumber.{IsAnimalNumber}
use Rattle.herd_command_line.proofs.arguments.add_texts.Given as goal

abbrev pub invariant-loop-text : goal.invariant-loop-text
invariant-loop-text l =
    (l.list.items ≡ l.fn.list.items ++ map (λ text. text.now) (take l.text-index l.texts))
    × ((earlier : ℕ) (other : List ℕ) → earlier < l.text-index → slice_get (map (λ text. text.now) l.texts) earlier ≡ Some other → IsAnimalNumber other)
