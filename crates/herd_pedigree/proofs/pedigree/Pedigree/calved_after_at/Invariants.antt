-- What is left are her calves, and those before don't count.
use Rattle.std.proofs.Common.{◌≡◌, ◌⊎◌, ℕ, List, Contains, false, Some, slice_get}
use Rattle.herd_frozen.specs.declared.rules.animal.Animal.{Animal}
use Rattle.herd_frozen.specs.places.Places.{parent_at}
use Rattle.herd_pedigree.proofs.lemmas.store.CalvedFacts.{counts}
use Rattle.herd_pedigree.proofs.pedigree.Pedigree.calved_after_at.Given as goal

abbrev pub invariant-loop-calf : goal.invariant-loop-calf
invariant-loop-calf g l =
    ((calf : ℕ) → Contains l.calf-iterator calf → parent_at l.self-inside.dams.parents calf ≡ Some l.found.place)
    × ((calf : ℕ) → parent_at l.self-inside.dams.parents calf ≡ Some l.found.place → Contains l.calf-iterator calf ⊎ ((entry : List ℕ × Animal) → slice_get l.self-inside.records.book calf ≡ Some entry → counts l.day entry.1 ≡ false))
