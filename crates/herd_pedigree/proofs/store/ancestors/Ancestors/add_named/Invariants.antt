-- The animals of the numbers so far were found.
use Rattle.std.proofs.Common.{◌≡◌, ◌<◌, Contains, ℕ, List, get_or, slice_get, Some}
use Rattle.std.specs.Map.{keys_of}
use Rattle.herd_pedigree.proofs.store.ancestors.Ancestors.add_named.Given as goal

abbrev pub invariant-loop-number : goal.invariant-loop-number
invariant-loop-number g l = record {
  animals : l.self.animals ≡ l.fn.self.animals;
  named : (k place : ℕ) (number : List ℕ) → k < l.number-index → get_or l.numbers k number ≡ number → slice_get (keys_of (g.S.Searched.book l.records)) place ≡ Some number → Contains l.self.places place;
}
