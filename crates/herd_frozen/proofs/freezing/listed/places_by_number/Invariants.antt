-- The numbers so far have their places.
use Rattle.std.specs.HashMap.{get}
use Rattle.std.specs.Map.{keys_of}
use Rattle.std.specs.Str.{bytes_eq}
use Rattle.herd_frozen.proofs.lemmas.freezing.LinkFacts.{FindsPlacesBelow}
use Rattle.herd_frozen.proofs.freezing.listed.places_by_number.Given as goal

abbrev pub invariant-loop-place : goal.invariant-loop-place
invariant-loop-place g l = FindsPlacesBelow (keys_of l.records) (get bytes_eq l.places) l.place
