-- `record_set`: its clause.
use Rattle.std.proofs.Common.{◌≡◌, ℕ, List, Some, slice_get}
use Rattle.std.specs.Map.{keys_of}
use Rattle.herd_register.proofs.ChangeFacts.{nothing_set, set_in_place}
use Rattle.herd_register.proofs.change.record_set.Goals as goal

pub returns-in-Some : goal.returns-in-Some
returns-in-Some g c most before becomes is =
    let now = c.args.pedigree.now.book in
    let number : List ℕ = c.args.number.now in
    let at : slice_get (keys_of now) c.in-Some.found.place ≡ Some number = rw c.in-Some.ensures.number at c.in-Some.ensures.found.at in
    let here = rw c.in-Some.ensures.number at c.animal_at.ensures in
    set_in_place before now number becomes c.in-Some.found.place c.animal_at.result c.in-Some.ensures.lawful at here is

pub returns-in-None : goal.returns-in-None
returns-in-None g c most before becomes is = nothing_set before c.args.pedigree.now.book c.args.number.now becomes c.in-None.ensures.absent is
