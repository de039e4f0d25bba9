-- `places_by_number`: its loop and its result.
use Rattle.std.proofs.Common.{refl, arith, ◌≡◌, Some, length, slice_get}
use Rattle.std.specs.HashMap.{get}
use Rattle.std.specs.Map.{keys_of}
use Rattle.std.specs.Str.{bytes_eq}
use Rattle.std.proofs.lemmas.List.{length-map}
use Rattle.std.proofs.lemmas.Option.{slice_get_read, slice_get_within}
use Rattle.herd_frozen.proofs.lemmas.rules.BookFacts.{key_from_entry}
use Rattle.herd_frozen.proofs.lemmas.freezing.LinkFacts.{places-more}
use Rattle.herd_frozen.proofs.freezing.listed.places_by_number.Goals as goal

pub loop-place-preserved : goal.loop-place-preserved
loop-place-preserved g c =
    let book = c.args.records.now in
    let entry = c.index-records-place.result in
    let at : slice_get (keys_of book) c.loop-place.place ≡ Some entry.0 =
    key_from_entry book c.loop-place.place entry.0 entry.1 (slice_get_read book (length book) c.loop-place.place entry refl c.loop-place-test.true c.index-records-place.is) in
    places-more (keys_of book) c.requires.once (get bytes_eq c.loop-place.places) (get bytes_eq c.insert.new.self) c.loop-place.place entry.0 at c.in_ok-insert.ensures.updates.0 c.loop-place.invariant

pub returns : goal.returns
returns g c =
    λ place number at.
    let within = slice_get_within (keys_of c.args.records.now) place number at in
    let long = length-map c.args.records.now (λ entry. entry.0) in
    let past = c.loop-place-test.false in
    c.loop-place.invariant place number (omega arith) at
