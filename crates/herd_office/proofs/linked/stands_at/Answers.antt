-- `stands_at`: its result where there is a record at the place.
use Rattle.std.proofs.Common.{refl, sym, ap, ◌∙◌, ◌≡◌, ◌<◌, ℕ, Some, length, slice_get}
use Rattle.std.specs.Map.{keys_of}
use Rattle.std.proofs.lemmas.Bool.{ltb-true}
use Rattle.std.proofs.lemmas.Option.{slice_get_read}
use Rattle.herd_frozen.specs.rules.Book.{Book}
use Rattle.herd_frozen.proofs.lemmas.rules.BookFacts.{key_from_entry, same_bytes}
use Rattle.herd_office.proofs.linked.stands_at.Goals as goal

pub returns-in-Some : goal.returns-in-Some
returns-in-Some c equal =
    let book : Book = c.args.records.now in
    let place : ℕ = c.args.place in
    let entry = c.in-Some.field-0.now in
    let within : place < length book = ltb-true place (length book) (sym c.in-Some.ensures.lookup.0) in
    let at : slice_get book place ≡ Some entry = slice_get_read book (length book) place entry refl within c.in-Some.ensures.lookup.1 in
    let keyed : slice_get (keys_of book) place ≡ Some entry.0 = key_from_entry book place entry.0 entry.1 at in
    keyed ∙ ap Some (same_bytes _ _ (sym c.eq.ensures ∙ equal))
