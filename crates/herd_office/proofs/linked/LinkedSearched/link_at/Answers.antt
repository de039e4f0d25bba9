-- `LinkedSearched::link_at`: what `parent_place` requires, and its result.
use Rattle.std.proofs.Common.{◌∙◌, sym, subst}
use Rattle.std.specs.Map.{keys_of}
use Rattle.std.proofs.lemmas.Option.{same_Some, slice_get-get_or}
use Rattle.herd_frozen.specs.places.Places.{IsIndexIn}
use Rattle.herd_frozen.specs.rules.Book.{Book}
use Rattle.herd_office.proofs.LinkedFacts.{dam_there, sire_there}
use Rattle.herd_office.proofs.linked.LinkedSearched.link_at.Goals as goal

pub parent_place-requires-clause-there : goal.parent_place-requires-clause-there
parent_place-requires-clause-there c =
    let book : Book = c.args.self.now.records.now in
    sire_there book c.requires.parents.0 c.args.place _ (slice_get-get_or book c.args.place c.index-self-place.result c.requires.within)

pub parent_place-requires-2-clause-there : goal.parent_place-requires-2-clause-there
parent_place-requires-2-clause-there c =
    let book : Book = c.args.self.now.records.now in
    dam_there book c.requires.parents.0 c.args.place _ (slice_get-get_or book c.args.place c.index-self-place.result c.requires.within)

pub returns : goal.returns
returns c =
    let book : Book = c.args.self.now.records.now in
    let here = slice_get-get_or book c.args.place c.index-self-place.result c.requires.within in
    record {
      sire = λ entry at. subst (λ e. IsIndexIn (keys_of book) c.parent_place.result e.1.sire) (same_Some _ _ (sym here ∙ at)) c.parent_place.ensures;
      dam = λ entry at. subst (λ e. IsIndexIn (keys_of book) c.parent_place-2.result e.1.dam) (same_Some _ _ (sym here ∙ at)) c.parent_place-2.ensures;
    }
