-- `ListedRegistered::link_at`: its result.
use Rattle.std.proofs.Common.{sym, subst, get_or}
use Rattle.std.specs.HashMap.{get}
use Rattle.std.specs.Str.{bytes_eq}
use Rattle.std.proofs.lemmas.Option.{slice_get-get_or}
use Rattle.herd_frozen.specs.declared.places.links.Link.{Link}
use Rattle.herd_frozen.specs.declared.TheConstants.{DEPTH_LIMIT, MOST_ANIMALS}
use Rattle.herd_frozen.specs.places.Links.{IsLinkAt}
use Rattle.herd_frozen.proofs.lemmas.freezing.LinkFacts.{link-found}
use Rattle.herd_frozen.proofs.freezing.listed.ListedRegistered.link_at.Goals as goal

pub returns : goal.returns
returns g c =
    let book = c.args.self.now.records.now in
    let entry = get_or book c.args.place c.index-self-place.result in
    subst (λ (link : Link). IsLinkAt book c.args.place link) (sym c.link_of.ensures)
    (link-found DEPTH_LIMIT MOST_ANIMALS book (get bytes_eq c.args.self.now.places.now) c.requires.parents c.args.place entry (slice_get-get_or book c.args.place c.index-self-place.result c.requires.within))
