-- `RecordsRegistered::link_at`: its result.
use Rattle.std.proofs.Common.{sym, subst, ℕ, List, ◌≡◌}
use Rattle.herd_frozen.specs.declared.places.links.Link.{Link}
use Rattle.herd_frozen.specs.places.Links.{IsLinkAt}
use Rattle.herd_pedigree.specs.declared.store.records.StoredRecord.{StoredRecord}
use Rattle.herd_pedigree.proofs.lemmas.store.RecordsFacts.{link-kept}
use Rattle.herd_pedigree.proofs.store.records.RecordsRegistered.link_at.Goals as goal

pub returns : goal.returns
returns g c =
    let es : List (List ℕ × StoredRecord) = c.self.inside.entries.entries in
    let entry : StoredRecord = c.index.result.now in
    let link : Link = record { sire = entry.sire; dam = entry.dam } in
    let same : c.parents.result ≡ link = λ i. record { sire = c.parents.ensures.sire i; dam = c.parents.ensures.dam i } in
    subst (λ l. IsLinkAt c.args.self.now.book c.args.place l) (sym same)
    (subst (λ r. IsLinkAt r.book c.args.place link) c.self.view_is (link-kept es c.args.place entry c.index.ensures c.self.invariant))
