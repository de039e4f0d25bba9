-- `Ancestors::search`: its clause `found`.
use Rattle.std.proofs.Common.{◌≡◌, ◌∙◌, ap, sym, subst, List, ℕ, length}
use Rattle.herd_pedigree.specs.store.Ancestors.{BeginsWith, Found, HasAncestors, HasParents}
use Rattle.herd_pedigree.proofs.lemmas.store.AncestorFacts.{ancestors-from}
use Rattle.herd_pedigree.proofs.store.ancestors.Ancestors.search.Goals as goal

pub returns-clause-found : goal.returns-clause-found
returns-clause-found g c =
    let book = g.S.Searched.book c.args.records.now in
    let numbers = c.args.numbers.now in
    let named : List ℕ = c.add_named.new.self.places in
    let is = c.found-2.view_is in
    let animals : length c.found-2.inside.marks.items ≡ length book =
    ap (λ (f : Found). f.animals) is ∙ c.in_ok-add_ancestors.ensures.animals ∙ c.in_ok-add_named.ensures.animals ∙ c.in_ok-found.ensures.animals ∙ c.count.ensures in
    let kept : BeginsWith named c.found-2.inside.places.items = subst (λ (f : Found). BeginsWith named f.places) (sym is) c.in_ok-add_ancestors.ensures.kept in
    let parents : HasParents book c.found-2.inside.places.items = subst (λ (f : Found). HasParents book f.places) (sym is) c.in_ok-add_ancestors.ensures.closed in
    subst (λ (f : Found). HasAncestors book numbers f.places) is
    (ancestors-from book numbers named c.found-2.inside.places.items c.found-2.inside.marks.items c.found-2.invariant animals c.in_ok-add_named.ensures.named kept parents)
