-- `Scope::covers`: its result where both name animals.
use Rattle.std.proofs.Common.{◌≡◌, ◌∙◌, ap, sym, subst, Some}
use Rattle.std.proofs.lemmas.Slice.Eq.{bytes_eq-Decides, slice_eq-Decides}
use Rattle.herd_session.specs.Scopes.{SufficesFor}
use Rattle.herd_session.proofs.scope.Scope.covers.Goals as goal

pub returns-in-Named-Named : goal.returns-in-Named-Named
returns-in-Named-Named c equal question enough =
    let ours = c.in-Named-Named.ours.items in
    let theirs = c.in-Named-Named.theirs.items in
    let told = (slice_eq-Decides bytes_eq-Decides c.as_slice.result.now c.as_slice-in-Named-Named.result.now c.eq.result c.eq.ensures).0 equal in
    let same : ours ≡ theirs = sym c.as_slice.ensures.value ∙ told ∙ c.as_slice-in-Named-Named.ensures.value in
    subst (SufficesFor question) (sym c.in-Named-Named.is-0) (subst (SufficesFor question) c.in-Named-Named.is-1 enough ∙ ap Some (sym same))
