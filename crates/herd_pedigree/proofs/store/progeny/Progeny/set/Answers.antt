-- `Progeny::set`: its result.
use Rattle.std.proofs.Common.{sym, ap, ◌∙◌, ℕ, List, Option, Some, None, slice_set}
use Rattle.std.proofs.lemmas.List.{set-set}
use Rattle.herd_pedigree.proofs.store.progeny.Progeny.set.Goals as goal

pub returns-in-Some : goal.returns-in-Some
returns-in-Some g c =
    let parents : List (Option ℕ) = c.args.self.now.parents in
    c.join.ensures
    ∙ ap (λ ps. slice_set ps c.args.place (Some c.in-Some.parent)) c.part.ensures
    ∙ set-set parents c.args.place None (Some c.in-Some.parent)
    ∙ ap (λ o. slice_set parents c.args.place o) (sym c.in-Some.is)
