-- `Progeny::push`: its result.
use Rattle.std.proofs.Common.{sym, ap, ◌∙◌, ◌≡◌, ℕ, List, [], ◌∷◌, ◌++◌, Option, Some, None, length, slice_set}
use Rattle.std.proofs.lemmas.List.{set_at}
use Rattle.herd_pedigree.proofs.lemmas.store.ProgenyFacts.{length-nodes}
use Rattle.herd_pedigree.proofs.store.progeny.Progeny.push.Goals as goal

pub returns-in-Some : goal.returns-in-Some
returns-in-Some g c =
    let parents : List (Option ℕ) = c.args.self.now.parents in
    let long = length-nodes c.self.inside.nodes.items parents (ap (λ p. p.parents) c.self.view_is) in
    let calf : length parents ≡ c.len-calf.result = sym (c.len-calf.ensures ∙ c.self.inside.nodes.ok.0 ∙ long) in
    c.join.ensures
    ∙ ap (λ ps. slice_set ps c.len-calf.result (Some c.in-Some.parent)) c.push_alone.ensures
    ∙ set_at parents None [] (Some c.in-Some.parent) c.len-calf.result calf
    ∙ ap (λ o. parents ++ o ∷ []) (sym c.in-Some.is)
