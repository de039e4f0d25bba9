-- `Window::finish`: each coefficient is below 1.
use Rattle.std.proofs.Common.{ℕ, ◌*◌, ◌^◌, ◌<◌, ◌≡◌, ◌∙◌, List, arith, get_or, subst, sym}
use Rattle.std.proofs.lemmas.List.{get_or_default}
use Rattle.herd_lineage.specs.declared.TheConstants.{DEPTH_LIMIT}
use Rattle.herd_pruned.proofs.lemmas.WindowFacts.{below-one}
use Rattle.herd_pruned.proofs.window.Window.finish.Goals as goal

pub from_list-requires : goal.from_list-requires
from_list-requires g c = λ k d low.
    let b = c.self.invariant.2 in
    let coefficients : List ℕ = c.self.inside.coefficients.items in
    let few = b.few in
    let read : get_or coefficients k d ≡ get_or coefficients k 0 = get_or_default coefficients k d 0 low in
    subst (λ (n : ℕ). n < 2 ^ (2 * DEPTH_LIMIT)) (sym (read ∙ b.coefficients_are k low))
    (below-one DEPTH_LIMIT c.self.inside.lineage.now c.self.invariant.0 k (omega (arith, few, low)))
