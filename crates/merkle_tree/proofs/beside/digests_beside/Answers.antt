use Rattle.std.proofs.Common.{◌∙◌, ap, List, ℕ, ◌++◌}
use Rattle.merkle_tree.specs.Shown.{beside, beside_at}
use Rattle.merkle_tree.proofs.beside.digests_beside.Goals as goal

pub returns : goal.returns
unfolding beside
returns g c =
    c.in_ok-push_beside.ensures
    ∙ ap (λ (l : List (List ℕ)). l ++ beside_at 64 0 c.args.leaves.now c.args.places.now) c.new-digests.ensures.items
