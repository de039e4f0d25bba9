use Rattle.std.proofs.Common.{◌≡◌, ℕ, List, length, ◌++◌, subst, sym, ◌∙◌, OnOk, eqb-true}
use Rattle.std.proofs.lemmas.Bool.{eqb-false}
use Rattle.merkle_tree.proofs.lemmas.Steps.{beside_unshown, beside_leaf, beside_within, beside_halves, on_ok_with}
use Rattle.merkle_tree.proofs.beside.+push_beside.Goals as goal

pub returns-then-is_empty : goal.returns-then-is_empty
returns-then-is_empty g t c =
    beside_unshown c.args.digests.now.items c.push.new.self.items c.args.level c.args.base c.args.leaves.now c.tree_at.result c.args.places.now
    (eqb-true (length c.args.places.now) 0 (sym c.is_empty.ensures ∙ c.if-is_empty.true)) c.tree_at.ensures c.in_ok-push.ensures.items

pub returns-then-level-eq0 : goal.returns-then-level-eq0
returns-then-level-eq0 g t c =
    beside_leaf c.args.digests.now.items c.args.level c.args.base c.args.leaves.now c.args.places.now c.if-level-eq0.true
    (eqb-false (length c.args.places.now) 0 (sym c.is_empty.ensures ∙ c.if-is_empty.false))

pub returns-then-leaves-half : goal.returns-then-leaves-half
returns-then-leaves-half g t c =
    subst (λ (p : List (List ℕ)). OnOk c.push_beside.result (c.push_beside.new.digests.items ≡ c.args.digests.now.items ++ p))
    (beside_within c.args.level c.half_of-half.result c.args.base c.args.leaves.now c.args.places.now c.if-level-eq0.false c.half_of-half.ensures
    (eqb-false (length c.args.places.now) 0 (sym c.is_empty.ensures ∙ c.if-is_empty.false)) c.if-leaves-half.true)
    c.push_beside.ensures

pub returns : goal.returns
returns g t c =
    on_ok_with c.push_beside-3.result _ _
    (λ done. beside_halves c.args.digests.now.items c.push_beside-2.new.digests.items c.push_beside-3.new.digests.items
    c.split_at.result.0.now c.split_at.result.1.now c.args.level c.half_of-half.result c.count_before.result c.args.base c.args.leaves.now c.args.places.now
    c.split_at-2.result.0.now c.split_at-2.result.1.now c.if-level-eq0.false c.half_of-half.ensures
    (eqb-false (length c.args.places.now) 0 (sym c.is_empty.ensures ∙ c.if-is_empty.false)) c.if-leaves-half.false
    c.split_at.ensures.front c.split_at.ensures.back c.count_before.ensures.count c.split_at-2.ensures.front c.split_at-2.ensures.back
    c.in_ok-push_beside.ensures done) c.push_beside-3.ensures
