use Rattle.std.specs.Option.{option_map}
use Rattle.merkle_tree.specs.Shown.{found_in}
use Rattle.merkle_tree.proofs.lemmas.Steps.{found_unshown, found_zero, found_within, found_halves, nothing_first, nothing_second, both_found}
use Rattle.merkle_tree.proofs.shown.+root_at.Goals as goal

pub returns-in_default : goal.returns-in_default
returns-in_default t c =
    found_unshown (option_map found_in c.first_of.result) c.args.level c.args.base c.args.count c.args.shown.now c.args.digests.now c.in_default.ensures.cases c.first_of.ensures

pub returns-then-level-eq0 : goal.returns-then-level-eq0
returns-then-level-eq0 t c =
    found_zero (option_map found_in c.leaf_at.result) c.args.level c.args.base c.args.count c.args.shown.now c.in-Some.first.now c.in-Some.rest.now c.args.digests.now
    c.if-level-eq0.true c.in-Some.ensures.cases.0 c.leaf_at.ensures

pub returns-then-count-half : goal.returns-then-count-half
returns-then-count-half t c =
    found_within (option_map found_in c.root_at.result) c.args.level c.half_of-half.result c.args.base c.args.count c.args.shown.now c.in-Some.first.now c.in-Some.rest.now c.args.digests.now
    c.if-level-eq0.false c.half_of-half.ensures c.in-Some.ensures.cases.0 c.if-count-half.true c.root_at.ensures

pub returns-in_err-one : goal.returns-in_err-one
returns-in_err-one t c =
    found_halves (option_map found_in c.from_residual.result) (option_map found_in c.root_at-2.result) c.args.level c.half_of-half.result c.count_before.result c.args.base c.args.count
    c.args.shown.now c.in-Some.first.now c.in-Some.rest.now c.split_at.result.0.now c.split_at.result.1.now c.args.digests.now
    c.if-level-eq0.false c.half_of-half.ensures c.in-Some.ensures.cases.0 c.if-count-half.false
    c.count_before.ensures.count c.split_at.ensures.front c.split_at.ensures.back c.root_at-2.ensures
    (nothing_first c.from_residual.result c.root_at-2.result _ c.from_residual.ensures c.in_err-one.was)

pub returns-in_err-two : goal.returns-in_err-two
returns-in_err-two t c =
    found_halves (option_map found_in c.from_residual-in_err-two.result) (option_map found_in c.root_at-2.result) c.args.level c.half_of-half.result c.count_before.result c.args.base c.args.count
    c.args.shown.now c.in-Some.first.now c.in-Some.rest.now c.split_at.result.0.now c.split_at.result.1.now c.args.digests.now
    c.if-level-eq0.false c.half_of-half.ensures c.in-Some.ensures.cases.0 c.if-count-half.false
    c.count_before.ensures.count c.split_at.ensures.front c.split_at.ensures.back c.root_at-2.ensures
    (nothing_second c.from_residual-in_err-two.result c.root_at-2.result c.root_at-3.result c.in_ok-one.one _
    c.from_residual-in_err-two.ensures c.in_ok-one.was c.in_err-two.was c.root_at-3.ensures)

pub returns : goal.returns
returns t c =
    found_halves _ (option_map found_in c.root_at-2.result) c.args.level c.half_of-half.result c.count_before.result c.args.base c.args.count
    c.args.shown.now c.in-Some.first.now c.in-Some.rest.now c.split_at.result.0.now c.split_at.result.1.now c.args.digests.now
    c.if-level-eq0.false c.half_of-half.ensures c.in-Some.ensures.cases.0 c.if-count-half.false
    c.count_before.ensures.count c.split_at.ensures.front c.split_at.ensures.back c.root_at-2.ensures
    (both_found c.root_at-2.result c.root_at-3.result c.in_ok-one.one c.in_ok-two.two c.node_digest.result _
    c.in_ok-one.was c.in_ok-two.was c.root_at-3.ensures c.node_digest.ensures)
