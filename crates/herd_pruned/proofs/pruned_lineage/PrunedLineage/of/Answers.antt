-- `PrunedLineage::of`: what its calls require, its loop, and its clause `kept`.
use Rattle.std.proofs.Common.{◌≡◌, ◌<◌, [], length, slice_get, Some, Contains, arith, ap, sym, ◌∙◌}
use Rattle.std.proofs.lemmas.List.{length-replicate}
use Rattle.std.proofs.lemmas.Option.{slice_get_read}
use Rattle.herd_lineage.specs.declared.TheConstants.{DEPTH_LIMIT, MOST_ANIMALS}
use Rattle.herd_pruned.specs.Marked.{IsMarked, MarksAncestors}
use Rattle.herd_pruned.proofs.lemmas.PruningFacts.{no_animals, pruning-can, pruning-end, pruning-next, pruning-past, pruning-start}
use Rattle.herd_pruned.proofs.pruned_lineage.PrunedLineage.of.Given.{Over}
use Rattle.herd_pruned.proofs.pruned_lineage.PrunedLineage.of.Goals.{After-index, then-index+in_ok-keep, else-index}
use Rattle.herd_pruned.proofs.pruned_lineage.PrunedLineage.of.Goals as goal

pub loop-rank-init : goal.loop-rank-init
loop-rank-init g c =
    let rows = c.args.lineage.now in
    let marks = c.in_ok-marks.marks.items in
    let places = c.in_ok-places.places.items in
    let none : c.in_ok-kept.kept ≡ [] = c.in_ok-kept.ensures in
    let empty : c.new-ranks.result.items ≡ [] = c.new-ranks.ensures.items in
    let long : length places ≡ length rows = ap length (c.in_ok-places.ensures.items_if_clones_equal (λ y e. e)) ∙ length-replicate c.len.result 0 ∙ c.len.ensures.value in
    record {
      lineage = rw none (no_animals DEPTH_LIMIT MOST_ANIMALS);
      pruning = rw (none, empty) (pruning-start rows marks places long);
    }

-- the mark that was read
read : (g : Over) (c : After-index g) → slice_get c.in_ok-marks.marks.items c.loop-rank.rank ≡ Some c.index.result.now
read g c =
    let marked : MarksAncestors c.args.lineage.now (Contains c.args.animals.now) c.in_ok-marks.marks.items = c.in_ok-marks.ensures in
    let within = c.loop-rank-test.true in
    let all = c.len-rank-end.ensures.value in
    slice_get_read c.in_ok-marks.marks.items (length c.args.lineage.now) c.loop-rank.rank c.index.result.now (sym marked.each) (omega (arith, within, all)) c.index.ensures

pub keep-requires-clause-next : goal.keep-requires-clause-next
keep-requires-clause-next g c =
    let marked : IsMarked c.in_ok-marks.marks.items c.loop-rank.rank = read g (goal.at.keep-requires-clause-next g c).After-index ∙ ap Some c.if-index.true in
    pruning-can DEPTH_LIMIT MOST_ANIMALS c.args.lineage.now c.len-rank-end.ensures.lineage (Contains c.args.animals.now) c.in_ok-marks.marks.items c.in_ok-marks.ensures c.loop-rank.rank
    (let within = c.loop-rank-test.true in let all = c.len-rank-end.ensures.value in omega (arith, within, all))
    c.loop-rank.kept c.loop-rank.invariant.lineage c.loop-rank.ranks.items c.loop-rank.places.items c.loop-rank.invariant.pruning marked c.parents.result c.parents.ensures.parents

pub loop-rank-preserved : goal.loop-rank-preserved
loop-rank-preserved g c =
    let rows = c.args.lineage.now in
    let marks = c.in_ok-marks.marks.items in
    let at = read g (goal.at.loop-rank-preserved g c).After-index in
    let within : c.loop-rank.rank < length rows = (let within = c.loop-rank-test.true in let all = c.len-rank-end.ensures.value in omega (arith, within, all)) in
    elim c.if-index.branch [
      | then-index+in_ok-keep w ↦
          rw (w.kept-is, w.ranks-is, w.places-is) (record {
            lineage = w.in_ok-keep.ensures.lineage;
            pruning = rw (w.in_ok-keep.ensures.kept, w.in_ok-keep.ensures.ranks, w.in_ok-keep.ensures.places)
                (pruning-next DEPTH_LIMIT MOST_ANIMALS rows c.len-rank-end.ensures.lineage (Contains c.args.animals.now) marks c.in_ok-marks.ensures c.loop-rank.rank within
                c.loop-rank.kept c.loop-rank.invariant.lineage c.loop-rank.ranks.items c.loop-rank.places.items c.loop-rank.invariant.pruning (at ∙ ap Some w.if-index.true) w.parents.result w.parents.ensures.parents);
          })
      | else-index w ↦
          rw (w.kept-is, w.ranks-is, w.places-is) (record {
            lineage = c.loop-rank.invariant.lineage;
            pruning = pruning-past DEPTH_LIMIT MOST_ANIMALS rows c.len-rank-end.ensures.lineage (Contains c.args.animals.now) marks c.in_ok-marks.ensures c.loop-rank.rank within
                c.loop-rank.kept c.loop-rank.invariant.lineage c.loop-rank.ranks.items c.loop-rank.places.items c.loop-rank.invariant.pruning (at ∙ ap Some w.if-index.false);
          })
    ]

pub returns-clause-kept : goal.returns-clause-kept
returns-clause-kept g c =
    pruning-end c.args.lineage.now c.args.animals.now c.in_ok-marks.marks.items c.loop-rank.rank c.loop-rank.kept c.loop-rank.ranks.items c.loop-rank.places.items
    (let last = c.loop-rank-test.false in let auto = c.loop-rank.auto.rank-end in let all = c.len-rank-end.ensures.value in omega (arith, last, auto, all))
    (c.in_ok-marks.ensures) c.loop-rank.invariant.pruning
