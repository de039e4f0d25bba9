-- `mark_parents`: its loop.
use Rattle.std.proofs.Common.{◌≡◌, ℕ, ◌-◌, ◌<◌, suc, false, length, Some, slice_get, arith, ap, subst, ◌∙◌}
use Rattle.std.proofs.lemmas.Option.{slice_get-get_or}
use Rattle.herd_lineage.specs.declared.TheConstants.{DEPTH_LIMIT, MOST_ANIMALS}
use Rattle.herd_kinship.proofs.lemmas.lineages.ParentsFacts.{parents-dam, parents-sire}
use Rattle.herd_pruned.specs.Marked.{IsMarked}
use Rattle.herd_pruned.proofs.lemmas.MarkedFacts.{IsMarking, marking-end, marking-next, marking-past, marking-start}
use Rattle.herd_pruned.proofs.marked.mark_parents.Goals as goal

pub loop-rank-init : goal.loop-rank-init
loop-rank-init g c = marking-start c.args.lineage.now c.args.marks.now c.len-rank.result c.requires c.len-rank.ensures.value

pub loop-rank-preserved-then-marks-rank : goal.loop-rank-preserved-then-marks-rank
loop-rank-preserved-then-marks-rank g c =
    let rows = c.args.lineage.now in
    let marks = c.loop-rank.marks in
    let x : ℕ = c.loop-rank.rank - 1 in
    let positive = c.loop-rank-test.true in
    let each = c.loop-rank.invariant.each in
    let auto = c.loop-rank.auto.rank in
    let all = c.len-rank.ensures.value in
    let within : x < length rows = omega (arith, positive, auto, all) in
    let long : x < length marks = omega (arith, within, each) in
    let marked : IsMarked marks x = slice_get-get_or marks x false long ∙ ap Some c.if-marks-rank.true in
    let before : IsMarking rows (IsMarked c.args.marks.now) (suc x) marks =
    subst (λ b. IsMarking rows (IsMarked c.args.marks.now) b marks) (let e : c.loop-rank.rank ≡ suc x = omega (arith, positive) in e) c.loop-rank.invariant in
    let sire = parents-sire rows x c.parents-parents.result c.parents-parents.ensures.parents in
    let dam = parents-dam rows x c.parents-parents.result c.parents-parents.ensures.parents in
    rw (c.mark-then-marks-rank.ensures, c.mark.ensures)
    (rw (sire, dam) at (marking-next DEPTH_LIMIT MOST_ANIMALS rows c.len-rank.ensures.lineage (IsMarked c.args.marks.now) x marks before marked within))

pub loop-rank-preserved : goal.loop-rank-preserved
loop-rank-preserved g c =
    let rows = c.args.lineage.now in
    let marks = c.loop-rank.marks in
    let x : ℕ = c.loop-rank.rank - 1 in
    let positive = c.loop-rank-test.true in
    let each = c.loop-rank.invariant.each in
    let auto = c.loop-rank.auto.rank in
    let all = c.len-rank.ensures.value in
    let long : x < length marks = omega (arith, positive, auto, all, each) in
    let unmarked : slice_get marks x ≡ Some false = slice_get-get_or marks x false long ∙ ap Some c.if-marks-rank.false in
    let before : IsMarking rows (IsMarked c.args.marks.now) (suc x) marks =
    subst (λ b. IsMarking rows (IsMarked c.args.marks.now) b marks) (let e : c.loop-rank.rank ≡ suc x = omega (arith, positive) in e) c.loop-rank.invariant in
    marking-past DEPTH_LIMIT MOST_ANIMALS rows c.len-rank.ensures.lineage (IsMarked c.args.marks.now) x marks before unmarked

pub returns : goal.returns
returns g c =
    let end : c.loop-rank.rank ≡ 0 = let t = c.loop-rank-test.false in omega (arith, t) in
    marking-end c.args.lineage.now (IsMarked c.args.marks.now) c.loop-rank.marks
    (subst (λ b. IsMarking c.args.lineage.now (IsMarked c.args.marks.now) b c.loop-rank.marks) end c.loop-rank.invariant)
