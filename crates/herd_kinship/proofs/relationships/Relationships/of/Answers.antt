-- `Relationships::of`: what `pass_to` requires, its loop, and its result.
use Rattle.std.proofs.Common.{◌≡◌, ℕ, ◌+◌, List, length, lit<, arith, sym, ap, subst}
use Rattle.std.proofs.lemmas.List.{get_or-replicate}
use Rattle.herd_lineage.specs.declared.TheConstants.{DEPTH_LIMIT, MOST_ANIMALS}
use Rattle.herd_kinship.proofs.lemmas.lineages.ParentsFacts.{parents-within}
use Rattle.herd_kinship.proofs.lemmas.sires.PassedOn.{AreRelated, IsPassing, related-next, related-passing}
use Rattle.herd_kinship.proofs.lemmas.Lists.{take-written}
use Rattle.herd_kinship.proofs.lemmas.sires.ColumnFacts.{relationships-made}
use Rattle.herd_kinship.proofs.relationships.Relationships.of.Given.{Over}
use Rattle.herd_kinship.proofs.relationships.Relationships.of.Goals.{After-parents}
use Rattle.herd_kinship.proofs.relationships.Relationships.of.Goals as goal

pub loop-j-init : goal.loop-j-init
loop-j-init g c =
    let rows = c.args.lineage.now in
    let column : List ℕ = c.write_parts.new.column in
    let each : length column ≡ length c.deref_mut.result.now = c.write_parts.ensures.long in
    let value = ap length c.deref_mut.ensures.value in
    let items = c.in_ok-column.ensures.items_if_clones_equal (λ y e. e) in
    let ok = c.in_ok-column.column.ok in
    let len = c.in_ok-column.ensures.len in
    let all = c.len.ensures.value in
    subst (λ xs. AreRelated DEPTH_LIMIT rows c.args.rank 0 xs) (sym (take-written c.in_ok-column.column.len column c.in_ok-column.column.items (omega arith)))
    (record {
      each = omega arith;
      done = λ j low. absurd (omega arith);
      left = λ j _ lj. c.write_parts.ensures.parts j lj (rw (c.deref_mut.ensures.value, items, all) (get_or-replicate (length rows) j 0 0 lj));
    })

-- the step can be made
step : (g : Over) (c : After-parents g) → IsPassing DEPTH_LIMIT c.args.lineage.now c.args.rank c.loop-j.column.items c.loop-j.j c.parents.result
step g c =
    related-passing DEPTH_LIMIT MOST_ANIMALS c.args.lineage.now c.parents.ensures.lineage c.args.rank c.requires.rank c.loop-j.j c.loop-j.column.items c.parents.result
    (lit< tt) c.parents.ensures.parents c.loop-j.invariant

pub pass_to-requires : goal.pass_to-requires
pass_to-requires g c = rw c.deref_mut-in-loop-j.ensures.value (step g (goal.at.pass_to-requires g c).After-parents).can

pub loop-j-preserved : goal.loop-j-preserved
loop-j-preserved g c =
    let rows = c.args.lineage.now in
    let items : List ℕ = c.loop-j.column.items in
    let column : List ℕ = c.pass_to.new.column in
    let next : AreRelated DEPTH_LIMIT rows c.args.rank (c.loop-j.j + 1) column =
    rw (c.pass_to.ensures, c.deref_mut-in-loop-j.ensures.value)
    (related-next DEPTH_LIMIT MOST_ANIMALS rows c.parents.ensures.lineage c.args.rank c.requires.rank c.loop-j.j _ items
    (parents-within rows c.loop-j.j c.parents.result c.parents.ensures.parents)
    (step g (goal.at.loop-j-preserved g c).After-parents).value c.loop-j.invariant) in
    let each : length column ≡ length rows = next.each in
    let before : length items ≡ length rows = c.loop-j.invariant.each in
    let ok = c.loop-j.column.ok in
    subst (λ xs. AreRelated DEPTH_LIMIT rows c.args.rank (c.loop-j.j + 1) xs) (sym (take-written c.loop-j.column.len column items (omega arith))) next

pub invariant_of-result : goal.invariant_of-result
invariant_of-result g c =
    let end = c.loop-j-test.false in
    let all = c.len-j-end.ensures.value in (
      c.requires.rank,
      relationships-made DEPTH_LIMIT c.args.lineage.now c.len-j-end.ensures.lineage c.args.rank c.loop-j.column.items c.requires.rank c.loop-j.invariant.each
          (λ j lj. c.loop-j.invariant.done j (omega arith)),
    )
