-- `Calves::of`: what `index` and `index_mut` require, its loop, and its result.
use Rattle.std.proofs.Common.{◌≡◌, ℕ, ◌<◌, inl, List, length, Option, None, Some, arith, ◌∙◌, subst}
use Rattle.std.proofs.lemmas.List.{get_or_read}
use Rattle.herd_lineage.specs.declared.TheConstants.{DEPTH_LIMIT, MOST_ANIMALS}
use Rattle.herd_lineage.specs.Lineage.{sire_rank}
use Rattle.herd_kinship.specs.CalfLinks.{AreLinked, IsCalf}
use Rattle.herd_kinship.proofs.lemmas.sires.CalfFacts.{calf-pair, linked-calf, linked-other, no-calf}
use Rattle.herd_kinship.proofs.lemmas.lineages.LineageFacts.{lineage-ranked}
use Rattle.herd_kinship.proofs.lemmas.lineages.ParentsFacts.{parents-sire, parents-within}
use Rattle.herd_kinship.proofs.calves.Calves.of.Given.{Over}
use Rattle.herd_kinship.proofs.calves.Calves.of.Goals.{in-Some, in_default, In-Some}
use Rattle.herd_kinship.proofs.calves.Calves.of.Goals as goal

-- the sire stands before its calf
within : (g : Over) (c : In-Some g) → c.in-Some.sire < length c.loop-calf.latest.items
within g c =
    let rows = c.args.lineage.now in
    let i : ℕ = c.loop-calf.calf in
    let is : sire_rank rows i ≡ Some c.in-Some.sire = parents-sire rows i c.parents.result c.parents.ensures.parents ∙ c.in-Some.ensures.sire in
    let li = parents-within rows i c.parents.result c.parents.ensures.parents in
    let lower : c.in-Some.sire < i = (lineage-ranked DEPTH_LIMIT MOST_ANIMALS rows c.len-animals.ensures.lineage).below i c.in-Some.sire li (inl is) in
    let each : length c.loop-calf.latest.items ≡ length rows = c.loop-calf.invariant.each_sire in
    omega arith

pub index-requires : goal.index-requires
index-requires g c = let low = within g (goal.at.index-requires g c).In-Some in let ok = c.loop-calf.latest.ok in omega arith

pub index_mut-requires-in-Some : goal.index_mut-requires-in-Some
index_mut-requires-in-Some g c = let low = within g (goal.at.index_mut-requires-in-Some g c).In-Some in let ok = c.loop-calf.latest.ok in omega arith

pub loop-calf-preserved : goal.loop-calf-preserved
loop-calf-preserved g c =
    let rows = c.args.lineage.now in
    let i : ℕ = c.loop-calf.calf in
    let latest : List (Option ℕ) = c.loop-calf.latest.items in
    let earlier : List (Option ℕ) = c.loop-calf.earlier.items in
    let li : i < length rows = parents-within rows i c.parents.result c.parents.ensures.parents in
    elim c.match-sire_of_pair.branch [
      | in-Some w ↦
          (let p : ℕ = w.in-Some.sire in
          let calf : IsCalf rows p i = calf-pair rows i p c.parents.result c.parents.ensures.parents w.in-Some.ensures.sire w.in-Some.ensures.dam in
          let lower : p < i = (lineage-ranked DEPTH_LIMIT MOST_ANIMALS rows c.len-animals.ensures.lineage).below i p li (inl calf.0) in
          let each : length latest ≡ length rows = c.loop-calf.invariant.each_sire in
          let read = get_or_read latest p w.index.result.now (omega arith) w.index.ensures None in
          rw (w.latest-is, w.earlier-is, w.at.ensures, read) (linked-calf rows i p latest earlier li (omega arith) calf c.loop-calf.invariant))
      | in_default w ↦
          rw (w.latest-is, w.earlier-is) (linked-other rows i latest earlier (no-calf rows i c.parents.result c.parents.ensures.parents w.in_default.ensures.unknown) c.loop-calf.invariant)
    ]

pub returns : goal.returns
returns g c =
    let rows = c.args.lineage.now in
    let end = c.len-calf-end.ensures.value in
    let past = c.loop-calf-test.false in
    let within = c.loop-calf.auto.calf-end in
    let all : c.loop-calf.calf ≡ length rows = omega arith in
    subst (λ n. AreLinked rows n c.loop-calf.latest.items c.loop-calf.earlier.items) all c.loop-calf.invariant
