-- `Tracing::meet_next`: what `give` requires and its clauses `tracing`, `all`, `shares`, `next` and `met`.
use Rattle.std.proofs.Common.{◌≡◌, ℕ, ◌-◌, length, set, arith, refl, sym, ◌∙◌, ap, subst}
use Rattle.std.proofs.lemmas.List.{get_or_read, length-set}
use Rattle.herd_lineage.specs.declared.TheConstants.{DEPTH_LIMIT}
use Rattle.herd_lineage.specs.Lineage.{depth_at}
use Rattle.herd_kinship.specs.Tracing.{given, GivesMark}
use Rattle.herd_kinship.proofs.lemmas.lineages.ParentsFacts.{parents-depth, parents-within}
use Rattle.herd_kinship.proofs.lemmas.tracing.TracingFacts.{length-given}
use Rattle.herd_kinship.proofs.lemmas.tracing.UnderWayFacts.{IsMet, none-left, taken-met, under_way-end}
use Rattle.herd_kinship.proofs.tracing.Tracing.meet_next.Given.{Over}
use Rattle.herd_kinship.proofs.tracing.Tracing.meet_next.Goals.{After-index-share}
use Rattle.herd_kinship.proofs.tracing.Tracing.meet_next.Goals as goal

pub returns-in_default-clause-tracing : goal.returns-in_default-clause-tracing
returns-in_default-clause-tracing g c = record {
  depth = c.requires.depth;
  ancestors = rw c.in_default.ensures.same
      (under_way-end DEPTH_LIMIT c.args.lineage.now c.args.self.now.rank c.args.self.now.border c.args.self.now.shares.items c.args.self.now.pending.chunks.items
      c.requires.ancestors c.in_default.ensures.empty);
}

pub returns-in_default-clause-all : goal.returns-in_default-clause-all
returns-in_default-clause-all g c =
    none-left DEPTH_LIMIT c.args.lineage.now c.args.self.now.rank c.args.self.now.border c.args.self.now.shares.items c.args.self.now.pending.chunks.items
    c.requires.ancestors c.in_default.ensures.empty

-- what is met at the distance that is taken
met : (g : Over) (c : After-index-share g) →
    IsMet DEPTH_LIMIT c.args.lineage.now c.args.self.now.rank c.args.self.now.border c.args.self.now.shares.items c.take_nearest.new.self.chunks.items c.in-Some.distance
    c.index-share.result.now c.parents-parents.result
met g c =
    let d : ℕ = c.in-Some.distance in
    let shares = c.args.self.now.shares.items in
    let chunks = c.args.self.now.pending.chunks.items in
    let near = (c.requires.ancestors.marks.pending d c.in-Some.ensures.found).near in
    let long = c.requires.ancestors.tracing.long in
    taken-met DEPTH_LIMIT c.args.lineage.now c.args.self.now.rank c.args.self.now.border shares chunks c.requires.ancestors c.take_nearest.new.self.chunks.items d c.index-share.result.now
    (record {
      distance = record { found = c.in-Some.ensures.found; nearest = c.in-Some.ensures.nearest; taken = c.in-Some.ensures.taken };
      own_is = get_or_read shares d c.index-share.result.now (omega (arith, near, long)) c.index-share.ensures 0;
    })
    c.parents-parents.result c.parents-parents.ensures.parents

pub overflow_sub-met : goal.overflow_sub-met
overflow_sub-met g c =
    let mine = c.requires.depth in
    let its = parents-depth c.args.lineage.now (c.args.self.now.rank - c.in-Some.distance) c.parents-parents.result c.parents-parents.ensures.parents in
    let less = (met g (goal.at.overflow_sub-met g c).After-index-share).next.share_is.less_deep in
    omega (arith, mine, its, less)

pub give-requires-clause-depth : goal.give-requires-clause-depth
give-requires-clause-depth g c = sym (parents-depth c.args.lineage.now (c.args.self.now.rank - c.in-Some.distance) c.parents-parents.result c.parents-parents.ensures.parents)

pub give-requires-2-clause-depth : goal.give-requires-2-clause-depth
give-requires-2-clause-depth g c = sym (parents-depth c.args.lineage.now (c.args.self.now.rank - c.in-Some.distance) c.parents-parents.result c.parents-parents.ensures.parents)

pub give-requires-clause-room : goal.give-requires-clause-room
give-requires-clause-room g c = (met g (goal.at.give-requires-clause-room g c).After-index-share).room_sire

pub give-requires-2-clause-room : goal.give-requires-2-clause-room
give-requires-2-clause-room g c =
    rw (c.give.ensures.rank, c.give.ensures.shares) (met g (goal.at.give-requires-2-clause-room g c).After-index-share).room_dam

pub returns-clause-shares : goal.returns-clause-shares
returns-clause-shares g c =
    let rows = c.args.lineage.now in
    let x : ℕ = c.args.self.now.rank in
    let shares = c.args.self.now.shares.items in
    let d : ℕ = c.in-Some.distance in
    let own : ℕ = c.index-share.result.now in
    let sire = c.parents-parents.result.sire in
    ap length c.give-2.ensures.shares
    ∙ (length-given rows c.give.new.self.rank c.give.new.self.shares.items (x - d) own c.parents-parents.result.dam
    ∙ (ap length c.give.ensures.shares ∙ (length-given rows x (set shares d 0) (x - d) own sire ∙ length-set shares d 0)))

pub returns-clause-tracing : goal.returns-clause-tracing
returns-clause-tracing g c =
    let rows = c.args.lineage.now in
    let x : ℕ = c.args.self.now.rank in
    let shares = c.args.self.now.shares.items in
    let d : ℕ = c.in-Some.distance in
    let own : ℕ = c.index-share.result.now in
    let parents = c.parents-parents.result in
    let first = c.give.new.self.pending.chunks.items in
    let last = c.give-2.new.self.pending.chunks.items in
    let rank : c.give-2.new.self.rank ≡ x = c.give-2.ensures.rank ∙ c.give.ensures.rank in
    let border : c.give-2.new.self.border ≡ x - d = c.give-2.ensures.border ∙ c.give.ensures.border in
    let second : GivesMark x first last parents.dam = subst (λ v. GivesMark v first last parents.dam) c.give.ensures.rank c.give-2.ensures.marks in
    let all : c.give-2.new.self.shares.items ≡ given rows x (given rows x (set shares d 0) (x - d) own parents.sire) (x - d) own parents.dam =
    c.give-2.ensures.shares ∙ rw (c.give.ensures.shares, c.give.ensures.rank) refl in
    record {
      depth = c.give-2.ensures.depth ∙ (c.give.ensures.depth ∙ (c.requires.depth ∙ ap (depth_at rows) (sym rank)));
      ancestors = rw (rank, border, all) ((met g (goal.at.returns-clause-tracing g c).After-index-share).under_way first last c.give.ensures.marks second);
    }

pub returns-clause-next : goal.returns-clause-next
returns-clause-next g c = (met g (goal.at.returns-clause-next g c).After-index-share).next

pub returns-clause-met : goal.returns-clause-met
returns-clause-met g c =
    let rows = c.args.lineage.now in
    let y : ℕ = c.args.self.now.rank - c.in-Some.distance in
    let at = c.parents-parents.ensures.parents in
    record {
      within = parents-within rows y c.parents-parents.result at;
      depth = sym (parents-depth rows y c.parents-parents.result at);
      steps = let mine = c.requires.depth in let its = parents-depth rows y c.parents-parents.result at in omega (arith, mine, its);
    }
