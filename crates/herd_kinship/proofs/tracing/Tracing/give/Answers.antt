-- `Tracing::give`: what `parents` requires, that nothing overflows, and its clause `shares`.
use Rattle.std.proofs.Common.{◌≡◌, ◌-◌, get_or, lit<, arith, refl}
use Rattle.std.proofs.lemmas.List.{get_or_read}
use Rattle.herd_lineage.specs.declared.TheConstants.{DEPTH_LIMIT}
use Rattle.herd_kinship.proofs.lemmas.tracing.TracingFacts.{IsGift, gift-is}
use Rattle.herd_kinship.proofs.tracing.Tracing.give.Given.{Over}
use Rattle.herd_kinship.proofs.tracing.Tracing.give.Goals.{After-parents, After-index_mut}
use Rattle.herd_kinship.proofs.tracing.Tracing.give.Goals as goal

pub parents-requires : goal.parents-requires
parents-requires g c =
    let room = c.requires.room c.in-Some.rank c.in-Some.is in
    let lower = room.lower in let met = room.met in let rank = room.rank in omega arith

-- what the parent gets
gift : (g : Over) (c : After-parents g) →
    IsGift DEPTH_LIMIT c.args.lineage.now c.args.self.now.rank c.args.self.now.shares.items c.args.met.rank c.args.met.share c.in-Some.rank c.args.met.depth c.parents.result.depth
gift g c =
    gift-is DEPTH_LIMIT c.args.lineage.now c.args.self.now.rank c.args.self.now.shares.items c.args.met.rank c.args.met.share c.in-Some.rank c.args.met.depth c.parents.result
    (lit< tt) (lit< tt) (c.requires.room c.in-Some.rank c.in-Some.is) c.requires.depth c.parents.ensures.parents

pub overflow_sub-steps : goal.overflow_sub-steps
overflow_sub-steps g c = let less = (gift g (goal.at.overflow_sub-steps g c).After-parents).less_deep in omega (arith, less)

pub overflow_sub-gift : goal.overflow_sub-gift
overflow_sub-gift g c = let less = (gift g (goal.at.overflow_sub-gift g c).After-parents).less_deep in omega (arith, less)

pub overflow_shl-gift : goal.overflow_shl-gift
overflow_shl-gift g c = (gift g (goal.at.overflow_shl-gift g c).After-parents).steps

pub overflow_sub-distance : goal.overflow_sub-distance
overflow_sub-distance g c = (gift g (goal.at.overflow_sub-distance g c).After-parents).distance

-- the share that the parent has before
before : (g : Over) (c : After-index_mut g) → c.index_mut.result.now ≡ get_or c.args.self.now.shares.items (c.args.self.now.rank - c.in-Some.rank) 0
before g c =
    let long = (c.requires.room c.in-Some.rank c.in-Some.is).long in
    get_or_read c.args.self.now.shares.items (c.args.self.now.rank - c.in-Some.rank) c.index_mut.result.now (omega (arith, long)) c.index_mut.ensures.value 0

pub overflow_add-index_mut : goal.overflow_add-index_mut
overflow_add-index_mut g c =
    let fits = (gift g (goal.at.overflow_add-index_mut g c).After-parents).fits in
    rw (before g (goal.at.overflow_add-index_mut g c).After-index_mut) (omega (arith, fits))

pub returns-in-Some-clause-shares : goal.returns-in-Some-clause-shares
returns-in-Some-clause-shares g c =
    let exact = (gift g (goal.at.returns-in-Some-clause-shares g c).After-parents).exact in
    rw (before g (goal.at.returns-in-Some-clause-shares g c).After-index_mut, exact, c.in-Some.is) refl
