-- `trace`: what `start`, `mendelian` and `term` require, its loop, that nothing overflows, and its clauses `value` and `unknown`.
use Rattle.std.proofs.Common.{◌≡◌, ℕ, lit<, false, is_some, true, Some, arith, sym, ◌∙◌}
use Rattle.herd_lineage.specs.declared.TheConstants.{DEPTH_LIMIT, MOST_ANIMALS}
use Rattle.herd_kinship.proofs.lemmas.lineages.LineageFacts.{lineage-few}
use Rattle.herd_kinship.proofs.lemmas.Lists.{if-none, if-some}
use Rattle.herd_kinship.proofs.lemmas.sires.CalfFacts.{calf-pair, pair-known}
use Rattle.herd_kinship.proofs.lemmas.tracing.KnownFacts.{entry-one_unknown, known-next}
use Rattle.herd_kinship.proofs.lemmas.tracing.TermSums.{IsAdded, added, summed-start, summed-end}
use Rattle.herd_kinship.proofs.tracing.trace.Given.{Over}
use Rattle.herd_kinship.proofs.tracing.trace.Goals.{After-mendelian-variance}
use Rattle.herd_kinship.proofs.tracing.trace.Goals as goal

pub loop-met-init : goal.loop-met-init
loop-met-init g c =
    let start = summed-start DEPTH_LIMIT MOST_ANIMALS c.args.lineage.now c.start.ensures.tracing.ancestors.tracing.lineage c.args.rank c.requires.rank in
    record {
      same = c.start.ensures.rank;
      tracing = c.start.ensures.tracing;
      summed = rw (c.start.ensures.rank, c.start.ensures.border) start;
    }

pub mendelian-variance-requires-clause-known : goal.mendelian-variance-requires-clause-known
mendelian-variance-requires-clause-known g c =
    let is = c.loop-met.invariant.tracing.ancestors.tracing in
    known-next DEPTH_LIMIT MOST_ANIMALS c.args.lineage.now is.lineage c.args.known.now c.loop-met.tracing.rank c.loop-met.tracing.border c.in-Some.met.rank c.in-Some.met.share is.rank
    (rw c.loop-met.invariant.same c.requires.known) c.in-Some.ensures.next

-- what is added for the ancestor that is met
met : (g : Over) (c : After-mendelian-variance g) → IsAdded DEPTH_LIMIT c.args.lineage.now c.loop-met.tracing.rank c.loop-met.sum c.mendelian-variance.result c.in-Some.met
met g c =
    let is = c.loop-met.invariant.tracing.ancestors.tracing in
    added DEPTH_LIMIT MOST_ANIMALS c.args.lineage.now is.lineage c.loop-met.tracing.rank is.rank c.loop-met.tracing.border c.loop-met.sum c.mendelian-variance.result c.in-Some.met
    (lit< tt) (lit< tt) c.in-Some.ensures.next c.in-Some.ensures.met c.mendelian-variance.ensures.value c.loop-met.invariant.summed

pub overflow_mul-met : goal.overflow_mul-met
overflow_mul-met g c = let fits = (met g (goal.at.overflow_mul-met g c).After-mendelian-variance).shift in omega (arith, fits)

pub term-sum-requires-clause-shift : goal.term-sum-requires-clause-shift
term-sum-requires-clause-shift g c = (met g (goal.at.term-sum-requires-clause-shift g c).After-mendelian-variance).shift

pub term-sum-requires-clause-fits : goal.term-sum-requires-clause-fits
term-sum-requires-clause-fits g c = (met g (goal.at.term-sum-requires-clause-fits g c).After-mendelian-variance).fits

pub overflow_add-sum : goal.overflow_add-sum
overflow_add-sum g c =
    let fits = (met g (goal.at.overflow_add-sum g c).After-mendelian-variance).sum_fits in
    rw c.term-sum.ensures (omega (arith, fits))

pub loop-met-preserved : goal.loop-met-preserved
loop-met-preserved g c =
    let rank : c.meet_next.new.self.rank ≡ c.loop-met.tracing.rank = c.meet_next.ensures.same in
    record {
      same = rank ∙ c.loop-met.invariant.same;
      tracing = c.meet_next.ensures.tracing;
      summed = rw (rank, c.in-Some.ensures.border, c.term-sum.ensures) (met g (goal.at.loop-met-preserved g c).After-mendelian-variance).summed;
    }

pub returns-clause-value : goal.returns-clause-value
returns-clause-value g c =
    let x : ℕ = c.loop-met.tracing.rank in
    rw (← c.loop-met.invariant.same)
    (summed-end DEPTH_LIMIT MOST_ANIMALS c.args.lineage.now c.parents.ensures.lineage x c.loop-met.invariant.tracing.ancestors.tracing.rank c.loop-met.tracing.border c.loop-met.sum
    c.in_default.ensures.all c.loop-met.invariant.summed)

pub returns-clause-unknown : goal.returns-clause-unknown
returns-clause-unknown g c = λ unknown.
    let rows = c.args.lineage.now in
    let parents = c.parents.result in
    let some : is_some c.sire_of_pair.result ≡ true = cc in
    let sire = if-some (λ s. parents.sire ≡ Some s) c.sire_of_pair.result some c.sire_of_pair.ensures.sire in
    let dam = if-some (λ s. is_some parents.dam ≡ true) c.sire_of_pair.result some c.sire_of_pair.ensures.dam in
    let pair = calf-pair rows c.args.rank sire.0 parents c.parents.ensures.parents sire.1 dam.1 in
    pair-known rows sire.0 c.args.rank pair unknown

pub returns-then-is_none-clause-value : goal.returns-then-is_none-clause-value
returns-then-is_none-clause-value g c =
    let none : is_some c.sire_of_pair.result ≡ false = cc in
    sym (entry-one_unknown DEPTH_LIMIT MOST_ANIMALS c.args.lineage.now c.parents.ensures.lineage c.args.rank c.parents.result c.parents.ensures.parents
    (if-none c.sire_of_pair.result none c.sire_of_pair.ensures.unknown))

pub overflow_add-rank : goal.overflow_add-rank
overflow_add-rank g c = let few = lineage-few DEPTH_LIMIT MOST_ANIMALS c.args.lineage.now c.parents.ensures.lineage in let within = c.requires.rank in omega arith
