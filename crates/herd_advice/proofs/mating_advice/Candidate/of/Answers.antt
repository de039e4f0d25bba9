-- `Candidate::of`: its clause `there`.
use Rattle.std.proofs.Common.{sym, ◌∙◌, ap, leb}
use Rattle.herd_frozen.specs.declared.TheConstants.{DEPTH_LIMIT}
use Rattle.herd_advice.proofs.lemmas.MatingFacts.{deepest-is, parents-depth}
use Rattle.herd_advice.proofs.mating_advice.Candidate.of.Goals as goal

pub returns-clause-there : goal.returns-clause-there
returns-clause-there g c = record {
  book = c.parents.ensures.frozen;
  within = c.in_ok-rank.ensures.within;
  rank = c.in_ok-rank.ensures.rank;
  male = c.is_male.ensures;
  deepest = ap (leb DEPTH_LIMIT) (sym (parents-depth c.args.frozen.now c.in_ok-rank.rank c.parents.result c.parents.ensures.parents))
      ∙ deepest-is DEPTH_LIMIT c.args.frozen.now c.parents.ensures.frozen c.args.number.now c.in_ok-rank.rank c.in_ok-rank.ensures.rank;
}
