-- `rank_in`: its clause `rank`.
use Rattle.std.proofs.Common.{arith, rules, sym}
use Rattle.herd_pedigree_file.proofs.lemmas.NumberFacts.{rank_in-no_number, rank_in-number, rank_in-outside}
use Rattle.herd_pedigree_file.proofs.number.rank_in.Goals as goal

pub returns-in_err-number-clause-rank : goal.returns-in_err-number-clause-rank
returns-in_err-number-clause-rank c =
    rw (rank_in-no_number c.args.animals c.ranges.animals.fits c.args.text.now c.in_err-number.ensures.none) (search rules)

pub returns-then-number-eq0-clause-rank : goal.returns-then-number-eq0-clause-rank
returns-then-number-eq0-clause-rank c =
    sym (rank_in-outside c.args.animals c.ranges.animals.fits c.args.text.now c.in_ok-number.number c.in_ok-number.ensures.number (omega arith) (λ rank low same. omega arith))

pub returns-then-animals-number-clause-rank : goal.returns-then-animals-number-clause-rank
returns-then-animals-number-clause-rank c =
    sym (rank_in-outside c.args.animals c.ranges.animals.fits c.args.text.now c.in_ok-number.number c.in_ok-number.ensures.number (omega arith) (λ rank low same. omega arith))

pub returns-clause-rank : goal.returns-clause-rank
returns-clause-rank c =
    sym (rank_in-number c.args.animals c.ranges.animals.fits c.args.text.now c.in_ok-number.number c.in_ok-number.ensures.number (omega arith) (omega arith))
