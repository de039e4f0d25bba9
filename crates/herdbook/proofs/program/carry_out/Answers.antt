-- Words that ask for nothing end the program.
use Rattle.herdbook.proofs.ProgramFacts.{ended-words}
use Rattle.herdbook.proofs.program.carry_out.Goals as goal

pub returns-in-Err-clause-ended : goal.returns-in-Err-clause-ended
returns-in-Err-clause-ended g c =
    ended-words (g.R.Read.remaining c.args.reader) _ _ _ c.in-Err.fault c.of_words.result c.in-Err.ensures.refused c.of_words.ensures
