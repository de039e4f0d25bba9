-- `Pedigree::calved_after`: its result of a number that isn't there.
use Rattle.std.proofs.Common.{sym}
use Rattle.herd_frozen.specs.declared.TheConstants.{DEPTH_LIMIT, MOST_ANIMALS}
use Rattle.herd_pedigree.proofs.lemmas.store.CalvedFacts.{none_calved}
use Rattle.herd_pedigree.proofs.pedigree.Pedigree.calved_after.Goals as goal

pub returns-in-None : goal.returns-in-None
returns-in-None g c = sym (none_calved DEPTH_LIMIT MOST_ANIMALS c.args.self.now.book c.find.ensures.lawful c.args.number.now c.args.day c.in-None.ensures.absent)
