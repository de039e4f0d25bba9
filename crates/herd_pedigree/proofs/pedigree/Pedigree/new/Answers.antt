-- `Pedigree::new`: the invariant.
use Rattle.herd_frozen.specs.declared.TheConstants.{DEPTH_LIMIT, MOST_ANIMALS}
use Rattle.herd_pedigree.proofs.KeptFacts.{IsHeld-empty}
use Rattle.herd_pedigree.proofs.pedigree.Pedigree.new.Goals as goal

pub invariant_of-result : goal.invariant_of-result
invariant_of-result g c =
    rw (c.new.ensures, c.new-2.ensures, c.new-3.ensures, c.new-4.ensures.items) (IsHeld-empty DEPTH_LIMIT MOST_ANIMALS c.new-5.result.items)
