-- Nothing was filed.
use Rattle.herd_session.proofs.FiledFacts.{none_below}
use Rattle.herd_session.proofs.desk_work.Clerk.new.Goals as goal

pub invariant_of-result : goal.invariant_of-result
invariant_of-result g c =
    record { filed = ∣ none_below g.N.SessionName.records c.args.desk c.requires.0 c.requires.1 ∣₁ }
