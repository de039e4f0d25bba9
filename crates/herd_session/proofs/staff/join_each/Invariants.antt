-- Each who joined so far was given back by a thread.
use Rattle.std.proofs.Common.{◌≡◌, ◌++◌, All, List}
use Rattle.herd_session.proofs.staff.join_each.Given as goal

abbrev pub invariant-loop-thread : goal.invariant-loop-thread
invariant-loop-thread g l =
    (joined : List g.row.M.Denot) × (l.members.items ≡ l.fn.members.items ++ joined)
    × All (λ member. (given_back : g.row.B.Denot) × goal.F-post g l.member_of given_back member) joined
