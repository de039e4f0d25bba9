-- One more joins.
use Rattle.std.proofs.Common.{◌≡◌, ◌∙◌, ◌++◌, ◌∷◌, List, [], ap, rules}
use Rattle.std.proofs.lemmas.List.{append_assoc}
use Rattle.std.proofs.lemmas.List.Elements.{All-push}
use Rattle.herd_session.proofs.staff.join_each.Goals as goal

pub loop-thread-preserved : goal.loop-thread-preserved
loop-thread-preserved g c =
    let before = c.loop-thread.invariant in
    let one : List g.row.M.Denot = c.call.result ∷ [] in
    let pushed : c.push.new.self.items ≡ c.loop-thread.members.items ++ one = search rules in
    let IsGivenBack : g.row.M.Denot → Type 0 = λ member. (given_back : g.row.B.Denot) × goal.F-post g c.args.member_of given_back member in (
      before.0 ++ one,
      pushed ∙ ap (λ members. members ++ one) before.1 ∙ append_assoc c.args.members.now.items before.0 one,
      All-push IsGivenBack before.0 c.call.result before.2 (c.in_ok-join.field-0, c.call.ensures),
    )
