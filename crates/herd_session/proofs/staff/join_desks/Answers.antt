-- A clerk who is awaited has filed in turn.
use Rattle.std.proofs.Common.{All, ◌≡◌, get_or, rules}
use Rattle.std.proofs.Math.Logic.{∥∥₁_map}
use Rattle.std.proofs.lemmas.List.Elements.{All-append, All-same}
use Rattle.std.proofs.lemmas.Result.{on_ok_weaker}
use Rattle.herd_office.specs.declared.desk.Desk.{Desk}
use Rattle.herd_session.specs.Filed.{HasFiledBelow, HasFiledInTurn}
use Rattle.herd_session.proofs.staff.join_desks.Goals as goal

pub returns : goal.returns
returns g c =
    let records = g.N.SessionName.records in
    let HasFiled : Desk _ _ → Type 0 = λ d. ∥ HasFiledInTurn records d ∥₁ in
    on_ok_weaker c.join_each.result
    (λ joined.
    let each : All HasFiled joined.0 = λ place desk within.
    let given_back = joined.2 place desk within in
    let clerk = given_back.0 in
    let post = given_back.1 in
    let is : get_or joined.0 place desk ≡ clerk.desk = search rules in
    rw is (∥∥₁_map clerk.filed (λ (has : HasFiledBelow records clerk.next clerk.desk). (clerk.next, has))) in
    All-same HasFiled _ _ joined.1 (All-append HasFiled c.args.desks.now.items joined.0 c.requires each))
    c.join_each.ensures
