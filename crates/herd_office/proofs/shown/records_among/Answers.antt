-- `records_among`: what is returned.
use Rattle.std.proofs.lemmas.Result.{IfOk-weaker}
use Rattle.herd_office.specs.Copies.{IsPartWith}
use Rattle.herd_office.proofs.LinkedFacts.{part_with}
use Rattle.herd_office.proofs.shown.records_among.Goals as goal

pub returns : goal.returns
returns g c =
    let book = c.args.linked.now.records.now in
    let numbers = c.args.numbers.now in
    IfOk-weaker c.records.result _ (λ r. IsPartWith book numbers r.items) (λ r is. part_with book numbers c.in_ok-found.found.places c.requires.lawful c.in_ok-found.ensures.found r.items is) c.records.ensures
