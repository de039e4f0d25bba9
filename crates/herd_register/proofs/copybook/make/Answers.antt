-- `make`: its clause `items` where another record is set.
use Rattle.std.proofs.Common.{◌≡◌, ◌∙◌, ◌<◌, ap, arith, length, refl, sym, vec_len}
use Rattle.herd_register.specs.Change.{changed_by}
use Rattle.herd_register.proofs.ChangeFacts.{set-at, set-beyond}
use Rattle.herd_register.proofs.copybook.make.Goals as goal

pub returns-in-Some-clause-items : goal.returns-in-Some-clause-items
returns-in-Some-clause-items g c =
    let items = c.args.records.now.items in
    let long : vec_len c.args.records.now ≡ length items = c.args.records.now.ok.0 in
    let there : c.in-Set.place < vec_len c.args.records.now = c.in-Some.ensures.variant.0 refl in
    set-at items c.in-Set.place c.in-Set.animal (omega (arith, long, there)) c.in-Some.record.now c.in-Some.ensures.value
    ∙ sym (ap (changed_by c.args.most items) c.in-Set.is)

pub returns-in_default-clause-items : goal.returns-in_default-clause-items
returns-in_default-clause-items g c =
    let items = c.args.records.now.items in
    let long : vec_len c.args.records.now ≡ length items = c.args.records.now.ok.0 in
    let beyond : (c.in-Set.place < vec_len c.args.records.now) → ⊥ = λ there. absurd (cc (c.in_default.ensures.variant.1 there)) in
    sym (ap (changed_by c.args.most items) c.in-Set.is ∙ set-beyond items c.in-Set.place c.in-Set.animal (omega (arith, long)))
