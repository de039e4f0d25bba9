-- `linked::place_of`: its loop, and its clauses `place` and `absent`.
use Rattle.std.proofs.Common.{◌≡◌, ◌∙◌, ◌+◌, ◌-◌, ◌<◌, arith, ap, sym, subst, ℕ, List, Some, get_or, length, slice_get}
use Rattle.std.proofs.lemmas.Option.{slice_get-get_or}
use Rattle.herd_frozen.specs.rules.Book.{Book}
use Rattle.herd_frozen.proofs.lemmas.rules.BookFacts.{key_from_entry, same_bytes}
use Rattle.herd_office.proofs.LinkedFacts.{IsNotFrom, absent_from, not_from-next}
use Rattle.herd_office.proofs.linked.place_of.Goals as goal

pub returns-then-eq-clause-place : goal.returns-then-eq-clause-place
returns-then-eq-clause-place c =
    let book : Book = c.args.records.now in
    let place : ℕ = c.loop-place.place - 1 in
    let entry = get_or book place c.index-records-place.result in
    let low : place < length book = let w = c.loop-place.invariant.within in let t = c.loop-place-test.true in omega (arith, w, t) in
    let here : slice_get book place ≡ Some entry = slice_get-get_or book place c.index-records-place.result low in
    key_from_entry book place entry.0 entry.1 here ∙ ap Some (same_bytes _ _ (sym c.eq.ensures ∙ c.if-eq.true))

pub loop-place-preserved : goal.loop-place-preserved
loop-place-preserved c =
    let book : Book = c.args.records.now in
    let number : List ℕ = c.args.number.now in
    let place : ℕ = c.loop-place.place - 1 in
    let entry = get_or book place c.index-records-place.result in
    let w = c.loop-place.invariant.within in
    let t = c.loop-place-test.true in
    let here : slice_get book place ≡ Some entry = slice_get-get_or book place c.index-records-place.result (omega (arith, w, t)) in
    let next : c.loop-place.place ≡ place + 1 = omega (arith, t) in
    record {
      within = omega (arith, w, t);
      not = not_from-next book number place entry here (sym c.eq.ensures ∙ c.if-eq.false) (subst (IsNotFrom book number) next c.loop-place.invariant.not);
    }

pub returns-clause-absent : goal.returns-clause-absent
returns-clause-absent c =
    let all : c.loop-place.place ≡ 0 = let t = c.loop-place-test.false in omega (arith, t) in
    absent_from c.args.records.now c.args.number.now (subst (IsNotFrom c.args.records.now c.args.number.now) all c.loop-place.invariant.not)
