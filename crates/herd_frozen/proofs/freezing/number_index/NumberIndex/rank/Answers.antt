-- `NumberIndex::rank`: its loop and its clause `found`.
use Rattle.std.proofs.Common.{arith, sym, ap, ◌∙◌, subst, ◌≡◌, ◌≢◌, ◌-◌, ◌<◌, ℕ, Some, length, slice_index}
use Rattle.std.proofs.lemmas.List.{get_or_default, length-map}
use Rattle.herd_frozen.specs.freezing.Frozen.{numbers_of}
use Rattle.herd_frozen.proofs.lemmas.rules.BookFacts.{same_bytes}
use Rattle.herd_frozen.proofs.lemmas.freezing.IndexFacts.{IsFollowed, apart, follow-next, follow-smaller}
use Rattle.herd_frozen.proofs.freezing.number_index.NumberIndex.rank.Given.{Over}
use Rattle.herd_frozen.proofs.freezing.number_index.NumberIndex.rank.Goals.{After-index-after-in-loop-after}
use Rattle.herd_frozen.proofs.freezing.number_index.NumberIndex.rank.Goals as goal

-- what is read next
read : (g : Over) (c : After-index-after-in-loop-after g) → slice_index c.args.self.now.earlier.items (c.loop-after.after - 1) ≡ c.index-after-in-loop-after.result.now
read g c =
    let earlier = c.args.self.now.earlier.items in
    let rank : ℕ = c.loop-after.after - 1 in
    let low = c.loop-after.invariant.within in
    let some = c.loop-after-test.true in
    let rows_long = length-map c.args.rows.now (λ r. r.number) in
    let long = c.requires.index.long in
    let in_earlier : rank < length earlier = omega (arith, low, some, rows_long, long) in
    get_or_default earlier rank 0 c.index-after-in-loop-after.result.now in_earlier ∙ sym c.index-after-in-loop-after.ensures

pub returns-then-eq-clause-found : goal.returns-then-eq-clause-found
returns-then-eq-clause-found g c = c.number.ensures ∙ ap Some (same_bytes _ _ (sym c.eq.ensures ∙ c.if-eq.true))

pub loop-after-smaller : goal.loop-after-smaller
loop-after-smaller g c =
    let rows = c.args.rows.now in
    let some = c.loop-after-test.true in
    let next = read g (goal.at.loop-after-smaller g c).After-index-after-in-loop-after in
    let le = follow-smaller (numbers_of rows) (length rows) (sym (length-map rows (λ r. r.number))) c.args.self.now.lasts.items c.args.self.now.earlier.items c.requires.index c.args.number.now (c.loop-after.after - 1) c.number.result.now c.number.ensures in
    omega (arith, next, le, some)

pub loop-after-preserved : goal.loop-after-preserved
loop-after-preserved g c =
    let rows = c.args.rows.now in
    let number = c.args.number.now in
    let some = c.loop-after-test.true in
    let other : c.number.result.now ≢ number = apart c.number.result.now number (sym c.eq.ensures ∙ c.if-eq.false) in
    subst (λ after. IsFollowed (numbers_of rows) number after) (read g (goal.at.loop-after-preserved g c).After-index-after-in-loop-after)
    (follow-next (numbers_of rows) (length rows) (sym (length-map rows (λ r. r.number))) c.args.self.now.lasts.items c.args.self.now.earlier.items c.requires.index number c.loop-after.after (c.loop-after.after - 1) c.number.result.now (omega (arith, some)) c.number.ensures other c.loop-after.invariant)
