-- The first text that is none ends the loop.
use Rattle.std.proofs.Common.{◌≡◌, ◌<◌, ℕ, Bor, List, Some, refl, arith, get_or, map, slice_get}
use Rattle.std.proofs.lemmas.List.{length-map}
use Rattle.std.proofs.lemmas.Option.{slice_get-get_or}
use Rattle.std.proofs.lemmas.Grind.{common_steps}
use Rattle.herd_command_line.proofs.WordsFacts.{IsUnread-number, right_more, text_at}
use Rattle.herd_command_line.proofs.arguments.add_texts.Goals as goal

pub loop-text-preserved : goal.loop-text-preserved
loop-text-preserved c =
    let there : slice_get (map (λ text. text.now) c.args.texts.now) c.loop-text.text-index ≡ Some c.as_bytes.result.now = text_at _ _ _ _ c.loop-text-test.true c.as_bytes.ensures.value in (
      grind (arith, common_steps),
      right_more _ _ _ there (c.in_ok-number.ensures.accepted.0 refl) c.loop-text.invariant.1,
    )

pub returns-in_err-number-clause-unread : goal.returns-in_err-number-clause-unread
returns-in_err-number-clause-unread c =
    let there : slice_get (map (λ text. text.now) c.args.texts.now) c.loop-text.text-index ≡ Some c.as_bytes.result.now = text_at _ _ _ _ c.loop-text-test.true c.as_bytes.ensures.value in
    IsUnread-number _ _ _ c.from_residual.ensures.1 (record {
      place = c.loop-text.text-index;
      text = c.as_bytes.result.now;
      there = there;
      wrong = c.in_err-number.ensures.fault;
      before = c.loop-text.invariant.1;
    })

pub returns-clause-right : goal.returns-clause-right
returns-clause-right c = λ k other within.
    let texts = map (λ (text : Bor (List ℕ)). text.now) c.args.texts.now in
    let all : k < c.loop-text.text-index = omega (arith, length-map c.args.texts.now (λ (text : Bor (List ℕ)). text.now)) in
    c.loop-text.invariant.1 k (get_or texts k other) all (slice_get-get_or texts k other within)
