-- The number is read from its text, where there is one.
use Rattle.std.proofs.Common.{◌∙◌, arith}
use Rattle.clap.specs.Words.{found_of}
use Rattle.clap.proofs.WalkLemmas.{one_text-rows}
use Rattle.herd_command_line.proofs.WordsFacts.{IsNumberOr-beyond, IsNumberOr-given, IsNumberOr-none}
use Rattle.herd_command_line.proofs.arguments.option_or.Goals as goal

pub returns-in-Some-clause-given : goal.returns-in-Some-clause-given
returns-in-Some-clause-given c =
    let text = one_text-rows (found_of c.args.given.now) c.args.id.now in
    IsNumberOr-given c.args.least c.args.most c.args.other c.in-Some.number _ (λ none. c.in-Some.ensures.none (text ∙ none))
    (λ t some. c.in-Some.ensures.value t (text ∙ some)) (omega (arith, c.if-least-number.true)) (omega (arith, c.if-number-most.true))

pub returns-in_default-clause-given : goal.returns-in_default-clause-given
returns-in_default-clause-given c =
    let text = one_text-rows (found_of c.args.given.now) c.args.id.now in
    IsNumberOr-beyond c.args.least c.args.most c.args.other c.in-Some.number _ (λ t some. c.in-Some.ensures.value t (text ∙ some))
    (λ low high. absurd (omega (arith, high, c.if-number-most.false)))

pub returns-in_default-2-clause-given : goal.returns-in_default-2-clause-given
returns-in_default-2-clause-given c =
    let text = one_text-rows (found_of c.args.given.now) c.args.id.now in
    IsNumberOr-beyond c.args.least c.args.most c.args.other c.in-Some.number _ (λ t some. c.in-Some.ensures.value t (text ∙ some))
    (λ low high. absurd (omega (arith, low, c.if-least-number.false)))

pub returns-in_default-3-clause-given : goal.returns-in_default-3-clause-given
returns-in_default-3-clause-given c =
    let text = one_text-rows (found_of c.args.given.now) c.args.id.now in
    IsNumberOr-none c.args.least c.args.most c.args.other _ c.ranges.most.fits (λ t some. c.in_default.ensures.value t (text ∙ some))
