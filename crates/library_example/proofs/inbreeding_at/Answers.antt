-- `inbreeding_at`: its clauses `number` and `value`.
use Rattle.std.specs.Prelude.{false}
use Rattle.std.proofs.Common.{◌∙◌, ◌*◌, ◌^◌, [], ap, sym}
use Rattle.std.proofs.lemmas.Option.{get_or_from_slice_get}
use Rattle.herd_frozen.specs.declared.TheConstants.{DEPTH_LIMIT}
use Rattle.herd_frozen.specs.freezing.Frozen.{numbers_of}
use Rattle.herd_kinship.specs.Fraction.{halved}
use Rattle.herd_advice.specs.FrozenAncestry.{ancestry_of}
use Rattle.herd_kinship.specs.Table.{coefficient}
use Rattle.library_example.proofs.inbreeding_at.Goals as goal

pub returns-clause-number : goal.returns-clause-number
returns-clause-number c = sym (get_or_from_slice_get (numbers_of c.args.frozen.now) c.args.rank c.number.result [] c.number.ensures.number)

pub returns-clause-value : goal.returns-clause-value
returns-clause-value c =
    let rows = c.args.frozen.now in
    let of_number = ap (coefficient (ancestry_of rows) DEPTH_LIMIT) (get_or_from_slice_get (numbers_of rows) c.args.rank c.number.result [] c.number.ensures.number) in
    let numerator = c.numerator.ensures.value ∙ c.requires.coefficients.right c.args.rank c.requires.rank ∙ of_number in
    c.fraction.ensures.value ∙ ap (λ n. halved false n (2 ^ (2 * DEPTH_LIMIT))) numerator
