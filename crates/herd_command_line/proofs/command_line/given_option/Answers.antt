-- Each setting is a field of the rule.
use Rattle.std.proofs.Common.{◌≡◌, Bool, ap, Some, pos, arith, ◌∙◌}
use Rattle.std.specs.Int.{w64}
use Rattle.std.proofs.lemmas.Int.{to_z_pos}
use Rattle.clap.specs.Words.{Rule}
use Rattle.clap.specs.declared.builder.arg.Arg.{Arg}
use Rattle.clap.specs.declared.builder.value_parser.ValueParser.TheVariants.{Signed}
use Rattle.herd_command_line.proofs.CommandFacts.{narrowed}
use Rattle.herd_command_line.proofs.command_line.given_option.Goals as goal

pub returns : goal.returns
returns c =
    let least = to_z_pos w64 c.args.least (omega (arith, c.ranges.least.fits)) in
    let most = to_z_pos w64 c.args.most (omega (arith, c.ranges.most.fits)) in
    let made = narrowed c.args.least c.args.most c.range.result c.ranges.least.fits c.ranges.most.fits (rw (c.value_parser.ensures, c.new-2.ensures.start, c.new-2.ensures.end, least, most) at c.range.ensures) in
    let parser : c.value_parser-2.result.value_parser ≡ Some (Signed (pos c.args.least) (pos c.args.most)) = c.value_parser-2.ensures.given.1 ∙ ap Some (c.value_parser-2.ensures.given.2 ∙ made) in
    let global : Arg → Bool = λ argument. argument.global in
    record {
      rule_is =
          rw (c.value_parser-2.ensures.others, parser, c.value_name.ensures, c.long.ensures)
          (ap (λ (r : Rule). record r { long = Some c.args.name.now; value_names = 1; parser = Some (Signed (pos c.args.least) (pos c.args.most)) }) c.new.ensures.rule);
      local = ap global c.value_parser-2.ensures.others ∙ ap global c.value_name.ensures ∙ ap global c.long.ensures ∙ c.new.ensures.optional.1;
    }
