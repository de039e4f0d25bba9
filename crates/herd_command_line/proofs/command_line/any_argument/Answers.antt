-- Each setting is a field of the rule.
use Rattle.std.proofs.Common.{◌≡◌, ◌∙◌, Bool, ap, Some}
use Rattle.clap.specs.Lexer.{usize_max}
use Rattle.clap.specs.Words.{Rule}
use Rattle.clap.specs.declared.builder.action.ArgAction.TheVariants.{Append}
use Rattle.clap.specs.declared.builder.arg.Arg.{Arg}
use Rattle.herd_command_line.proofs.WordsFacts.{IsSomeAnd-is}
use Rattle.herd_command_line.proofs.command_line.any_argument.Goals as goal

pub returns : goal.returns
returns c =
    let global : Arg → Bool = λ argument. argument.global in
    let range : c.num_args.result.num_vals ≡ Some (record { start_inclusive = 1; end_inclusive = usize_max }) = IsSomeAnd-is _ _ c.num_args.ensures.1 in
    record {
      rule_is =
          rw (c.help.ensures, c.num_args.ensures.0, range, c.action.ensures)
          (ap (λ (r : Rule). record r { action = Some Append; range = Some (record { start_inclusive = 1; end_inclusive = usize_max }) }) c.new.ensures.rule);
      local = ap global c.help.ensures ∙ ap global c.num_args.ensures.0 ∙ ap global c.action.ensures ∙ c.new.ensures.optional.1;
    }
