-- Each setting is a field of the rule.
use Rattle.std.proofs.Common.{◌∙◌, Bool, ap, codes, Some}
use Rattle.clap.specs.Words.{Rule}
use Rattle.clap.specs.declared.builder.action.ArgAction.TheVariants.{SetTrue}
use Rattle.clap.specs.declared.builder.arg.Arg.{Arg}
use Rattle.herd_command_line.proofs.command_line.units_option.Goals as goal

pub returns : goal.returns
returns c =
    let global : Arg → Bool = λ argument. argument.global in
    record {
      rule_is =
          rw (c.help.ensures, c.action.ensures, c.long.ensures)
          (ap (λ (r : Rule). record r { long = Some (codes "units"); action = Some SetTrue }) c.new.ensures.rule);
      local = ap global c.help.ensures ∙ ap global c.action.ensures ∙ ap global c.long.ensures ∙ c.new.ensures.optional.1;
    }
