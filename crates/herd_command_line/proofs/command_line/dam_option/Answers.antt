-- Each setting is a field of the rule.
use Rattle.std.proofs.Common.{◌∙◌, Bool, ap, Some, codes, true}
use Rattle.clap.specs.Words.{Rule}
use Rattle.clap.specs.declared.builder.arg.Arg.{Arg}
use Rattle.herd_command_line.proofs.command_line.dam_option.Goals as goal

pub returns : goal.returns
returns c =
    let global : Arg → Bool = λ argument. argument.global in
    record {
      rule_is =
          rw (c.help.ensures, c.required.ensures, c.value_name.ensures, c.long.ensures)
          (ap (λ (r : Rule). record r { long = Some (codes "dam"); value_names = 1; required = true }) c.new.ensures.rule);
      local =
          ap global c.help.ensures ∙ ap global c.required.ensures ∙ ap global c.value_name.ensures ∙ ap global c.long.ensures ∙ c.new.ensures.optional.1;
    }
