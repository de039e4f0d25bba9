-- The number of animals where it isn't given is the text's.
use Rattle.std.proofs.Common.{refl}
use Rattle.std.specs.Fmt.{digits}
use Rattle.herd_command_line.specs.declared.limits.TheConstants.{DEFAULT_ANIMALS}
use Rattle.herd_command_line.specs.CommandLine.{animals_rule}
use Rattle.herd_command_line.proofs.CommandFacts.{helped}
use Rattle.herd_command_line.proofs.command_line.animals_option.Goals as goal

pub returns : goal.returns
unfolding digits
returns c = helped _ c.help.result animals_rule _ (c.number_option.ensures DEFAULT_ANIMALS refl) c.help.ensures
