-- Each argument is added with its rule.
use Rattle.std.proofs.Common.{codes, refl}
use Rattle.std.specs.Fmt.{digits}
use Rattle.clap.specs.Words.{new_app, with_rule}
use Rattle.herd_pool.specs.declared.limits.TheConstants.{DEFAULT_BLOCK}
use Rattle.herd_command_line.specs.CommandLine.{block_rule, inbreeding_line, workers_rule}
use Rattle.herd_command_line.proofs.CommandFacts.{helped}
use Rattle.herd_command_line.proofs.command_line.inbreeding.Goals as goal

pub returns : goal.returns
unfolding digits inbreeding_line
returns c =
    let bare = new_app (codes "inbreeding") in
    let workers = helped _ c.help-workers.result workers_rule _ (c.number_option.ensures 1 refl) c.help-workers.ensures in
    let block = helped _ c.help-block.result block_rule _ (c.number_option-2.ensures DEFAULT_BLOCK refl) c.help-block.ensures in
    c.with_limits.ensures (with_rule (with_rule bare workers_rule) block_rule)
    (c.with_argument-2.ensures (with_rule bare workers_rule) block_rule (c.with_argument.ensures bare workers_rule c.named-bare.ensures workers) block)
