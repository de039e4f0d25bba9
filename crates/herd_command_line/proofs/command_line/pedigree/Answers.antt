-- Each argument is added with its rule.
use Rattle.std.proofs.Common.{codes}
use Rattle.clap.specs.Words.{App, new_app, with_rule}
use Rattle.herd_frozen.specs.declared.TheConstants.{MOST_ANIMALS}
use Rattle.herd_pool.specs.declared.limits.TheConstants.{MOST_WORKERS}
use Rattle.herd_command_line.specs.CommandLine.{animals_rule, any_rule, given_option, partners_rule, pedigree_line, report_rule, units_rule}
use Rattle.herd_command_line.proofs.CommandFacts.{helped}
use Rattle.herd_command_line.proofs.command_line.pedigree.Goals as goal

abbrev of_report : App
of_report = with_rule (new_app (codes "pedigree")) report_rule

abbrev of_animals : App
of_animals = with_rule of_report (any_rule (codes "ANIMAL"))

abbrev of_pairs : App
of_pairs = with_rule of_animals partners_rule

abbrev of_workers : App
of_workers = with_rule of_pairs (given_option (codes "workers") 1 MOST_WORKERS)

abbrev of_blocks : App
of_blocks = with_rule of_workers (given_option (codes "block") 1 MOST_ANIMALS)

abbrev of_units : App
of_units = with_rule of_blocks units_rule

pub returns : goal.returns
unfolding pedigree_line
returns c =
    let workers = helped _ c.help-workers.result (given_option (codes "workers") 1 MOST_WORKERS) _ c.given_option.ensures c.help-workers.ensures in
    let block = helped _ c.help-block.result (given_option (codes "block") 1 MOST_ANIMALS) _ c.given_option-2.ensures c.help-block.ensures in
    let report = c.with_argument.ensures (new_app (codes "pedigree")) report_rule c.named-bare.ensures c.report_argument.ensures in
    let animals = c.with_argument-given.ensures of_report (any_rule (codes "ANIMAL")) report c.any_argument-animals.ensures in
    let pairs = c.with_argument-pairs.ensures of_animals partners_rule animals c.with_option.ensures in
    let one = c.with_argument-2.ensures of_pairs (given_option (codes "workers") 1 MOST_WORKERS) pairs workers in
    let plan = c.with_argument-plan.ensures of_workers (given_option (codes "block") 1 MOST_ANIMALS) one block in
    let units = c.with_argument-3.ensures of_blocks units_rule plan c.units_option.ensures in
    c.with_argument-4.ensures of_units animals_rule units c.animals_option.ensures
