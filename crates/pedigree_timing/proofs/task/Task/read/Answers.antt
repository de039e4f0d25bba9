-- What is missing or another word than wanted is in no task.
use Rattle.std.proofs.Common.{◌≡◌, Some, arith, slice_get, map, string_bytes}
use Rattle.std.proofs.lemmas.Grind.{common_steps}
use Rattle.pedigree_timing.proofs.TaskFacts.{IfErr-all, no_animals, no_times, no_task}
use Rattle.pedigree_timing.proofs.task.Task.read.Goals as goal

pub returns-in_err-animals-clause-nothing : goal.returns-in_err-animals-clause-nothing
returns-in_err-animals-clause-nothing c = IfErr-all _ _ (no_animals _ c.in_err-animals.ensures.none)

pub returns-in_err-number-in-corrections-clause-nothing :
    goal.returns-in_err-number-in-corrections-clause-nothing
returns-in_err-number-in-corrections-clause-nothing c =
    let word : slice_get (map string_bytes c.args.words.now) 1 ≡ Some c.as_str.result.now = grind (arith, common_steps) in
    IfErr-all _ _ (no_times _ (rw c.in-corrections.is at word) c.in_err-number-in-corrections.ensures.none)

pub returns-in_default-clause-nothing : goal.returns-in_default-clause-nothing
returns-in_default-clause-nothing c =
    let word : slice_get (map string_bytes c.args.words.now) 1 ≡ Some c.as_str.result.now = grind (arith, common_steps) in
    no_task _ _ word c.in_default.not-births c.in_default.not-corrections c.in_default.not-freeze
