-- `compute_blocks`: its clause `blocks`.
use Rattle.std.proofs.Common.{ap, ◌∙◌}
use Rattle.herd_pool.specs.Blocks.{once_below}
use Rattle.herd_pool.specs.declared.queue.PassView.{PassView}
use Rattle.herd_pool.proofs.crew.compute_blocks.Goals as goal

pub returns-clause-blocks : goal.returns-clause-blocks
returns-clause-blocks g c =
    let begun = c.in_ok-starter.ensures.starter.starter.view in
    let pushed = ap (λ (v : PassView). v.pushed) begun ∙ ap (λ (v : PassView). v.pushed) c.in_ok-queue.ensures.view in
    record {
      each_once = λ number. c.in_ok-take_blocks.ensures.each_once (ap (λ (v : PassView). v.out) begun) number ∙ ap (once_below number) pushed;
      computed = c.in_ok-take_blocks.ensures.starter.computed;
    }
