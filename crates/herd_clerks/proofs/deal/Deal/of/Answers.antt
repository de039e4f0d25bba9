-- A base that is longer than the list takes all of it.
use Rattle.std.proofs.Common.{◌∙◌, ap, drop, take}
use Rattle.std.proofs.lemmas.List.{drop_min, take_min}
use Rattle.herd_clerks.proofs.deal.Deal.of.Goals as goal

pub returns-clause-first : goal.returns-clause-first
returns-clause-first c =
    c.split_at.ensures.front ∙ ap (λ n. take n c.args.commands.now) c.min.ensures ∙ take_min c.args.plan.base c.args.commands.now

pub returns-clause-rest : goal.returns-clause-rest
returns-clause-rest c =
    c.split_at.ensures.back ∙ ap (λ n. drop n c.args.commands.now) c.min.ensures ∙ drop_min c.args.plan.base c.args.commands.now
