-- As many desks are opened as the commands are dealt to. They are numbered from 1 on, and all are handed in.
use Rattle.std.proofs.Common.{◌∙◌, ap, sym}
use Rattle.std.proofs.lemmas.Result.{IfOk-weaker}
use Rattle.std.specs.List.{range_with_len}
use Rattle.herd_clerks.proofs.Lists.{numbers-range}
use Rattle.herd_clerks.proofs.desks.filed_in.Goals as goal

pub all_filed-filed-requires-clause-desks : goal.all_filed-filed-requires-clause-desks
all_filed-filed-requires-clause-desks g c κs within = c.in_ok-office.ensures.desks ∙ c.requires.desks

pub closed_once_filed-requires-clause-numbers : goal.closed_once_filed-requires-clause-numbers
closed_once_filed-requires-clause-numbers g c =
    let opened = c.in_ok-office in
    IfOk-weaker c.all_filed-filed.result _ _
    (λ done numbers.
    numbers
    ∙ numbers-range (λ d. d.number) 1 opened.desks.items (λ place desk there. (opened.ensures.fresh place desk there).0)
    ∙ ap (range_with_len 1) (sym opened.desks.ok.0 ∙ opened.ensures.desks ∙ sym opened.ensures.desks_due))
    c.all_filed-filed.ensures.numbers

pub returns : goal.returns
returns g c = c.closed_once_filed.ensures c.args.deal (c.in_ok-office.ensures.desks_due ∙ c.requires.desks) c.all_filed-filed.ensures.filed
