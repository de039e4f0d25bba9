-- Where there are desks, they are what was filed.
use Rattle.herd_clerks.proofs.desks.closed_once_filed.Goals as goal

pub closed-requires-clause-numbers : goal.closed-requires-clause-numbers
closed-requires-clause-numbers g c = rw c.in_ok-desks.was at c.requires.numbers

pub returns : goal.returns
returns g c = λ deal dealt filed. c.closed.ensures.ok deal dealt (rw c.in_ok-desks.was at filed)
