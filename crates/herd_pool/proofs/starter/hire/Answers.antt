-- `hire`: what was ready stays so, whether some scratch lay idle or none.
use Rattle.std.proofs.Common.{None, Some}
use Rattle.std.proofs.lemmas.List.Elements.{All-pop}
use Rattle.herd_pool.proofs.starter.hire.Goals as goal

pub returns-in-Some-clause-ready : goal.returns-in-Some-clause-ready
returns-in-Some-clause-ready g c =
    (All-pop (g.W.Work.is_ready c.args.work.now) c.args.idle.now.items c.pop.new.self.items (Some c.in-Some.scratch) c.in-Some.ensures.items c.requires).1

pub returns-in-Some-clause-idle : goal.returns-in-Some-clause-idle
returns-in-Some-clause-idle g c =
    (All-pop (g.W.Work.is_ready c.args.work.now) c.args.idle.now.items c.pop.new.self.items (Some c.in-Some.scratch) c.in-Some.ensures.items c.requires).0

pub returns-in-None-clause-idle : goal.returns-in-None-clause-idle
returns-in-None-clause-idle g c =
    (All-pop (g.W.Work.is_ready c.args.work.now) c.args.idle.now.items c.pop.new.self.items None c.in-None.ensures.items c.requires).0
