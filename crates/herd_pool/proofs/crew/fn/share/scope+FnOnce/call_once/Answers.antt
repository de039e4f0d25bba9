-- `call_once`: what `scope` requires is what this was given: what the bounds of its types say, and then its clauses.
use Rattle.herd_pool.proofs.crew.fn.share.scope+FnOnce.call_once.Goals as goal

pub scope-requires : goal.scope-requires
scope-requires g c =
    let clauses = c.requires.1.1.1.1.1 in
    let bounds = clauses.1 in
    (bounds.0, (bounds.1, (bounds.2, (bounds.3, (bounds.4, (bounds.5, (bounds.6, clauses.0)))))))
