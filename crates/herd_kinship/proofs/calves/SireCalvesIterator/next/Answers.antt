-- `SireCalves::next`: its clauses `steps` and `goes`.
use Rattle.std.proofs.Common.{◌∷◌, ◌∙◌, length, None, ap, sym, rules}
use Rattle.std.proofs.lemmas.List.{get_or_read}
use Rattle.herd_kinship.specs.CalfLinks.{chain}
use Rattle.herd_kinship.proofs.lemmas.sires.CalvesBelow.{chain-next}
use Rattle.herd_kinship.proofs.calves.SireCalvesIterator.next.Goals as goal

pub returns-clause-steps : goal.returns-clause-steps
returns-clause-steps c =
    let earlier = c.self.inside.earlier.now in
    let calf = c.in_ok-calf.calf in
    let within = c.self.invariant.1 calf c.in_ok-calf.was in
    sym c.self.view_is
    ∙ ap (chain earlier (length earlier)) c.in_ok-calf.was
    ∙ chain-next earlier c.self.invariant.0 (length earlier) calf within
    ∙ ap (λ link. calf ∷ chain earlier (length earlier) link)
    (sym (c.get-self-inside.ensures ∙ sym c.index-self-calf.is ∙ get_or_read earlier calf c.index-self-calf.result within c.index-self-calf.is None))

pub returns-clause-goes : goal.returns-clause-goes
returns-clause-goes c = let steps = returns-clause-steps c in search rules
