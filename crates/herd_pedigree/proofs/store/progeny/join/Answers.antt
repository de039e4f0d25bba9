-- `join`: what `set_previous` requires and its result.
use Rattle.std.proofs.Common.{arith, ap, sym, ◌∙◌, List}
use Rattle.herd_pedigree.specs.declared.store.progeny.ChainNode.{ChainNode}
use Rattle.herd_pedigree.proofs.lemmas.store.JoinFacts.{chained-join, joined}
use Rattle.herd_pedigree.proofs.lemmas.store.ProgenyFacts.{animal-within, parents-set}
use Rattle.herd_pedigree.proofs.store.progeny.join.Goals as goal

pub set_previous-requires : goal.set_previous-requires
set_previous-requires c =
    λ p e.
    let w = animal-within c.args.nodes.now p c.args.parent (c.requires.chained.first c.args.parent p (sym (ap (λ (f : ChainNode). f.first) c.node_at-first.ensures) ∙ e)).0 in
    let n = c.set_first.ensures.long in
    omega (arith, w, n)

pub returns : goal.returns
returns c =
    let old : List ChainNode = c.args.nodes.now in
    let s = joined old c.set_first.new.nodes c.set_previous.new.nodes c.set_next.new.nodes c.set_parent.new.nodes c.args.calf c.args.parent c.at-own.result c.at-shared.result c.node_at-first.result.first
    c.at-own.ensures c.at-shared.ensures (ap (λ (f : ChainNode). f.first) c.node_at-first.ensures) c.set_first.ensures c.set_previous.ensures c.set_next.ensures c.set_parent.ensures in
    record {
      chained = chained-join old c.set_parent.new.nodes c.requires.chained c.args.calf c.args.parent c.requires.within c.requires.none s;
      parents = parents-set old c.set_parent.new.nodes c.args.calf _ c.requires.here s.long s.parents;
    }
