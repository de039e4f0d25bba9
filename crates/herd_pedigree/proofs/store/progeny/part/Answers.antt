-- `part`: what `set_first`, `set_next` and `set_previous` require and its result.
use Rattle.std.proofs.Common.{arith, ap, sym, ◌∙◌, List, None}
use Rattle.herd_pedigree.specs.declared.store.progeny.ChainNode.{ChainNode}
use Rattle.herd_pedigree.proofs.lemmas.store.ProgenyFacts.{next-within, parents-set, previous-within}
use Rattle.herd_pedigree.proofs.lemmas.store.PartFacts.{chained-part, led-within, parted}
use Rattle.herd_pedigree.proofs.store.progeny.part.Goals as goal

pub set_first-requires : goal.set_first-requires
set_first-requires c =
    let old : List ChainNode = c.args.nodes.now in
    let is = c.node_at-node.ensures in
    led-within old c.requires.chained c.args.calf c.led_by.result
    (λ none. c.led_by.ensures.first (ap (λ (f : ChainNode). f.previous) is ∙ none) ∙ ap (λ (f : ChainNode). f.parent) is)
    (λ q e. c.led_by.ensures.later q (ap (λ (f : ChainNode). f.previous) is ∙ e))

pub set_next-requires : goal.set_next-requires
set_next-requires c =
    λ p e.
    let w = previous-within c.args.nodes.now c.requires.chained c.args.calf p (sym (ap (λ (f : ChainNode). f.previous) c.node_at-node.ensures) ∙ e) in
    let n = c.set_first.ensures.long in
    omega (arith, w, n)

pub set_previous-requires : goal.set_previous-requires
set_previous-requires c =
    λ p e.
    let w = next-within c.args.nodes.now c.requires.chained c.args.calf p (sym (ap (λ (f : ChainNode). f.next) c.node_at-node.ensures) ∙ e) in
    let n = c.set_first.ensures.long in
    let m = c.set_next.ensures.long in
    omega (arith, w, n, m)

pub returns : goal.returns
returns c =
    let old : List ChainNode = c.args.nodes.now in
    let is = c.node_at-node.ensures in
    let s = parted old c.set_first.new.nodes c.set_next.new.nodes c.set_previous.new.nodes c.set_next-2.new.nodes c.set_previous-2.new.nodes c.set_parent.new.nodes c.args.calf
    c.at-own.result c.none-none.result c.led_by.result c.node_at-node.result.next c.node_at-node.result.previous
    c.at-own.ensures c.none-none.ensures (ap (λ (f : ChainNode). f.next) is) (ap (λ (f : ChainNode). f.previous) is)
    c.set_first.ensures c.set_next.ensures c.set_previous.ensures c.set_next-2.ensures c.set_previous-2.ensures c.set_parent.ensures in
    record {
      chained = chained-part old c.set_parent.new.nodes c.requires.chained c.args.calf c.led_by.result
          (λ none. c.led_by.ensures.first (ap (λ (f : ChainNode). f.previous) is ∙ none) ∙ ap (λ (f : ChainNode). f.parent) is)
          (λ q e. c.led_by.ensures.later q (ap (λ (f : ChainNode). f.previous) is ∙ e)) s;
      parents = parents-set old c.set_parent.new.nodes c.args.calf None c.requires.here s.long s.parents;
    }
