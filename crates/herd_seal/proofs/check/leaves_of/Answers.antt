use Rattle.std.proofs.Common.{◌∙◌, ap, Option, Some, sym}
use Rattle.std.proofs.lemmas.Option.{slice_get-map}
use Rattle.herd_lineage.proofs.lemmas.ListFacts.{slice_get-item}
use Rattle.std.specs.Option.{option_map}
use Rattle.merkle_tree.specs.Tree.{IsBytes}
use Rattle.herd_seal.specs.Certificate.{leaf_of, leaves_of, row_bytes}
use Rattle.herd_seal.specs.declared.certificate.CertifiedRow.{CertifiedRow}
use Rattle.herd_seal.proofs.RowFacts.{all_more, take_next}
use Rattle.herd_seal.proofs.check.leaves_of.Goals as goal

pub loop-row-preserved : goal.loop-row-preserved
loop-row-preserved g c =
    let rows = c.args.rows.now in
    let at = c.loop-row.row-index in
    let there = slice_get-item rows at c.row-item.result c.loop-row-test.true c.row-item.is in
    let leaf = slice_get-map leaf_of rows at ∙ ap (λ (o : Option CertifiedRow). option_map leaf_of o) there ∙ ap Some (sym c.in_ok-leaf.ensures.leaf) in (
      take_next (leaves_of rows) at c.in_ok-leaf.leaf c.loop-row.leaves.items c.push.new.self.items c.loop-row.invariant.0 leaf c.in_ok-push.ensures.items,
      all_more (λ (row : CertifiedRow). IsBytes (row_bytes row)) rows at c.row-item.result c.loop-row.invariant.1 there c.in_ok-leaf.ensures.bytes,
    )
