-- `Rows::push`: what `push_known` requires, the invariant, and its result.
use Rattle.std.proofs.Common.{rules, sym, subst, ap, ◌≡◌, ◌∙◌, ◌+◌, [], ◌∷◌, ◌++◌, List}
use Rattle.std.proofs.lemmas.List.{length_push}
use Rattle.herd_lineage.specs.Lineage.{IsNextOf}
use Rattle.herd_lineage.specs.declared.lineage.Parents.{Parents}
use Rattle.herd_lineage.specs.declared.TheConstants.{DEPTH_LIMIT, MOST_ANIMALS}
use Rattle.herd_frozen.specs.freezing.Rows.{rows_kept}
use Rattle.herd_frozen.proofs.lemmas.freezing.RowsFacts.{lineage-told, rows-push}
use Rattle.herd_frozen.proofs.freezing.rows.Rows.push.Goals.{After-push_reserved}
use Rattle.herd_frozen.proofs.freezing.rows.Rows.push.Goals as goal

pub push_known-requires : goal.push_known-requires
push_known-requires g c =
    subst (λ (l : List Parents). IsNextOf DEPTH_LIMIT MOST_ANIMALS l c.args.parents) (sym (lineage-told c.self.inside.records.items c.self.inside.lineage c.self.invariant c.self.view_is)) c.requires

pub invariant_of-self-2 : goal.invariant_of-self-2
invariant_of-self-2 g c =
    let rs = c.self.inside.records.items in
    let ps = c.self.inside.lineage in
    let records : c.push_reserved.new.self.items ≡ rs ++ c.args.kept ∷ [] = search rules in
    record {
      long = rw (records, c.in_ok-push_known.ensures.ok) (length_push ps c.args.parents ∙ ap (λ n. n + 1) c.self.invariant.long ∙ sym (length_push rs c.args.kept));
      lineage = c.in_ok-push_known.ensures.lineage;
    }

pub returns-clause-ok : goal.returns-clause-ok
returns-clause-ok g c =
    let rs = c.self.inside.records.items in
    let ps = c.self.inside.lineage in
    let records : c.push_reserved.new.self.items ≡ rs ++ c.args.kept ∷ [] = search rules in
    let lineage : c.push_known.new.self ≡ ps ++ c.args.parents ∷ [] = c.in_ok-push_known.ensures.ok in
    let next = subst (λ (l : List Parents). IsNextOf DEPTH_LIMIT MOST_ANIMALS l c.args.parents) (sym (lineage-told rs ps c.self.invariant c.self.view_is)) c.requires in
    (λ i. rows_kept (records i) (lineage i)) ∙ rows-push rs ps c.self.invariant _ c.self.view_is c.args.kept c.args.parents next
