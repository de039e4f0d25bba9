use Rattle.std.proofs.Common.{List, inl, inr, length, sym, subst, ⊎_elim}
use Rattle.herd_text.proofs.lemmas.Exits.{if_err}
use Rattle.herd_lineage.specs.declared.lineage.Parents.{Parents}
use Rattle.herd_seal.specs.Certificate.{AreLinked}
use Rattle.herd_seal.proofs.check.lineage_of.Goals as goal

pub returns-clause-linked : goal.returns-clause-linked
returns-clause-linked g c = subst (λ (l : List Parents). AreLinked c.args.rows.now l) (sym c.build.ensures) c.loop-at.invariant.1

pub returns-in_err-push_row-clause-fault : goal.returns-in_err-push_row-clause-fault
returns-in_err-push_row-clause-fault g c =
    if_err c.from_residual-in_err-push_row.result _ _ c.from_residual-in_err-push_row.ensures.1
    (⊎_elim (λ memory. inl memory) (λ has. inr (has.0, length c.loop-at.builder, has.1, has.2)) c.in_err-push_row.ensures.fault)
