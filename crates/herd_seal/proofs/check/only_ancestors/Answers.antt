use Rattle.std.proofs.Common.{ℕ, List, ◌<◌, Contains, inr, length, slice_index, subst, sym}
use Rattle.std.proofs.lemmas.Result.{IfErr-weaker}
use Rattle.herd_seal.proofs.FaultFacts.{stranger}
use Rattle.herd_seal.proofs.SoundFacts.{on_ok_then}
use Rattle.herd_seal.proofs.check.only_ancestors.Goals as goal

pub all_kept-requires : goal.all_kept-requires
all_kept-requires g c =
    subst (λ (l : List ℕ). (i j : ℕ) → i < j → j < length l → slice_index l i < slice_index l j) (sym c.ranks.ensures) c.in_ok-pruned.ensures.pruned.order

pub returns-clause-ancestors : goal.returns-clause-ancestors
returns-clause-ancestors g c =
    on_ok_then c.all_kept.result _ _
    (λ kept. λ row low. c.in_ok-pruned.ensures.kept.others row
    (subst (λ (l : List ℕ). Contains l row) c.ranks.ensures (kept row (subst (λ (n : ℕ). row < n) (sym c.len.ensures.value) low))))
    c.all_kept.ensures.kept

pub returns-clause-fault : goal.returns-clause-fault
returns-clause-fault g c =
    IfErr-weaker c.all_kept.result _ _
    (λ fault told. inr (
      told.0,
      told.1,
      stranger c.args.lineage.now c.args.rank told.0 c.len.result c.ranks.result.now _ c.ranks.ensures c.in_ok-pruned.ensures.kept c.len.ensures.value
          told.2 told.3 told.4,
    ))
    c.all_kept.ensures.fault
