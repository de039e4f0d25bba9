use Rattle.std.proofs.Common.{◌≡◌, ◌≢◌, ◌∙◌, ℕ, ◌<◌, List, Option, ap, inr, rules, subst, sym}
use Rattle.std.proofs.lemmas.Result.{IfErr-weaker}
use Rattle.std.specs.List.{All}
use Rattle.std.specs.Option.{option_map}
use Rattle.merkle_tree.specs.Shown.{found_in}
use Rattle.merkle_tree.specs.Tree.{IsDigest}
use Rattle.merkle_tree.specs.declared.shown.Part.{Part}
use Rattle.herd_text.proofs.lemmas.Exits.{if_err}
use Rattle.herd_seal.specs.Certificate.{IsSealed}
use Rattle.herd_seal.specs.Reading.{parts_of}
use Rattle.herd_seal.specs.Seal.{seal_over}
use Rattle.herd_seal.specs.declared.certificate.CertifiedRow.{CertifiedRow}
use Rattle.herd_seal.proofs.PartsFacts.{found_same, of_coefficient, of_few_digests, of_many, of_many_digests, of_number, of_order, of_others, of_parents, of_seal, with_rows, wrong_seal}
use Rattle.herd_seal.proofs.SoundFacts.{checked, on_ok_then}
use Rattle.herd_seal.proofs.check.check_rows.Goals as goal

pub returns-clause-sound : goal.returns-clause-sound
returns-clause-sound g c =
    let seal = c.args.seal.now in
    let certificate = c.args.certificate.now in
    let rows = c.as_slice-rows.result.now in
    let digests = c.as_slice-2.result.now in
    on_ok_then c.check_coefficient.result _ _
    (λ told_is.
    subst (λ (l : List (List ℕ)). IsSealed seal certificate.claim certificate.rows.items certificate.coefficient.now l) c.as_slice-2.ensures.value
    (subst (λ (l : List CertifiedRow). IsSealed seal certificate.claim l certificate.coefficient.now digests) c.as_slice-rows.ensures.value
    (checked seal certificate.coefficient.now digests certificate.claim rows c.in_ok-lineage.lineage c.in_ok-rank.rank
    c.from-animals.result c.from-animals.result c.as_slice.result.now c.in-Some.part
    c.from-animals.ensures c.from-animals.ensures (c.as_slice.ensures.value ∙ c.in_ok-leaves.ensures.leaves) c.in-Some.ensures.exact c.in-Some.ensures.sound
    (subst (λ (l : List (List ℕ)). All IsDigest l) (sym c.as_slice-2.ensures.value) c.requires)
    c.in_ok-leaves.ensures.bytes c.in_ok-check_seal.ensures.some c.check_seal.ensures.animals c.check_seal.ensures.steps c.in_ok-check_seal.ensures.seal c.in_ok-check_seal.ensures.root
    c.in_ok-ascend.ensures.ascend c.in_ok-lineage.ensures.each c.in_ok-lineage.ensures.lineage c.in_ok-lineage.ensures.linked c.in_ok-rank.ensures.animal
    c.in_ok-only_ancestors.ensures.ancestors c.in_ok-none_left.ensures.none told_is)))
    c.check_coefficient.ensures.told

pub returns-in_err-not_too_many-clause-fault : goal.returns-in_err-not_too_many-clause-fault
returns-in_err-not_too_many-clause-fault g c =
    let seal = c.args.seal.now in
    let told = parts_of c.args.certificate.now in
    let rows = c.as_slice-rows.result.now in
    let parts = record told { rows = rows } in
    if_err c.from_residual.result _ _ c.from_residual.ensures.1
    (with_rows seal told rows _ c.as_slice-rows.ensures.value
    (of_many seal parts _ c.in_err-not_too_many.ensures.fault))

pub returns-in_err-ascend-clause-fault : goal.returns-in_err-ascend-clause-fault
returns-in_err-ascend-clause-fault g c =
    let seal = c.args.seal.now in
    let told = parts_of c.args.certificate.now in
    let rows = c.as_slice-rows.result.now in
    let parts = record told { rows = rows } in
    if_err c.from_residual-in_err-ascend.result _ _ c.from_residual-in_err-ascend.ensures.1
    (with_rows seal told rows _ c.as_slice-rows.ensures.value
    (of_order seal parts _ c.in_err-ascend.ensures.fault))

pub returns-in_err-lineage-clause-fault : goal.returns-in_err-lineage-clause-fault
returns-in_err-lineage-clause-fault g c =
    let seal = c.args.seal.now in
    let told = parts_of c.args.certificate.now in
    let rows = c.as_slice-rows.result.now in
    let parts = record told { rows = rows } in
    if_err c.from_residual-in_err-lineage.result _ _ c.from_residual-in_err-lineage.ensures.1
    (with_rows seal told rows _ c.as_slice-rows.ensures.value
    (of_parents seal parts _ c.in_err-lineage.ensures.fault))

pub returns-in_err-rank-clause-fault : goal.returns-in_err-rank-clause-fault
returns-in_err-rank-clause-fault g c =
    let seal = c.args.seal.now in
    let told = parts_of c.args.certificate.now in
    let rows = c.as_slice-rows.result.now in
    let parts = record told { rows = rows } in
    if_err c.from_residual-in_err-rank.result _ _ c.from_residual-in_err-rank.ensures.1
    (with_rows seal told rows _ c.as_slice-rows.ensures.value
    (of_number seal parts _ c.in_ok-ascend.ensures.ascend c.in_ok-lineage.lineage c.in_ok-lineage.ensures.each c.in_ok-lineage.ensures.lineage c.in_ok-lineage.ensures.linked
    c.in_err-rank.ensures.fault))

pub returns-in_err-only_ancestors-clause-fault : goal.returns-in_err-only_ancestors-clause-fault
returns-in_err-only_ancestors-clause-fault g c =
    let seal = c.args.seal.now in
    let told = parts_of c.args.certificate.now in
    let rows = c.as_slice-rows.result.now in
    let parts = record told { rows = rows } in
    if_err c.from_residual-in_err-only_ancestors.result _ _ c.from_residual-in_err-only_ancestors.ensures.1
    (with_rows seal told rows _ c.as_slice-rows.ensures.value
    (of_others seal parts _ c.in_ok-ascend.ensures.ascend c.in_ok-lineage.lineage c.in_ok-lineage.ensures.each c.in_ok-lineage.ensures.lineage c.in_ok-lineage.ensures.linked
    c.in_ok-rank.rank c.in_ok-rank.ensures.animal c.in_err-only_ancestors.ensures.fault))

pub returns-in_err-none_left-clause-fault : goal.returns-in_err-none_left-clause-fault
returns-in_err-none_left-clause-fault g c =
    let seal = c.args.seal.now in
    let told = parts_of c.args.certificate.now in
    let rows = c.as_slice-rows.result.now in
    let parts = record told { rows = rows } in
    if_err c.from_residual-in_err-none_left.result _ _ c.from_residual-in_err-none_left.ensures.1
    (with_rows seal told rows _ c.as_slice-rows.ensures.value
    (of_many_digests seal parts _ c.in_ok-ascend.ensures.ascend c.in_ok-lineage.lineage c.in_ok-lineage.ensures.each c.in_ok-lineage.ensures.lineage c.in_ok-lineage.ensures.linked
    c.in_ok-rank.rank c.in_ok-rank.ensures.animal c.in_ok-only_ancestors.ensures.ancestors
    (found_in c.in-Some.part) (sym (c.in-Some.ensures.exact ∙ found_same _ _ _ rows _ _ c.from-animals.ensures (c.as_slice.ensures.value ∙ c.in_ok-leaves.ensures.leaves) c.as_slice-2.ensures.value)) c.in_err-none_left.ensures.fault))

pub returns-in_err-check_seal-clause-fault : goal.returns-in_err-check_seal-clause-fault
returns-in_err-check_seal-clause-fault g c =
    let seal = c.args.seal.now in
    let told = parts_of c.args.certificate.now in
    let rows = c.as_slice-rows.result.now in
    let parts = record told { rows = rows } in
    if_err c.from_residual-in_err-check_seal.result _ _ c.from_residual-in_err-check_seal.ensures.1
    (with_rows seal told rows _ c.as_slice-rows.ensures.value
    (of_seal seal parts _ c.in_ok-ascend.ensures.ascend c.in_ok-lineage.lineage c.in_ok-lineage.ensures.each c.in_ok-lineage.ensures.lineage c.in_ok-lineage.ensures.linked
    c.in_ok-rank.rank c.in_ok-rank.ensures.animal c.in_ok-only_ancestors.ensures.ancestors
    (found_in c.in-Some.part) (sym (c.in-Some.ensures.exact ∙ found_same _ _ _ rows _ _ c.from-animals.ensures (c.as_slice.ensures.value ∙ c.in_ok-leaves.ensures.leaves) c.as_slice-2.ensures.value)) c.in_ok-none_left.ensures.none c.in_err-check_seal.ensures.fault.0
    (wrong_seal _ _ _ _ seal told.seal c.from-animals.ensures c.in_err-check_seal.ensures.fault.1)))

pub returns-in_default-clause-fault : goal.returns-in_default-clause-fault
returns-in_default-clause-fault g c =
    let seal = c.args.seal.now in
    let told = parts_of c.args.certificate.now in
    let rows = c.as_slice-rows.result.now in
    let parts = record told { rows = rows } in
    with_rows seal told rows _ c.as_slice-rows.ensures.value
    (of_few_digests seal parts _ c.in_ok-ascend.ensures.ascend c.in_ok-lineage.lineage c.in_ok-lineage.ensures.each c.in_ok-lineage.ensures.lineage c.in_ok-lineage.ensures.linked
    c.in_ok-rank.rank c.in_ok-rank.ensures.animal c.in_ok-only_ancestors.ensures.ancestors (sym (sym (ap (λ (o : Option Part). option_map found_in o) c.in_default.is) ∙ c.root_from.ensures.exact ∙ found_same _ _ _ rows _ _ c.from-animals.ensures (c.as_slice.ensures.value ∙ c.in_ok-leaves.ensures.leaves) c.as_slice-2.ensures.value)) c.at.ensures)

pub returns-then-not-is_same-clause-fault : goal.returns-then-not-is_same-clause-fault
returns-then-not-is_same-clause-fault g c =
    let seal = c.args.seal.now in
    let told = parts_of c.args.certificate.now in
    let rows = c.as_slice-rows.result.now in
    let parts = record told { rows = rows } in
    let different : told.seal ≢ seal = search rules in
    with_rows seal told rows _ c.as_slice-rows.ensures.value
    (of_seal seal parts _ c.in_ok-ascend.ensures.ascend c.in_ok-lineage.lineage c.in_ok-lineage.ensures.each c.in_ok-lineage.ensures.lineage c.in_ok-lineage.ensures.linked
    c.in_ok-rank.rank c.in_ok-rank.ensures.animal c.in_ok-only_ancestors.ensures.ancestors
    (found_in c.in-Some.part) (sym (c.in-Some.ensures.exact ∙ found_same _ _ _ rows _ _ c.from-animals.ensures (c.as_slice.ensures.value ∙ c.in_ok-leaves.ensures.leaves) c.as_slice-2.ensures.value)) c.in_ok-none_left.ensures.none c.at-then-not-is_same.ensures (inr (inr different)))

pub returns-clause-fault : goal.returns-clause-fault
returns-clause-fault g c =
    let seal = c.args.seal.now in
    let told = parts_of c.args.certificate.now in
    let rows = c.as_slice-rows.result.now in
    let parts = record told { rows = rows } in
    let same : told.seal ≡ seal = search rules in
    let some = subst (λ (k : ℕ). 0 < k) c.from-animals.ensures c.in_ok-check_seal.ensures.some in
    let sealed = subst (λ (k : ℕ). seal_over k told.claim.steps c.in-Some.part.root ≡ seal) c.from-animals.ensures c.in_ok-check_seal.ensures.seal in
    IfErr-weaker c.check_coefficient.result _ _
    (λ fault wrong. with_rows seal told rows _ c.as_slice-rows.ensures.value
    (of_coefficient seal parts _ c.in_ok-ascend.ensures.ascend c.in_ok-lineage.lineage c.in_ok-lineage.ensures.each c.in_ok-lineage.ensures.lineage c.in_ok-lineage.ensures.linked
    c.in_ok-rank.rank c.in_ok-rank.ensures.animal c.in_ok-only_ancestors.ensures.ancestors
    (found_in c.in-Some.part) (sym (c.in-Some.ensures.exact ∙ found_same _ _ _ rows _ _ c.from-animals.ensures (c.as_slice.ensures.value ∙ c.in_ok-leaves.ensures.leaves) c.as_slice-2.ensures.value)) c.in_ok-none_left.ensures.none some sealed same wrong))
    c.check_coefficient.ensures.fault
