use Rattle.std.proofs.Common.{◌≡◌, ◌∙◌, ℕ, List, Some, true, sym, inl, inr, get_or, length, nat_lt, slice_get, arith, refl, rules, subst}
use Rattle.std.proofs.lemmas.Bool.{ltb-true}
use Rattle.std.proofs.lemmas.Grind.{common_steps}
use Rattle.std.proofs.lemmas.Option.{slice_get_read}
use Rattle.herd_lineage.specs.Builder.{first_fault, offspring}
use Rattle.herd_lineage.specs.declared.TheConstants.{DEPTH_LIMIT, MOST_ANIMALS}
use Rattle.herd_lineage.specs.declared.lineage_fault.LineageFault.TheVariants.{Dam, Full, Sire, TooDeep as TooFarAbove}
use Rattle.herd_seal.specs.CheckFaults.{at_row}
use Rattle.herd_seal.specs.declared.certificate.CertifiedRow.{CertifiedRow}
use Rattle.herd_seal.specs.declared.check_fault.CheckCause.TheVariants.{ParentLacks, TooDeep}
use Rattle.herd_seal.proofs.FaultFacts.{fault_found, full_is, has_parent_fault, not_next}
use Rattle.herd_seal.proofs.RowFacts.{linked_more}
use Rattle.herd_seal.proofs.check.push_row.Goals as goal

next_row : (rows : List CertifiedRow) (at n : ℕ) (row : CertifiedRow) → at ≡ n → true ≡ nat_lt at (length rows) → row ≡ get_or rows at row → slice_get rows n ≡ Some row
next_row rows at n row same within is =
    subst (λ (k : ℕ). slice_get rows k ≡ Some row) same (slice_get_read rows (length rows) at row refl (ltb-true at (length rows) (sym within)) is)

pub unreachable-requires-in-Err-Full : goal.unreachable-requires-in-Err-Full
unreachable-requires-in-Err-Full g c =
    let sire = c.in_ok-sire.sire in
    let dam = c.in_ok-dam.dam in
    let found : first_fault DEPTH_LIMIT MOST_ANIMALS c.args.builder.now sire dam ≡ Some Full =
    fault_found (first_fault DEPTH_LIMIT MOST_ANIMALS c.args.builder.now sire dam) Full (sym c.in-Err-Full.field-0-is ∙ c.in-Err-Full.ensures.fault) (λ e. cc) in
    let full : length c.args.builder.now ≡ MOST_ANIMALS = full_is DEPTH_LIMIT MOST_ANIMALS c.args.builder.now sire dam found in
    omega (arith, full, c.requires.within, c.requires.few)

pub returns-in-Ok-clause-linked : goal.returns-in-Ok-clause-linked
returns-in-Ok-clause-linked g c =
    let there = next_row c.args.rows.now c.len-at.result (length c.args.builder.now) c.in-Some.row.now c.len-at.ensures.value c.in-Some.ensures.lookup.0 c.in-Some.ensures.lookup.1 in
    linked_more c.args.rows.now c.args.builder.now c.push.new.self (length c.args.builder.now) c.in-Some.row.now
    (offspring c.args.builder.now c.in_ok-sire.sire c.in_ok-dam.dam) c.requires.linked refl there c.in_ok-sire.ensures.link c.in_ok-dam.ensures.link c.in-Ok.ensures.added

pub returns-in-Err-Sire-clause-fault : goal.returns-in-Err-Sire-clause-fault
returns-in-Err-Sire-clause-fault g c =
    let there = next_row c.args.rows.now c.len-at.result (length c.args.builder.now) c.in-Some.row.now c.len-at.ensures.value c.in-Some.ensures.lookup.0 c.in-Some.ensures.lookup.1 in
    let told : c.at_row.result ≡ at_row ParentLacks (length c.args.builder.now) = first_of (search rules, grind (arith, common_steps)) in
    let next = not_next c.args.rows.now c.args.builder.now c.in-Some.row.now c.in_ok-sire.sire c.in_ok-dam.dam c.in-Err-Sire.field-0 Sire c.in_ok-sire.ensures.link
    c.in_ok-dam.ensures.link c.in-Err-Sire.field-0-is c.in-Err-Sire.ensures.fault (λ e. cc) in
    inr (ParentLacks, told, has_parent_fault c.args.rows.now c.args.builder.now c.in-Some.row.now ParentLacks c.requires.ascend c.len-at.ensures.lineage c.requires.linked there (inr (inl next)))

pub returns-in-Err-Dam-clause-fault : goal.returns-in-Err-Dam-clause-fault
returns-in-Err-Dam-clause-fault g c =
    let there = next_row c.args.rows.now c.len-at.result (length c.args.builder.now) c.in-Some.row.now c.len-at.ensures.value c.in-Some.ensures.lookup.0 c.in-Some.ensures.lookup.1 in
    let told : c.at_row-in-Err-Dam.result ≡ at_row ParentLacks (length c.args.builder.now) = first_of (search rules, grind (arith, common_steps)) in
    let next = not_next c.args.rows.now c.args.builder.now c.in-Some.row.now c.in_ok-sire.sire c.in_ok-dam.dam c.in-Err-Dam.field-0 Dam c.in_ok-sire.ensures.link
    c.in_ok-dam.ensures.link c.in-Err-Dam.field-0-is c.in-Err-Dam.ensures.fault (λ e. cc) in
    inr (ParentLacks, told, has_parent_fault c.args.rows.now c.args.builder.now c.in-Some.row.now ParentLacks c.requires.ascend c.len-at.ensures.lineage c.requires.linked there (inr (inr next)))

pub returns-in-Err-TooDeep-clause-fault : goal.returns-in-Err-TooDeep-clause-fault
returns-in-Err-TooDeep-clause-fault g c =
    let there = next_row c.args.rows.now c.len-at.result (length c.args.builder.now) c.in-Some.row.now c.len-at.ensures.value c.in-Some.ensures.lookup.0 c.in-Some.ensures.lookup.1 in
    let told : c.at_row-in-Err-TooDeep.result ≡ at_row TooDeep (length c.args.builder.now) = first_of (search rules, grind (arith, common_steps)) in
    let next = not_next c.args.rows.now c.args.builder.now c.in-Some.row.now c.in_ok-sire.sire c.in_ok-dam.dam c.in-Err-TooDeep.field-0 TooFarAbove c.in_ok-sire.ensures.link
    c.in_ok-dam.ensures.link c.in-Err-TooDeep.field-0-is c.in-Err-TooDeep.ensures.fault (λ e. cc) in
    inr (TooDeep, told, has_parent_fault c.args.rows.now c.args.builder.now c.in-Some.row.now TooDeep c.requires.ascend c.len-at.ensures.lineage c.requires.linked there next)
