-- `add_animal`: the animal that was added is the record's, and so is its fault.
use Rattle.std.proofs.Common.{◌∙◌, ◌<◌, ℕ, None, Some, ap, length, subst, sym, arith}
use Rattle.std.specs.Prelude.{IfSome}
use Rattle.csv.specs.Records.{fields_of}
use Rattle.csv_records.specs.Fields.{field}
use Rattle.herd_lineage.specs.Builder.{offspring}
use Rattle.herd_pedigree_file.proofs.lemmas.GrammarFacts.{TellsParents, no_dam, no_sire, not_two, parent_read, told_adds, told_fails, too_many}
use Rattle.herd_pedigree_file.specs.PedigreeCause.{cause_of}
use Rattle.herd_pedigree_file.proofs.animal.add_animal.Goals.{After-push}
use Rattle.herd_pedigree_file.proofs.animal.add_animal.Goals as goal

pub returns-then-animals-most-clause-fault : goal.returns-then-animals-most-clause-fault
returns-then-animals-most-clause-fault c = λ _.
    too_many c.args.most c.args.builder.now (fields_of c.args.row.now) (omega arith)

pub returns-then-len-ne2-clause-fault : goal.returns-then-len-ne2-clause-fault
returns-then-len-ne2-clause-fault c = λ _.
    not_two c.args.most c.args.builder.now (fields_of c.args.row.now) (omega arith) (λ two. c.if-len-ne2.true (c.len.ensures ∙ two))

pub returns-in_default-clause-fault : goal.returns-in_default-clause-fault
returns-in_default-clause-fault c = λ _.
    let animals = length c.args.builder.now in
    let texts = fields_of c.args.row.now in
    let none = parent_read c.len-animals.result animals c.field.result.now (field 0 texts) c.parent_in.result None c.len-animals.ensures.value c.field.ensures c.parent_in.ensures.parent c.in_default.is in
    no_sire c.args.most c.args.builder.now texts (omega arith) (sym c.len.ensures ∙ c.if-len-ne2.false) none

pub returns-in_default-parent_in-clause-fault : goal.returns-in_default-parent_in-clause-fault
returns-in_default-parent_in-clause-fault c = λ _.
    let animals = length c.args.builder.now in
    let texts = fields_of c.args.row.now in
    let known = parent_read c.len-animals.result animals c.field.result.now (field 0 texts) c.parent_in.result (Some c.in-Some.sire) c.len-animals.ensures.value c.field.ensures c.parent_in.ensures.parent c.in-Some.is in
    let none = parent_read c.len-animals.result animals c.field-2.result.now (field 1 texts) c.parent_in-2.result None c.len-animals.ensures.value c.field-2.ensures c.parent_in-2.ensures.parent c.in_default-parent_in.is in
    no_dam c.args.most c.args.builder.now texts (omega arith) (sym c.len.ensures ∙ c.if-len-ne2.false) c.in-Some.sire known none

told : (c : After-push) → TellsParents c.args.most c.args.builder.now (fields_of c.args.row.now) c.in-Some.sire c.in-Some-parent_in.dam
told c =
    let animals = length c.args.builder.now in
    let texts = fields_of c.args.row.now in
    record {
      room = omega arith;
      few = c.requires;
      two = sym c.len.ensures ∙ c.if-len-ne2.false;
      sire_is = parent_read c.len-animals.result animals c.field.result.now (field 0 texts) c.parent_in.result (Some c.in-Some.sire) c.len-animals.ensures.value c.field.ensures c.parent_in.ensures.parent c.in-Some.is;
      dam_is = parent_read c.len-animals.result animals c.field-2.result.now (field 1 texts) c.parent_in-2.result (Some c.in-Some-parent_in.dam) c.len-animals.ensures.value c.field-2.ensures c.parent_in-2.ensures.parent c.in-Some-parent_in.is;
      sire_earlier = subst (λ (n : ℕ). IfSome c.in-Some.sire (λ rank. rank < n)) c.len-animals.ensures.value c.in-Some.ensures.earlier;
      dam_earlier = subst (λ (n : ℕ). IfSome c.in-Some-parent_in.dam (λ rank. rank < n)) c.len-animals.ensures.value c.in-Some-parent_in.ensures.earlier;
    }

pub returns-in-Ok-clause-added : goal.returns-in-Ok-clause-added
returns-in-Ok-clause-added c = (
  offspring c.args.builder.now c.in-Some.sire c.in-Some-parent_in.dam,
  told_adds c.args.most c.args.builder.now (fields_of c.args.row.now) c.in-Some.sire c.in-Some-parent_in.dam (told (goal.at.returns-in-Ok-clause-added c).After-push) c.in-Ok.ensures.faultless,
  c.in-Ok.ensures.added,
)

pub returns-in-Err-clause-fault : goal.returns-in-Err-clause-fault
returns-in-Err-clause-fault c = λ told_of.
    told_fails c.args.most c.args.builder.now (fields_of c.args.row.now) c.in-Some.sire c.in-Some-parent_in.dam (told (goal.at.returns-in-Err-clause-fault c).After-push)
    c.from.result (c.from.ensures ∙ ap cause_of c.in-Err.ensures.fault) told_of
