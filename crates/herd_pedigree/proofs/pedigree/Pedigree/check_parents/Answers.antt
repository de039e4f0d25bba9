-- `Pedigree::check_parents`: its clauses `fault` and `by_records`.
use Rattle.std.proofs.Common.{refl, ap, subst, ◌≡◌, Some, None, true, false}
use Rattle.herd_frozen.specs.rules.ParentFault.{fault_by_records, parent_fault}
use Rattle.herd_pedigree.specs.Pedigree.{TellsTooDeep}
use Rattle.herd_frozen.specs.declared.TheConstants.{DEPTH_LIMIT}
use Rattle.herd_pedigree.proofs.CheckFacts.{fault-first, fault-told}
use Rattle.herd_pedigree.proofs.pedigree.Pedigree.check_parents.Goals as goal

pub returns-in-Err-clause-fault : goal.returns-in-Err-clause-fault
returns-in-Err-clause-fault g c =
    subst (λ p. Some c.in-Err.fault ≡ parent_fault DEPTH_LIMIT p.book c.args.number c.args.birth c.args.sire c.args.dam c.args.embryo) c.self.view_is
    (fault-first DEPTH_LIMIT c.self.inside.records.book c.args.number c.args.birth c.args.sire c.args.dam c.args.embryo c.in-Err.fault c.in-Err.ensures.fault)

pub returns-then-branch-clause-fault : goal.returns-then-branch-clause-fault
returns-then-branch-clause-fault g c =
    fault-told DEPTH_LIMIT c.self.inside.records.book c.args.self.now.book (ap (λ p. p.book) c.self.view_is) c.args.number c.args.birth c.args.sire c.args.dam c.args.embryo c.in-Ok.parents.sire c.in-Ok.parents.dam c.in-Ok.ensures.sound c.in-Ok.ensures.sire c.in-Ok.ensures.dam true
    (subst (λ deep. TellsTooDeep DEPTH_LIMIT c.args.self.now.book c.args.number c.in-Ok.parents.sire c.in-Ok.parents.dam deep) c.if-branch.true c.in_ok-is_too_deep.ensures)

pub returns-else-branch-clause-fault : goal.returns-else-branch-clause-fault
returns-else-branch-clause-fault g c =
    fault-told DEPTH_LIMIT c.self.inside.records.book c.args.self.now.book (ap (λ p. p.book) c.self.view_is) c.args.number c.args.birth c.args.sire c.args.dam c.args.embryo c.in-Ok.parents.sire c.in-Ok.parents.dam c.in-Ok.ensures.sound c.in-Ok.ensures.sire c.in-Ok.ensures.dam false
    (subst (λ deep. TellsTooDeep DEPTH_LIMIT c.args.self.now.book c.args.number c.in-Ok.parents.sire c.in-Ok.parents.dam deep) c.if-branch.false c.in_ok-is_too_deep.ensures)

pub returns-in-Err-clause-by_records : goal.returns-in-Err-clause-by_records
returns-in-Err-clause-by_records g c =
    rw (subst (λ p. fault_by_records p.book c.args.birth c.args.sire c.args.dam c.args.embryo ≡ Some c.in-Err.fault) c.self.view_is c.in-Err.ensures.fault) refl

pub returns-then-branch-clause-by_records : goal.returns-then-branch-clause-by_records
returns-then-branch-clause-by_records g c =
    rw (subst (λ p. fault_by_records p.book c.args.birth c.args.sire c.args.dam c.args.embryo ≡ None) c.self.view_is c.in-Ok.ensures.sound) tt

pub returns-else-branch-clause-by_records : goal.returns-else-branch-clause-by_records
returns-else-branch-clause-by_records g c =
    rw (subst (λ p. fault_by_records p.book c.args.birth c.args.sire c.args.dam c.args.embryo ≡ None) c.self.view_is c.in-Ok.ensures.sound) tt

pub returns-in_err-is_too_deep-clause-by_records : goal.returns-in_err-is_too_deep-clause-by_records
returns-in_err-is_too_deep-clause-by_records g c =
    rw (subst (λ p. fault_by_records p.book c.args.birth c.args.sire c.args.dam c.args.embryo ≡ None) c.self.view_is c.in-Ok.ensures.sound) tt
