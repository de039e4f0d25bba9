-- One correction more is made, of the line whose turn it is.
use Rattle.std.proofs.Common.{◌≡◌, ◌/◌, ◌%◌, ◌==◌, if◌then◌else◌, Some, None, refl, sym, ◌∙◌, ap, arith}
use Rattle.std.proofs.lemmas.Grind.{common_steps}
use Rattle.std.specs.Map.{keys_of}
use Rattle.herd_fixtures.specs.Name.{number_named}
use Rattle.herd_fixtures.specs.declared.name.Name.TheVariants.{Bull}
use Rattle.herd_frozen.proofs.lemmas.rules.BookFacts.{keys-changed}
use Rattle.pedigree_timing.proofs.BookFacts.{corrected-none, corrected-next}
use Rattle.pedigree_timing.proofs.filling.correct_heads.Goals.{then-is_multiple_of, else-is_multiple_of}
use Rattle.pedigree_timing.proofs.filling.correct_heads.Goals as goal

pub loop-turn-init : goal.loop-turn-init
loop-turn-init c = (sym (corrected-none _), refl)

pub loop-turn-preserved : goal.loop-turn-preserved
loop-turn-preserved c =
    let sire : c.if-is_multiple_of.sire ≡ (if c.loop-turn.turn / c.max-lines.result % 2 == 0 then Some (number_named (Bull 0)) else None) =
    elim c.if-is_multiple_of.branch [
      | then-is_multiple_of w ↦ grind (arith, common_steps, w.if-is_multiple_of.true, w.sire-is)
      | else-is_multiple_of w ↦ grind (arith, common_steps, w.if-is_multiple_of.false, w.sire-is)
    ] in (
      corrected-next _ _ _ _ _ _ _ c.loop-turn.invariant.0 (rw c.len.ensures at c.max-lines.ensures) c.number-head.ensures.number sire c.in_ok-file_correction.ensures.corrected,
      ap keys_of c.in_ok-file_correction.ensures.corrected ∙ keys-changed _ _ _ ∙ c.loop-turn.invariant.1,
    )
