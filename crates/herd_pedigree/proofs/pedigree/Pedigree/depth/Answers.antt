-- `Pedigree::depth`: its clause `depth`.
use Rattle.std.proofs.Common.{sym, ◌∙◌, subst, arith, ◌<◌, ◌≡◌, length, slice_index}
use Rattle.std.proofs.lemmas.List.{get_or_default}
use Rattle.herd_frozen.specs.rules.Book.{IsDepthOf}
use Rattle.herd_frozen.specs.declared.TheConstants.{DEPTH_LIMIT, MOST_ANIMALS}
use Rattle.herd_frozen.proofs.lemmas.rules.BookFacts.{at_position}
use Rattle.herd_pedigree.proofs.KeptFacts.{depth-kept}
use Rattle.herd_pedigree.proofs.pedigree.Pedigree.depth.Goals as goal

pub returns-clause-depth : goal.returns-clause-depth
returns-clause-depth g c =
    let kept = c.self.invariant.kept in
    let entries = c.self.inside.records.book in
    let depths = c.self.inside.depths.items in
    let place = c.in_ok-place.place in
    let within : place < length depths = let n = kept.long in let w = c.in_ok-place.ensures.within in omega (arith, n, w) in
    let read : slice_index depths place ≡ c.index.result.now = get_or_default depths place 0 c.index.result.now within ∙ sym c.index.ensures in
    let is : IsDepthOf entries c.args.number.now c.index.result.now =
    subst (λ n. IsDepthOf entries c.args.number.now n) read
    (depth-kept DEPTH_LIMIT MOST_ANIMALS entries c.self.inside.sires.parents c.self.inside.dams.parents depths kept place c.args.number.now (at_position entries c.args.number.now place (sym c.in_ok-place.ensures.index))) in
    subst (λ p. IsDepthOf p.book c.args.number.now c.index.result.now) c.self.view_is is
