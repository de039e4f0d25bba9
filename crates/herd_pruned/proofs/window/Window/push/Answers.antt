-- `Window::push`: the parents' places are others than the animal's, and its entries are written.
use Rattle.std.proofs.Common.{ℕ, ◌*◌, ◌%◌, ◌^◌, ◌<◌, ◌≡◌, ◌≢◌, ◌∙◌, List, Option, Some, length, arith, ap, subst, sym}
use Rattle.std.specs.Option.{ForSome, option_map}
use Rattle.herd_lineage.specs.declared.TheConstants.{DEPTH_LIMIT}
use Rattle.herd_kinship.specs.Coefficients.{coefficient_at}
use Rattle.herd_kinship.specs.Ranks.{AreParentsAt}
use Rattle.herd_kinship.proofs.lemmas.Lists.{take-written}
use Rattle.herd_kinship.proofs.lemmas.lineages.ParentsFacts.{parents-within}
use Rattle.herd_pruned.specs.Window.{IsWindow, Window, window_of}
use Rattle.herd_pruned.proofs.lemmas.WindowFacts.{IsNear, below-one, dam_near, parent-apart, sire_near, window-more}
use Rattle.herd_pruned.proofs.window.Window.push.Given.{Over}
use Rattle.herd_pruned.proofs.window.Window.push.Goals.{After-coefficient-coefficient}
use Rattle.herd_pruned.proofs.window.Window.push.Goals as goal

-- the rank of the next animal, its parents and its coefficient
next : (g : Over) (c : After-coefficient-coefficient g) → (c.len-rank.result ≡ length c.self.inside.coefficients.items)
    × AreParentsAt c.self.inside.lineage.now (length c.self.inside.coefficients.items) c.parents-parents.result
    × (c.coefficient-coefficient.result ≡ coefficient_at DEPTH_LIMIT c.self.inside.lineage.now (length c.self.inside.coefficients.items))
next g c =
    let count = c.len-rank.ensures in
    let full = c.self.inside.coefficients.ok in
    let rank : c.len-rank.result ≡ length c.self.inside.coefficients.items = omega (arith, count, full) in (
      rank,
      subst (λ n. AreParentsAt c.self.inside.lineage.now n c.parents-parents.result) rank c.parents-parents.ensures.parents,
      subst (λ (b : Window). c.coefficient-coefficient.result ≡ coefficient_at DEPTH_LIMIT b.lineage (length b.coefficients)) (sym c.self.view_is) c.coefficient-coefficient.ensures,
    )

-- its coefficient is below 1
below : (g : Over) (c : After-coefficient-coefficient g) → c.coefficient-coefficient.result < 2 ^ (2 * DEPTH_LIMIT)
below g c =
    let rows = c.self.inside.lineage.now in
    let rank = length c.self.inside.coefficients.items in
    subst (λ n. n < 2 ^ (2 * DEPTH_LIMIT)) (sym (next g c).2)
    (below-one DEPTH_LIMIT rows c.self.invariant.0 rank (parents-within rows rank c.parents-parents.result (next g c).1))

pub overflow_add-coefficient : goal.overflow_add-coefficient
overflow_add-coefficient g c = let low = below g (goal.at.overflow_add-coefficient g c).After-coefficient-coefficient in omega (arith, low)

pub write_animal-requires-clause-own : goal.write_animal-requires-clause-own
write_animal-requires-clause-own g c = let low = below g (goal.at.write_animal-requires-clause-own g c).After-coefficient-coefficient in omega (arith, low)

-- the place of a parent isn't that of the next animal
apart : (g : Over) (c : After-coefficient-coefficient g) (parent : Option ℕ) → ((p : ℕ) → parent ≡ Some p → IsNear (length c.self.inside.coefficients.items) c.self.inside.places p)
    → ForSome (option_map (λ p. p % c.self.inside.places) parent) (λ s. (s < c.self.inside.places) × (s ≢ c.len-rank.result % c.self.inside.places))
apart g c parent near = λ place is.
    let window : Window = window_of c.self.inside.lineage.now c.self.inside.places c.self.inside.entries.items c.self.inside.coefficients.items in
    let found = parent-apart DEPTH_LIMIT window c.self.invariant.0 c.self.invariant.1 c.self.invariant.2 parent near place is in
    (found.0, λ e. found.1 (e ∙ ap (λ n. n % c.self.inside.places) (next g c).0))

pub write_animal-requires-clause-sire : goal.write_animal-requires-clause-sire
write_animal-requires-clause-sire g c = λ place is.
    let before = (goal.at.write_animal-requires-clause-sire g c).After-coefficient-coefficient in
    let window : Window = window_of c.self.inside.lineage.now c.self.inside.places c.self.inside.entries.items c.self.inside.coefficients.items in
    apart g before c.parents-parents.result.sire
    (sire_near DEPTH_LIMIT window c.self.invariant.0 c.self.invariant.1 c.self.invariant.2 c.parents-parents.result (next g before).1)
    place (sym c.place_of-sire.ensures ∙ is)

pub write_animal-requires-clause-dam : goal.write_animal-requires-clause-dam
write_animal-requires-clause-dam g c = λ place is.
    let before = (goal.at.write_animal-requires-clause-dam g c).After-coefficient-coefficient in
    let window : Window = window_of c.self.inside.lineage.now c.self.inside.places c.self.inside.entries.items c.self.inside.coefficients.items in
    apart g before c.parents-parents.result.dam
    (dam_near DEPTH_LIMIT window c.self.invariant.0 c.self.invariant.1 c.self.invariant.2 c.parents-parents.result (next g before).1)
    place (sym c.place_of-dam.ensures ∙ is)

pub invariant_of-self-2 : goal.invariant_of-self-2
invariant_of-self-2 g c =
    let rows = c.self.inside.lineage.now in
    let places = c.self.inside.places in
    let coefficients = c.self.inside.coefficients.items in
    let window : Window = window_of rows places c.deref_mut.result.now coefficients in
    let held : IsWindow DEPTH_LIMIT window = subst (λ es. IsWindow DEPTH_LIMIT (window_of rows places es coefficients)) (sym c.deref_mut.ensures.value) c.self.invariant.2 in
    let it = next g (goal.at.invariant_of-self-2 g c).After-coefficient-coefficient in
    let written = c.write_animal.ensures in
    let new : List ℕ = c.write_animal.new.entries in
    let long = written.long in
    let value = ap length c.deref_mut.ensures.value in
    let ok = c.self.inside.entries.ok in
    let more = window-more DEPTH_LIMIT window c.self.invariant.0 c.self.invariant.1 held c.parents-parents.result it.1 (c.len-rank.result % places) c.coefficient-coefficient.result c.place_of-sire.result c.place_of-dam.result new c.push.new.self.items
    (ap (λ n. n % places) it.0) c.place_of-sire.ensures c.place_of-dam.ensures it.2 c.in_ok-push.ensures.items
    written.long written.small written.own written.row written.column written.others in (
      c.self.invariant.0,
      c.self.invariant.1,
      subst (λ es. IsWindow DEPTH_LIMIT (window_of rows places es c.push.new.self.items)) (sym (take-written c.self.inside.entries.len new c.self.inside.entries.items (omega arith))) more,
    )
