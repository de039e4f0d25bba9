-- They are those that the pruned lineage keeps.
use Rattle.std.proofs.Common.{◌≡◌, ◌∙◌, ◌++◌, ℕ, ◌<◌, List, All, length, map, ap, subst, sym}
use Rattle.std.proofs.lemmas.List.{length-map}
use Rattle.herd_frozen.specs.declared.TheConstants.{DEPTH_LIMIT, MOST_ANIMALS}
use Rattle.herd_frozen.specs.freezing.Frozen.{parents_of}
use Rattle.herd_lineage.specs.declared.lineage.Parents.{Parents}
use Rattle.herd_certificate.specs.Ancestors.{with_ancestors}
use Rattle.herd_certificate.specs.Sealed.{places_shown}
use Rattle.herd_certificate.proofs.AncestorFacts.{kept_are, with_ancestors-within}
use Rattle.herd_certificate.proofs.ancestors.places_shown.Given.{Over}
use Rattle.herd_certificate.proofs.ancestors.places_shown.Goals.{After-drop-pruned-inside-5}
use Rattle.herd_certificate.proofs.ancestors.places_shown.Goals as goal

are : (g : Over) (c : After-drop-pruned-inside-5 g) → c.extend_from_slice.new.self.items ≡ places_shown c.args.frozen.now c.args.place
are g c =
    let lineage = c.lineage.result.now in
    let long : length lineage ≡ length c.args.frozen.now = ap length c.lineage.ensures.value ∙ length-map c.args.frozen.now parents_of in
    let within : c.args.place < length lineage = subst (λ (n : ℕ). c.args.place < n) (sym long) c.requires in
    let kept = kept_are DEPTH_LIMIT MOST_ANIMALS lineage c.args.place c.in_ok-pruned.pruned c.lineage.ensures.lineage within c.in_ok-pruned.ensures.pruned c.in_ok-pruned.ensures.kept in
    c.in_ok-extend_from_slice.ensures.items ∙ ap (λ (l : List ℕ). l ++ c.ranks.result.now) c.new-places.ensures.items ∙ c.ranks.ensures ∙ kept
    ∙ ap (λ (l : List Parents). with_ancestors l c.args.place) c.lineage.ensures.value

pub returns-clause-places : goal.returns-clause-places
returns-clause-places g c = are g (goal.at.returns-clause-places g c).After-drop-pruned-inside-5

pub returns-clause-within : goal.returns-clause-within
returns-clause-within g c =
    let rows = c.args.frozen.now in
    subst (λ (places : List ℕ). All (λ place. place < length rows) places) (sym (are g (goal.at.returns-clause-within g c).After-drop-pruned-inside-5))
    (subst (λ (n : ℕ). All (λ place. place < n) (places_shown rows c.args.place)) (length-map rows parents_of) (with_ancestors-within (map parents_of rows) c.args.place))
