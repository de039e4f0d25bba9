-- `Lineage::push_known`: what `index_mut` requires, the invariant, and its clause `lineage`.
use Rattle.std.proofs.Common.{rules, arith, sym, ap, ◌∙◌, subst, ◌≡◌, ◌++◌, ◌∷◌, [], List, get_or, length, map, set}
use Rattle.std.proofs.Math.Seq.{map-set_same}
use Rattle.std.proofs.lemmas.List.{map_push}
use Rattle.herd_lineage.specs.Lineage.{IsLineage, IsNextOf, levels_of, packed_parents, parents_kept}
use Rattle.herd_lineage.specs.declared.lineage.Parents.{Parents}
use Rattle.herd_lineage.specs.declared.TheConstants.{DEPTH_LIMIT, MOST_ANIMALS}
use Rattle.herd_lineage.proofs.lemmas.LevelFacts.{level-within, levels-more}
use Rattle.herd_lineage.proofs.lemmas.LineagePush.{lineage-push}
use Rattle.herd_lineage.proofs.lineage.Lineage.push_known.Given.{Over}
use Rattle.herd_lineage.proofs.lineage.Lineage.push_known.Goals.{After-push_reserved}
use Rattle.herd_lineage.proofs.lineage.Lineage.push_known.Goals as goal

pushed : (g : Over) (c : After-push_reserved g) → map parents_kept c.push_reserved.new.self.items ≡ map parents_kept c.self.inside.parents.items ++ c.args.parents ∷ []
pushed g c =
    let items : c.push_reserved.new.self.items ≡ c.self.inside.parents.items ++ packed_parents c.args.parents ∷ [] = search rules in
    ap (map parents_kept) items ∙ map_push parents_kept c.self.inside.parents.items (packed_parents c.args.parents)

made : (g : Over) (c : After-push_reserved g) → IsLineage DEPTH_LIMIT MOST_ANIMALS (map parents_kept c.push_reserved.new.self.items)
made g c =
    let next : IsNextOf DEPTH_LIMIT MOST_ANIMALS (map parents_kept c.self.inside.parents.items) c.args.parents =
    subst (λ (l : List Parents). IsNextOf DEPTH_LIMIT MOST_ANIMALS l c.args.parents) (sym c.self.view_is) c.requires in
    subst (λ (l : List Parents). IsLineage DEPTH_LIMIT MOST_ANIMALS l) (sym (pushed g c))
    (lineage-push DEPTH_LIMIT MOST_ANIMALS (map parents_kept c.self.inside.parents.items) c.args.parents c.self.invariant.0 next)

pub index_mut-requires : goal.index_mut-requires
index_mut-requires g c =
    let within = level-within (λ v. v.items) DEPTH_LIMIT (map parents_kept c.self.inside.parents.items) c.self.inside.levels.items c.self.invariant.1 c.args.parents c.requires.shallow in
    let from = c.from.ensures in
    let ok = c.self.inside.levels.ok.0 in
    omega (arith, within, from, ok)

pub invariant_of-self-in_err-push : goal.invariant_of-self-in_err-push
invariant_of-self-in_err-push g c =
    let kept : c.reserve.new.self.items ≡ c.self.inside.parents.items = search rules in
    let same : c.push.new.self.items ≡ c.index_mut.result.now.items = search rules in
    let here = c.index_mut.ensures.value in
    let levels = map-set_same (λ v. v.items) c.self.inside.levels.items c.from.result c.push.new.self c.index_mut.result.now (same ∙ ap (λ v. v.items) here) in
    rw kept (c.self.invariant.0, levels ∙ c.self.invariant.1)

pub invariant_of-self-2 : goal.invariant_of-self-2
invariant_of-self-2 g c =
    let after = (goal.at.invariant_of-self-2 g c).After-push_reserved in
    let rows : List Parents = map parents_kept c.self.inside.parents.items in
    let vectors = c.self.inside.levels.items in
    let level = c.index_mut.result.now in
    let depth : c.from.result ≡ c.args.parents.depth = c.from.ensures in
    let here : level ≡ get_or vectors c.args.parents.depth level = subst (λ n. level ≡ get_or vectors n level) depth c.index_mut.ensures.value in
    let rank : c.len-rank.result ≡ length rows = c.len-rank.ensures.value ∙ sym (ap (λ (l : List Parents). length l) c.self.view_is) in
    let more : c.push.new.self.items ≡ level.items ++ length rows ∷ [] = c.in_ok-push.ensures.items ∙ ap (λ n. level.items ++ n ∷ []) rank in
    let levels = levels-more (λ v. v.items) DEPTH_LIMIT rows vectors c.self.invariant.1 c.args.parents c.requires.shallow level c.push.new.self here more in (
      made g after,
      subst (λ n. map (λ v. v.items) (set vectors n c.push.new.self) ≡ levels_of DEPTH_LIMIT (map parents_kept c.push_reserved.new.self.items)) (sym depth)
          (levels ∙ ap (λ (l : List Parents). levels_of DEPTH_LIMIT l) (sym (pushed g after))),
    )

pub returns-clause-lineage : goal.returns-clause-lineage
returns-clause-lineage g c = made g (goal.at.returns-clause-lineage g c).After-push_reserved
