-- `Ancestors::records`: its loop.
use Rattle.std.proofs.Common.{rules, ◌≡◌, ◌<◌, ◌∙◌, arith, ap, ℕ, List, get_or, length}
use Rattle.std.proofs.lemmas.List.{get_or_default}
use Rattle.herd_pedigree.specs.store.Ancestors.{Found}
use Rattle.herd_pedigree.proofs.lemmas.store.AncestorFacts.{marked-within, records-more}
use Rattle.herd_pedigree.proofs.store.ancestors.Ancestors.records.Goals as goal

pub entry_at-requires : goal.entry_at-requires
entry_at-requires g c =
    let i : ℕ = c.loop-place.place-index in
    let places : List ℕ = c.self.inside.places.items in
    let low : i < length places = let t = c.loop-place-test.true in let e = ap length c.deref-place-items.ensures.value in omega (arith, t, e) in
    let is : get_or c.deref-place-items.result.now i 0 ≡ get_or places i (get_or c.deref-place-items.result.now i 0) =
    ap (λ (l : List ℕ). get_or l i 0) c.deref-place-items.ensures.value ∙ get_or_default places i 0 (get_or c.deref-place-items.result.now i 0) low in
    let w = marked-within places c.self.inside.marks.items i (get_or c.deref-place-items.result.now i 0) c.self.invariant low is in
    let v = ap (λ (f : Found). f.animals) c.self.view_is in
    let r = c.requires in
    omega (arith, w, v, r)

pub loop-place-preserved : goal.loop-place-preserved
loop-place-preserved g c =
    record {
      list = records-more (g.S.Searched.book c.args.records.now) c.deref-place-items.result.now c.loop-place.place-index c.entry_at.result c.loop-place.list.items c.push_reserved.new.self.items c.loop-place-test.true c.entry_at.ensures c.loop-place.invariant.list c.push_reserved.ensures.items;
      count = search rules;
      room = search rules;
    }
