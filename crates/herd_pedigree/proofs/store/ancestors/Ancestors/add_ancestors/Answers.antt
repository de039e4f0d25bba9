-- `Ancestors::add_ancestors`: its loop and its clause `closed`.
use Rattle.std.proofs.Common.{◌≡◌, ◌<◌, ◌≤◌, ◌∙◌, arith, ap, sym, subst, Some, length, slice_get}
use Rattle.std.proofs.lemmas.Option.{slice_get-get_or}
use Rattle.herd_pedigree.specs.store.Ancestors.{BeginsWith, Found}
use Rattle.herd_pedigree.proofs.lemmas.store.AncestorFacts.{begins-further, closed-all, closed-more, dam-within, if-further, marked-few, marked-within, sire-within}
use Rattle.herd_pedigree.proofs.store.ancestors.Ancestors.add_ancestors.Goals as goal

pub link_at-link-requires-clause-within : goal.link_at-link-requires-clause-within
link_at-link-requires-clause-within g c =
    let low : c.loop-next.next < length c.self.inside.places.items = let t = c.loop-next-test.true in let n = c.len.ensures in omega (arith, t, n) in
    let w = marked-within c.self.inside.places.items c.self.inside.marks.items c.loop-next.next c.index.result.now c.self.invariant low c.index.ensures in
    let v = ap (λ (f : Found). f.animals) c.self.view_is in
    let a = c.loop-next.invariant.animals in
    let r = c.requires.animals in
    omega (arith, w, v, a, r)

pub add_known-requires : goal.add_known-requires
add_known-requires g c =
    let low : c.loop-next.next < length c.self.inside.places.items = let t = c.loop-next-test.true in let n = c.len.ensures in omega (arith, t, n) in
    let w = marked-within c.self.inside.places.items c.self.inside.marks.items c.loop-next.next c.index.result.now c.self.invariant low c.index.ensures in
    let v = ap (λ (f : Found). f.animals) c.self.view_is in
    let a = c.loop-next.invariant.animals in
    let r = c.requires.animals in
    sire-within (g.S.Searched.book c.args.records.now) c.index.result.now c.loop-next.self.animals c.link_at-link.result c.link_at-link.ensures (omega (arith, w, v, a, r)) (omega (arith, a, r))

pub add_known-requires-in-loop-next : goal.add_known-requires-in-loop-next
add_known-requires-in-loop-next g c =
    let low : c.loop-next.next < length c.self.inside.places.items = let t = c.loop-next-test.true in let n = c.len.ensures in omega (arith, t, n) in
    let w = marked-within c.self.inside.places.items c.self.inside.marks.items c.loop-next.next c.index.result.now c.self.invariant low c.index.ensures in
    let v = ap (λ (f : Found). f.animals) c.self.view_is in
    let a = c.loop-next.invariant.animals in
    let b = c.in_ok-add_known.ensures.animals in
    let r = c.requires.animals in
    dam-within (g.S.Searched.book c.args.records.now) c.index.result.now c.add_known.new.self.animals c.link_at-link.result c.link_at-link.ensures (omega (arith, w, v, a, r)) (omega (arith, a, b, r))

pub loop-next-smaller : goal.loop-next-smaller
loop-next-smaller g c =
    let low : c.loop-next.next < length c.self.inside.places.items = let t = c.loop-next-test.true in let n = c.len.ensures in omega (arith, t, n) in
    let few = marked-few c.self.inside.places.items c.self.inside.marks.items c.self.invariant in
    let v = ap (λ (f : Found). f.animals) c.self.view_is in
    let b = c.in_ok-add_known.ensures.animals in
    let d = c.in_ok-add_known-2.ensures.animals in
    omega (arith, low, few, v, b, d)

pub loop-next-preserved : goal.loop-next-preserved
loop-next-preserved g c =
    let book = g.S.Searched.book c.args.records.now in
    let low : c.loop-next.next < length c.self.inside.places.items = let t = c.loop-next-test.true in let n = c.len.ensures in omega (arith, t, n) in
    let here : slice_get c.self.inside.places.items c.loop-next.next ≡ Some c.index.result.now = slice_get-get_or c.self.inside.places.items c.loop-next.next c.index.result.now low ∙ ap Some (sym c.index.ensures) in
    let at : slice_get c.loop-next.self.places c.loop-next.next ≡ Some c.index.result.now = subst (λ (f : Found). slice_get f.places c.loop-next.next ≡ Some c.index.result.now) c.self.view_is here in
    let old = c.loop-next.self.places in
    let mid = c.add_known.new.self.places in
    let new = c.add_known-in-loop-next.new.self.places in
    let one : BeginsWith old mid = c.in_ok-add_known.ensures.kept in
    let two : BeginsWith mid new = c.in_ok-add_known-2.ensures.kept in
    let both : BeginsWith old new = begins-further old mid new one two in
    record {
      animals = c.in_ok-add_known-2.ensures.animals ∙ c.in_ok-add_known.ensures.animals ∙ c.loop-next.invariant.animals;
      kept = begins-further c.args.self.now.places old new c.loop-next.invariant.kept both;
      closed = closed-more book c.requires.once old new c.loop-next.next c.index.result.now c.link_at-link.result c.loop-next.invariant.closed at both c.link_at-link.ensures
          (if-further c.link_at-link.result.sire mid new two c.in_ok-add_known.ensures.added) c.in_ok-add_known-2.ensures.added;
    }

pub returns-clause-closed : goal.returns-clause-closed
returns-clause-closed g c =
    let past : length c.loop-next.self.places ≤ c.loop-next.next = let t = c.loop-next-test.false in let n = c.len.ensures in let v = ap (λ (f : Found). length f.places) c.self.view_is in omega (arith, t, n, v) in
    closed-all (g.S.Searched.book c.args.records.now) c.loop-next.self.places c.loop-next.next c.loop-next.invariant.closed past
