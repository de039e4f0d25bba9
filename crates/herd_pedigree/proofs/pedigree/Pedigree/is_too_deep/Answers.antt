-- `Pedigree::is_too_deep`: what `has_no_calves` and `is_too_deep` require and its result.
use Rattle.std.proofs.Common.{◌+◌, sym, ap, ◌∙◌, subst, arith, ◌≡◌, ◌<◌, ◌≤◌, ℕ, List, Some, None, IfSome, false, nat_lt, IsTrue, IsFalse, length, slice_index, slice_get}
use Rattle.std.proofs.lemmas.List.{get_or_default}
use Rattle.std.specs.Map.{keys_of}
use Rattle.herd_frozen.specs.rules.Paths.{Parentage, has_path}
use Rattle.herd_frozen.specs.rules.Book.{record_of}
use Rattle.herd_pedigree.specs.Pedigree.{TellsTooDeep}
use Rattle.herd_frozen.specs.rules.Depths.{depth_from}
use Rattle.herd_pedigree.specs.store.Exchange.{exchanged}
use Rattle.herd_frozen.specs.declared.TheConstants.{DEPTH_LIMIT, MOST_ANIMALS}
use Rattle.herd_frozen.proofs.lemmas.rules.BookFacts.{at_position}
use Rattle.herd_frozen.proofs.lemmas.ListFacts.{none_if}
use Rattle.herd_pedigree.proofs.lemmas.store.CorrectionFacts.{IfOk-both}
use Rattle.herd_pedigree.proofs.CheckFacts.{too_deep-absent, not_deep-lower, too_deep-leaf, too_deep-told_by, correction-depths, correction-sound}
use Rattle.herd_pedigree.proofs.pedigree.Pedigree.is_too_deep.Goals as goal

pub returns-in_default : goal.returns-in_default
returns-in_default g c =
    let i = c.self.inside in
    let number : List ℕ = c.args.number.now in
    let depth : c.depth_with-depth.result ≡ depth_from (slice_index i.depths.items) c.args.sire c.args.dam = c.depth_with-depth.ensures.depth ∙ ap (λ ds. depth_from (slice_index ds) c.args.sire c.args.dam) c.deref.ensures.value in
    let absent : record_of i.records.book number ≡ None = none_if (record_of i.records.book number) (sym c.in_default.ensures.found) in
    subst (λ p. TellsTooDeep DEPTH_LIMIT p.book number c.args.sire c.args.dam (nat_lt c.from.result c.depth_with-depth.result)) c.self.view_is
    (λ s d si di. (λ j. nat_lt (c.from.ensures j) (depth j)) ∙ too_deep-absent DEPTH_LIMIT MOST_ANIMALS i.records.book i.sires.parents i.dams.parents i.depths.items c.self.invariant.kept number absent c.args.sire c.args.dam s d si di)

pub returns-then-depth-from : goal.returns-then-depth-from
returns-then-depth-from g c =
    let i = c.self.inside in
    let place : ℕ = c.in-Some.place in
    let depth : c.depth_with-depth.result ≡ depth_from (slice_index i.depths.items) c.args.sire c.args.dam = c.depth_with-depth.ensures.depth ∙ ap (λ ds. depth_from (slice_index ds) c.args.sire c.args.dam) c.deref.ensures.value in
    let within : place < length i.depths.items = let n = c.self.invariant.kept.long in let w = c.in-Some.ensures.within in omega (arith, n, w) in
    let read : slice_index i.depths.items place ≡ c.index.result.now = get_or_default i.depths.items place 0 c.index.result.now within ∙ sym c.index.ensures in
    let low : depth_from (slice_index i.depths.items) c.args.sire c.args.dam ≤ slice_index i.depths.items place =
    let a = c.if-depth-from.true in let b = c.from-2.ensures in omega (arith, depth, read, a, b) in
    let at : slice_get (keys_of i.records.book) c.in-Some.place ≡ Some c.args.number.now = at_position i.records.book c.args.number.now c.in-Some.place (sym c.in-Some.ensures.index) in
    subst (λ p. TellsTooDeep DEPTH_LIMIT p.book c.args.number.now c.args.sire c.args.dam false) c.self.view_is
    (λ s d si di. sym (not_deep-lower DEPTH_LIMIT MOST_ANIMALS i.records.book i.sires.parents i.dams.parents i.depths.items c.self.invariant.kept c.args.number.now c.in-Some.place at c.args.sire c.args.dam s d si di low))

pub invariant_of-correction : goal.invariant_of-correction
invariant_of-correction g c =
    record {
      sound = correction-sound DEPTH_LIMIT MOST_ANIMALS c.self.inside.records.book c.self.inside.sires.parents c.self.inside.dams.parents c.self.inside.depths.items c.self.invariant.kept c.in-Some.place c.args.sire c.args.dam c.in-Some.ensures.within
          (subst (λ p. IfSome c.args.sire (λ place. place < length p.book)) (sym c.self.view_is) c.requires.sire)
          (subst (λ p. IfSome c.args.dam (λ place. place < length p.book)) (sym c.self.view_is) c.requires.dam);
    }

pub returns-then-has_no_calves : goal.returns-then-has_no_calves
returns-then-has_no_calves g c =
    let i = c.self.inside in
    let depth : c.depth_with-depth.result ≡ depth_from (slice_index i.depths.items) c.args.sire c.args.dam = c.depth_with-depth.ensures.depth ∙ ap (λ ds. depth_from (slice_index ds) c.args.sire c.args.dam) c.deref.ensures.value in
    let at : slice_get (keys_of i.records.book) c.in-Some.place ≡ Some c.args.number.now = at_position i.records.book c.args.number.now c.in-Some.place (sym c.in-Some.ensures.index) in
    subst (λ p. TellsTooDeep DEPTH_LIMIT p.book c.args.number.now c.args.sire c.args.dam (nat_lt c.from-then-has_no_calves.result c.depth_with-depth.result)) c.self.view_is
    (λ s d si di. (λ j. nat_lt (c.from-then-has_no_calves.ensures j) (depth j)) ∙ too_deep-leaf DEPTH_LIMIT MOST_ANIMALS i.records.book i.sires.parents i.dams.parents i.depths.items c.self.invariant.kept c.args.number.now c.in-Some.place at c.args.sire c.args.dam s d si di (c.has_no_calves.ensures.none c.if-has_no_calves.true))

pub is_too_deep-requires : goal.is_too_deep-requires
is_too_deep-requires g c =
    correction-depths DEPTH_LIMIT MOST_ANIMALS c.self.inside.records.book c.self.inside.depths.items _ c.self.invariant.kept _ c.deref-2.ensures.value

pub returns : goal.returns
returns g c =
    let i = c.self.inside in
    let at : slice_get (keys_of i.records.book) c.in-Some.place ≡ Some c.args.number.now = at_position i.records.book c.args.number.now c.in-Some.place (sym c.in-Some.ensures.index) in
    let new : Parentage ℕ = exchanged i.sires.parents i.dams.parents c.in-Some.place c.args.sire c.args.dam in
    IfOk-both c.is_too_deep.result
    (λ deep. (IsTrue deep → (x : ℕ) × IsTrue (has_path new (DEPTH_LIMIT + 1) x))) (λ deep. (IsFalse deep → (x : ℕ) → IsFalse (has_path new (DEPTH_LIMIT + 1) x)))
    (TellsTooDeep DEPTH_LIMIT c.args.self.now.book c.args.number.now c.args.sire c.args.dam)
    (λ deep q r.
    subst (λ p. TellsTooDeep DEPTH_LIMIT p.book c.args.number.now c.args.sire c.args.dam deep) c.self.view_is
    (λ s d si di. too_deep-told_by DEPTH_LIMIT MOST_ANIMALS i.records.book i.sires.parents i.dams.parents i.depths.items c.self.invariant.kept c.args.number.now c.in-Some.place at c.args.sire c.args.dam s d si di deep q r))
    c.is_too_deep.ensures.deep c.is_too_deep.ensures.shallow
