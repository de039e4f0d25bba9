-- `Correction::carry`: what `settle` requires, its loop, and its clauses `logged` and `deep`.
use Rattle.std.proofs.Common.{rules, refl, sym, ap, ◌∙◌, subst, arith, ℕ, suc, List, Option, [], ◌∷◌, ◌++◌, ◌≡◌, ◌+◌, ◌<◌, ◌==◌, All, true, length, slice_index, slice_set}
use Rattle.std.proofs.lemmas.Bool.{lt-ltb}
use Rattle.std.proofs.lemmas.List.{append-nil, length-set}
use Rattle.herd_pedigree.specs.store.Correction.{corrected}
use Rattle.herd_pedigree.specs.store.Carrying.{IsSettled, HavePaths}
use Rattle.herd_frozen.specs.declared.TheConstants.{DEPTH_LIMIT}
use Rattle.herd_pedigree.proofs.lemmas.store.CarryFacts.{first-path, no-paths, paths-within, some-path}
use Rattle.herd_pedigree.proofs.store.correction.Correction.carry.Goals as goal

pub loop-init : goal.loop-init
loop-init g c =
    let x = c.args.self.now in
    let items : c.push.new.self.items ≡ x.place ∷ [] = c.in_ok-push.ensures.items ∙ ap (λ xs. xs ++ x.place ∷ []) c.new-pending.ensures.items in
    let there = lt-ltb x.place (length (slice_set x.sires.now.parents x.place x.sire)) (let n = length-set x.sires.now.parents x.place x.sire in let h = x.sound.here in omega (arith, n, h)) in
    record {
      long = refl;
      logged = λ past taken. taken;
      settled = subst (λ xs. IsSettled DEPTH_LIMIT (corrected x) (slice_index c.args.depths.now) xs) (sym items) c.requires.settled;
      paths = subst (λ xs. HavePaths (corrected x) 0 xs) (sym items) (first-path (corrected x) x.place there);
    }

pub settle-requires-clause-within : goal.settle-requires-clause-within
settle-requires-clause-within g c =
    let x = c.args.self.now in
    let sires : List (Option ℕ) = slice_set x.sires.now.parents x.place x.sire in
    let dams : List (Option ℕ) = slice_set x.dams.now.parents x.place x.dam in
    let long : length c.loop.depths ≡ length sires = c.loop.invariant.long ∙ c.requires.long ∙ sym (length-set x.sires.now.parents x.place x.sire) in
    subst (λ xs. All (λ place. place < length c.loop.depths) xs) (sym c.deref.ensures.value)
    (paths-within sires dams c.loop.counter (length c.loop.depths) c.loop.pending.items long c.loop.invariant.paths)

pub loop-preserved : goal.loop-preserved
loop-preserved g c =
    let x = c.args.self.now in
    let old = c.loop.invariant in
    let lists : c.deref.result.now ++ c.new-calves.result.items ≡ c.loop.pending.items =
    ap (λ xs. c.deref.result.now ++ xs) c.new-calves.ensures.items ∙ append-nil c.deref.result.now ∙ c.deref.ensures.value in
    let next : suc c.loop.counter ≡ c.loop.counter + 1 = omega arith in
    record {
      long = c.settle.auto.depths ∙ old.long;
      logged = λ past taken. c.settle.ensures.logged past (old.logged past taken);
      settled = c.in_ok-settle.ensures.settled (subst (λ xs. IsSettled DEPTH_LIMIT (corrected x) (slice_index c.loop.depths) xs) (sym lists) old.settled);
      paths =
          subst (λ k. HavePaths (corrected x) k c.settle.new.pending.items) next
          (c.in_ok-settle.ensures.paths c.loop.counter
          (subst (λ xs. HavePaths (corrected x) c.loop.counter xs) (sym c.deref.ensures.value) old.paths)
          (subst (λ xs. HavePaths (corrected x) (suc c.loop.counter) xs) (sym c.new-calves.ensures.items) (no-paths (corrected x) (suc c.loop.counter))));
    }

pub returns-in_err-settle-clause-logged : goal.returns-in_err-settle-clause-logged
returns-in_err-settle-clause-logged g c = λ past taken. c.settle.ensures.logged past (c.loop.invariant.logged past taken)

pub returns-clause-deep : goal.returns-clause-deep
returns-clause-deep g c =
    λ no.
    let x = c.args.self.now in
    let end : c.loop.counter ≡ DEPTH_LIMIT + 1 = search rules in
    some-path (corrected x) (DEPTH_LIMIT + 1) c.loop.pending.items (subst (λ n. HavePaths (corrected x) n c.loop.pending.items) end c.loop.invariant.paths)
    (λ none. let t : c.is_empty-2.result ≡ true = c.is_empty-2.ensures ∙ ap (λ xs. length xs == 0) c.as_slice-2.ensures.value ∙ ap (λ n. n == 0) none in absurd (cc))
