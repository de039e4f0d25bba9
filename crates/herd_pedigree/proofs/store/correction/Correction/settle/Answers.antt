-- `Correction::settle`: its loop and its clauses `logged` and `settled`.
use Rattle.std.proofs.Common.{rules, sym, subst, ℕ, List, [], ◌++◌, ◌∷◌, ◌≡◌, ◌+◌, ◌<◌, IsTrue, get_or, drop, length, slice_index, slice_set}
use Rattle.std.proofs.lemmas.List.{drop_more, drop_all}
use Rattle.std.proofs.lemmas.List.Elements.{All-get_or}
use Rattle.herd_pedigree.specs.store.Correction.{corrected}
use Rattle.herd_frozen.specs.rules.Paths.{has_path}
use Rattle.herd_pedigree.specs.store.Carrying.{IsSettled}
use Rattle.herd_pedigree.specs.store.Undo.{TakesBack}
use Rattle.herd_frozen.specs.declared.TheConstants.{DEPTH_LIMIT}
use Rattle.herd_pedigree.proofs.lemmas.store.CarryFacts.{settled-same, settled-set, paths-calves}
use Rattle.herd_pedigree.proofs.lemmas.store.UndoFacts.{taken-write}
use Rattle.herd_pedigree.proofs.store.correction.Correction.settle.Goals as goal

pub loop-place-preserved-then-depth-old : goal.loop-place-preserved-then-depth-old
loop-place-preserved-then-depth-old g c =
    let i : ℕ = c.loop-place.place-index in
    let places : List ℕ = c.args.places.now in
    let place : ℕ = get_or places i 0 in
    let depths : List ℕ = c.loop-place.depths in
    let x = c.args.self.now in
    let old = c.loop-place.invariant in
    let within : place < length depths = search rules in
    record {
      long = old.long;
      logged = old.logged;
      settled = λ s.
          settled-same DEPTH_LIMIT (corrected x) depths place c.depth_at-depth.result within c.depth_at-depth.ensures c.if-depth-old.true (drop (i + 1) places ++ c.loop-place.pending.items)
          (subst (λ xs. IsSettled DEPTH_LIMIT (corrected x) (slice_index depths) (xs ++ c.loop-place.pending.items)) (drop_more places i 0 c.loop-place-test.true) (old.settled s));
      paths = λ n paths have. old.paths n paths have;
    }

pub returns-in_err-push-clause-logged : goal.returns-in_err-push-clause-logged
returns-in_err-push-clause-logged g c =
    λ past taken.
    let same : c.push.new.self.items ≡ c.loop-place.log.items = search rules in
    subst (λ log. TakesBack log c.loop-place.depths past) (sym same) (c.loop-place.invariant.logged past taken)

pub returns-in_err-push_calves-clause-logged : goal.returns-in_err-push_calves-clause-logged
returns-in_err-push_calves-clause-logged g c =
    λ past taken.
    let depths : List ℕ = c.loop-place.depths in
    let place : ℕ = get_or c.args.places.now c.loop-place.place-index 0 in
    let within : place < length depths = search rules in
    let pushed : c.push.new.self.items ≡ c.loop-place.log.items ++ (place, slice_index depths place) ∷ [] = search rules in
    subst (λ log. TakesBack log (slice_set depths place c.depth_at-depth.result) past) (sym pushed)
    (taken-write c.loop-place.log.items depths past place c.depth_at-depth.result within (c.loop-place.invariant.logged past taken))

pub loop-place-preserved : goal.loop-place-preserved
loop-place-preserved g c =
    let i : ℕ = c.loop-place.place-index in
    let places : List ℕ = c.args.places.now in
    let place : ℕ = get_or places i 0 in
    let depths : List ℕ = c.loop-place.depths in
    let depth : ℕ = c.depth_at-depth.result in
    let x = c.args.self.now in
    let old = c.loop-place.invariant in
    let within : place < length depths = search rules in
    let pushed : c.push.new.self.items ≡ c.loop-place.log.items ++ (place, slice_index depths place) ∷ [] = search rules in
    record {
      long = search rules;
      logged = λ past taken.
          subst (λ log. TakesBack log (slice_set depths place depth) past) (sym pushed)
          (taken-write c.loop-place.log.items depths past place depth within (old.logged past taken));
      settled = λ s.
          settled-set DEPTH_LIMIT (corrected x) depths place depth within c.depth_at-depth.ensures (drop (i + 1) places) c.loop-place.pending.items c.push_calves.new.pending.items c.in_ok-push_calves.ensures
          (subst (λ xs. IsSettled DEPTH_LIMIT (corrected x) (slice_index depths) (xs ++ c.loop-place.pending.items)) (drop_more places i 0 c.loop-place-test.true) (old.settled s));
      paths = λ n paths have.
          paths-calves (corrected x) n place c.loop-place.pending.items c.push_calves.new.pending.items c.in_ok-push_calves.ensures
          (All-get_or (λ (p : ℕ). IsTrue (has_path (corrected x) n p)) places i 0 c.loop-place-test.true paths) (old.paths n paths have);
    }

pub returns-clause-settled : goal.returns-clause-settled
returns-clause-settled g c =
    λ s.
    let end : drop c.loop-place.place-index c.args.places.now ≡ [] = drop_all c.loop-place.place-index c.args.places.now (search rules) in
    subst (λ xs. IsSettled DEPTH_LIMIT (corrected c.args.self.now) (slice_index c.loop-place.depths) (xs ++ c.loop-place.pending.items)) end (c.loop-place.invariant.settled s)
