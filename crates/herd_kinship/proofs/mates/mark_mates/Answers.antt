-- `mark_mates`: what `mark_parent` requires and its loop.
use Rattle.std.proofs.Common.{◌≡◌, ℕ, ◌-◌, ◌*◌, ◌<◌, ⊎_elim, List, length, Some, arith, sym, ◌∙◌}
use Rattle.std.proofs.lemmas.List.Elements.{All-push, All-weaker}
use Rattle.herd_lineage.specs.declared.TheConstants.{DEPTH_LIMIT, MOST_ANIMALS}
use Rattle.herd_lineage.specs.Lineage.{dam_rank}
use Rattle.herd_kinship.specs.Pending.{mark}
use Rattle.herd_kinship.specs.Tracing.{GivesMark}
use Rattle.herd_kinship.proofs.lemmas.lineages.ParentsFacts.{parents-dam}
use Rattle.herd_kinship.proofs.lemmas.sires.CalfFacts.{dam-within}
use Rattle.herd_kinship.proofs.lemmas.sires.Collecting.{gives-from, gives-it, gives-kept, gives-room}
use Rattle.herd_kinship.proofs.mates.mark_mates.Goals as goal

pub mark_parent-requires-clause-older : goal.mark_parent-requires-clause-older
mark_parent-requires-clause-older g c = λ d e.
    let within = dam-within DEPTH_LIMIT MOST_ANIMALS c.args.lineage.now c.in-Some.calf c.parents.result c.parents.ensures.lineage c.parents.ensures.parents d e in
    let last = c.requires.last in
    omega arith

pub loop-calf-preserved : goal.loop-calf-preserved
loop-calf-preserved g c =
    let rows = c.args.lineage.now in
    let calf : ℕ = c.in-Some.calf in
    let last : ℕ = c.args.last in
    let chunks : List ℕ = c.loop-calf.marked.chunks.items in
    let chunks' : List ℕ = c.mark_parent.new.pending.chunks.items in
    let dam = c.parents.result.dam in
    let gives : GivesMark last chunks chunks' dam = c.mark_parent.ensures in
    let long = gives-room last chunks chunks' dam gives in
    let room : last < 64 * length chunks = c.loop-calf.invariant.room in
    let IsMated : List ℕ → ℕ → Type 0 = λ marks x. (d : ℕ) → dam_rank rows x ≡ Some d → mark marks (last - d) ≡ 1 in
    record {
      room = omega arith;
      near = λ e m.
          ⊎_elim
          (λ (was : mark chunks e ≡ 1). c.loop-calf.invariant.near e was)
          (λ at. let far = at.2 in omega arith)
          (gives-from last chunks chunks' dam gives e m);
      mates = All-push (IsMated chunks') c.loop-calf.yielded calf
          (All-weaker (IsMated chunks) (IsMated chunks') (λ x marked d e. gives-kept last chunks chunks' dam gives (last - d) (marked d e)) c.loop-calf.yielded c.loop-calf.invariant.mates)
          (λ d e. gives-it last chunks chunks' dam gives d (sym (parents-dam rows calf c.parents.result c.parents.ensures.parents) ∙ e));
    }
