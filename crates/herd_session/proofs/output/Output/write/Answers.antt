-- An answer more was written or waits, or its writing failed.
use Rattle.std.proofs.Common.{◌≡◌, Bool, Bor, List, ℕ, false, rules, subst, sym}
use Rattle.std.proofs.Math.Logic.{∥∥₁_elim, ∥∥₁_map, ∥∥₁_prop}
use Rattle.std.specs.List.{flat_map}
use Rattle.herd_session.proofs.AnswerFacts.{has_later, has_written}
use Rattle.herd_session.specs.Output.{HasAnswers}
use Rattle.herd_session.proofs.output.Output.write.Goals as goal

pub invariant_of-self : goal.invariant_of-self
invariant_of-self g c =
    let self = c.args.self.now in
    record {
      answers =
          ∥∥₁_map self.answers
          (λ has.
          has_later g.N.OfficeName.limits g.N.SessionName.records self.longest_written.history c.learn.new.self.history self.has_failed
          g.N.SessionName.before (g.W.Write.contents self.writer) self.waiting.items c.learn.ensures.this has);
    }

pub invariant_of-self-2 : goal.invariant_of-self-2
invariant_of-self-2 g c =
    let self = c.args.self.now in
    let limits = g.N.OfficeName.limits in
    let records = g.N.SessionName.records in
    let text = flat_map (λ (piece : Bor (List ℕ)). piece.now) c.args.pieces.now in
    let before = g.N.SessionName.before in
    let now = g.W.Write.contents self.writer in
    let sound : self.has_failed ≡ false = search rules in
    record {
      answers =
          subst (λ (failed : Bool). ∥ HasAnswers limits records c.learn.new.self.history failed before (g.W.Write.contents c.write_pieces-written.new.writer) c.write_pieces-written.new.waiting.items ∥₁)
          (sym c.is_err.ensures.value)
          (∥∥₁_elim self.answers ∥∥₁_prop
          (λ has.
          ∥∥₁_map c.requires
          (λ told.
          has_written c.write_pieces-written.result limits records self.longest_written.history c.args.of.now.history c.learn.new.self.history before now
          (g.W.Write.contents c.write_pieces-written.new.writer) self.waiting.items text c.write_pieces-written.new.waiting.items
          (subst (λ (f : Bool). HasAnswers limits records self.longest_written.history f before now self.waiting.items) sound has)
          c.learn.ensures.this told c.learn.ensures.that c.write_pieces-written.ensures.ok c.write_pieces-written.ensures.err)));
    }
