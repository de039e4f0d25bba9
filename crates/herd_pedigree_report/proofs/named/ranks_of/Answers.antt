-- `ranks_of`: one more rank; and a name that tells none.
use Rattle.std.proofs.Common.{◌∙◌, ◌≡◌, ◌<◌, ℕ, ◌++◌, ◌∷◌, [], ap, get_or, sym, None, Some}
use Rattle.std.proofs.lemmas.List.Elements.{All-push}
use Rattle.herd_pedigree_report.proofs.lemmas.NamedFacts.{ranks_more, there_more}
use Rattle.herd_pedigree_report.proofs.named.ranks_of.Goals as goal

pub loop-animal-preserved : goal.loop-animal-preserved
loop-animal-preserved g c =
    let named = c.args.named.now in
    let place = c.loop-animal.animal-index in
    let is : get_or named place None ≡ Some c.in_ok-rank.rank = c.in_ok-rank.ensures.rank.0 in
    record {
      ranks = c.in_ok-add_rank.ensures ∙ ap (λ ranks. ranks ++ c.in_ok-rank.rank ∷ []) c.loop-animal.invariant.ranks
          ∙ sym (ranks_more named place c.in_ok-rank.rank None c.loop-animal-test.true is);
      there = there_more c.args.animals named place c.in_ok-rank.rank None c.loop-animal-test.true is c.in_ok-rank.ensures.rank.1 c.loop-animal.invariant.there;
      within = rw c.in_ok-add_rank.ensures (All-push (λ (rank : ℕ). rank < c.args.animals) c.loop-animal.ranks.items c.in_ok-rank.rank c.loop-animal.invariant.within c.in_ok-rank.ensures.rank.1);
    }
