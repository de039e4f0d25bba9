-- `NumberIndex::of`: its loop.
use Rattle.std.proofs.Common.{rules, sym, ap, ◌∙◌, subst, arith, ◌≡◌, ◌+◌, ◌<◌, ◌++◌, ◌∷◌, [], List, ℕ, length, slice_index, slice_set}
use Rattle.std.proofs.lemmas.List.{get_or_default}
use Rattle.herd_frozen.specs.freezing.Frozen.{numbers_of}
use Rattle.herd_frozen.specs.freezing.NumberIndex.{AreBucketed, bucket_of}
use Rattle.herd_frozen.proofs.lemmas.freezing.IndexFacts.{index-more}
use Rattle.herd_frozen.proofs.freezing.number_index.NumberIndex.of.Goals as goal

pub loop-rank-preserved : goal.loop-rank-preserved
loop-rank-preserved g c =
    let numbers : List (List ℕ) = numbers_of c.args.rows.now in
    let rank = c.loop-rank.rank in
    let number : List ℕ = c.number.result.now in
    let bucket = c.bucket_of-bucket.result in
    let lasts = c.loop-rank.lasts.items in
    let wide = c.loop-rank.invariant.bucketed.wide in
    let ok = c.loop-rank.lasts.ok.0 in
    let counted = c.len-in-loop-rank.ensures in
    let count : c.len-in-loop-rank.result ≡ length numbers + 1 = omega (arith, wide, ok, counted) in
    let its : bucket ≡ bucket_of (length numbers + 1) number = c.bucket_of-bucket.ensures.bucket ∙ ap (λ n. bucket_of n number) count in
    let low = c.bucket_of-bucket.ensures.within in
    let within : bucket < length numbers + 1 = omega (arith, low, count) in
    let in_lasts : bucket < length lasts = omega (arith, within, wide) in
    let read : c.index.result.now ≡ slice_index lasts bucket = sym (get_or_default lasts bucket 0 c.index.result.now in_lasts ∙ sym c.index.ensures) in
    let pushed : c.push_reserved.new.self.items ≡ c.loop-rank.earlier.items ++ slice_index lasts bucket ∷ [] = c.push_reserved.ensures.items ∙ ap (λ v. c.loop-rank.earlier.items ++ v ∷ []) read in
    record {
      bucketed =
          subst (λ earlier. AreBucketed numbers (rank + 1) (slice_set lasts bucket (rank + 1)) earlier) (sym pushed)
          (index-more numbers rank number c.number.ensures lasts c.loop-rank.earlier.items bucket its within c.loop-rank.invariant.bucketed);
      room = search rules;
    }
