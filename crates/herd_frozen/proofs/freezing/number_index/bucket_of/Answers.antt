-- `bucket_of`: its clause `bucket`.
use Rattle.std.proofs.Common.{ap, ◌∙◌, ◌*◌, ◌/◌, ◌^◌}
use Rattle.herd_frozen.specs.freezing.NumberIndex.{bucket_of}
use Rattle.herd_frozen.proofs.freezing.number_index.bucket_of.Goals as goal

pub returns-clause-bucket : goal.returns-clause-bucket
unfolding bucket_of
returns-clause-bucket c = ap (λ hash. hash * c.args.buckets / 2 ^ 64) (c.from-hash.ensures ∙ c.hash_of.ensures)
