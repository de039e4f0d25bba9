-- `Pending::take_nearest`: its clauses `found`, `nearest`, `taken` and `empty`.
use Rattle.std.proofs.Common.{ℕ, List, ◌+◌, ◌*◌, ◌<◌, ◌≤◌, ◌≡◌, ⊎_elim, length, set, arith, ap, subst}
use Rattle.std.proofs.lemmas.Bool.{cases_lt}
use Rattle.herd_kinship.specs.Pending.{mark}
use Rattle.std.proofs.lemmas.List.{get_or_read}
use Rattle.herd_kinship.proofs.lemmas.numbers.PendingFacts.{IsNearest, nearest-cleared}
use Rattle.herd_kinship.proofs.pending.Pending.take_nearest.Given.{Over}
use Rattle.herd_kinship.proofs.pending.Pending.take_nearest.Goals.{After-without_lowest-lowest}
use Rattle.herd_kinship.proofs.pending.Pending.take_nearest.Goals as goal

-- what is found is the nearest distance of the set as it was, which the search has left as it is
nearest : (g : Over) (c : After-without_lowest-lowest g) →
    IsNearest c.args.self.now.chunks.items (set c.loop-self.self.chunks.items c.loop-self.self.first c.without_lowest-lowest.result.1)
    (64 * c.loop-self.self.first + c.without_lowest-lowest.result.0)
nearest g c =
    let chunks : List ℕ = c.loop-self.self.chunks.items in
    let first : ℕ = c.loop-self.self.first in
    let rest : ℕ = c.without_lowest-lowest.result.1 in
    let k : ℕ = c.without_lowest-lowest.result.0 in
    let within : first < length chunks = (let test = c.loop-self-test.true in let same = ap length c.loop-self.invariant in let room = c.loop-self.self.end_within in omega arith) in
    subst (λ old. IsNearest old (set chunks first rest) (64 * first + k)) c.loop-self.invariant
    (nearest-cleared chunks first c.index-chunk.result.now rest k within (get_or_read chunks first c.index-chunk.result.now within c.index-chunk.ensures 0)
    c.without_lowest-lowest.ensures c.loop-self.self.none_before)

pub returns-then-chunk-gt0-clause-found : goal.returns-then-chunk-gt0-clause-found
returns-then-chunk-gt0-clause-found g c = (nearest g (goal.at.returns-then-chunk-gt0-clause-found g c).After-without_lowest-lowest).found

pub returns-then-chunk-gt0-clause-nearest : goal.returns-then-chunk-gt0-clause-nearest
returns-then-chunk-gt0-clause-nearest g c = (nearest g (goal.at.returns-then-chunk-gt0-clause-nearest g c).After-without_lowest-lowest).nearest

pub returns-then-chunk-gt0-clause-taken : goal.returns-then-chunk-gt0-clause-taken
returns-then-chunk-gt0-clause-taken g c = (nearest g (goal.at.returns-then-chunk-gt0-clause-taken g c).After-without_lowest-lowest).taken

-- no bit is before the first chunk, or from the end on
pub returns-clause-empty : goal.returns-clause-empty
returns-clause-empty g c = λ distance.
    let end = c.loop-self-test.false in
    subst (λ xs. mark xs distance ≡ 0) c.loop-self.invariant
    (⊎_elim
    (λ (before : distance < 64 * c.loop-self.self.first). c.loop-self.self.none_before distance before)
    (λ (behind : 64 * c.loop-self.self.first ≤ distance). c.loop-self.self.none_behind distance (omega (arith, behind, end)))
    (cases_lt distance (64 * c.loop-self.self.first)))
