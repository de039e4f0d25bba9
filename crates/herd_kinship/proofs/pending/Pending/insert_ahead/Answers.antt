-- `Pending::insert_ahead`: its clause `put`.
use Rattle.std.proofs.Common.{ℕ, ◌+◌, ◌*◌, ◌/◌, ◌%◌, ◌^◌, ◌≡◌, ◌<◌, length, set, arith, subst}
use Rattle.std.specs.Int.{w64}
use Rattle.std.proofs.lemmas.List.{get_or_read}
use Rattle.std.proofs.lemmas.Nat.Bits.{bit_at_set_same, bit_at_set_other}
use Rattle.std.specs.Prelude.{bit_or}
use Rattle.herd_kinship.specs.Pending.{Marks}
use Rattle.herd_kinship.proofs.lemmas.numbers.PendingFacts.{marks-chunk}
use Rattle.herd_kinship.proofs.pending.Pending.insert_ahead.Goals as goal

pub returns-clause-put : goal.returns-clause-put
returns-clause-put g c =
    let chunks = c.args.self.now.chunks.items in
    let chunk : ℕ = c.args.distance / 64 in
    let k : ℕ = c.args.distance % 64 in
    let within : chunk < length chunks = (let r = c.requires in omega arith) in
    let small : k < 64 = omega arith in
    let old : ℕ = c.index_mut.result.now in
    let read = get_or_read chunks chunk old within c.index_mut.ensures.value 0 in
    let whole : 64 * chunk + k ≡ c.args.distance = omega arith in
    subst (λ d. Marks chunks (set chunks chunk (bit_or old (1 * 2 ^ k % 2 ^ 64))) d 1) whole
    (marks-chunk chunks chunk k old (bit_or old (1 * 2 ^ k % 2 ^ 64)) 1 within small read (bit_at_set_same w64 old k small)
    (λ i _ apart. bit_at_set_other w64 old k small i apart))
