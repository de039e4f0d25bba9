use Rattle.std.proofs.Common.{◌≡◌, ◌∙◌, inr, ◌+◌, ◌++◌, ◌∷◌, [], List, ℕ, length, sym, subst, arith, length-append, ap}
use Rattle.std.specs.List.{All}
use Rattle.std.proofs.lemmas.List.Elements.{All-append, All-cons, All-nil}
use Rattle.merkle_tree.specs.Tree.{IsDigest}
use Rattle.herd_seal.specs.CheckFaults.{at_row}
use Rattle.herd_seal.specs.Reading.{IsDigestText}
use Rattle.herd_seal.specs.declared.check_fault.CheckCause.TheVariants.{Digests}
use Rattle.herd_seal.proofs.ReadingFacts.{first_line}
use Rattle.herd_seal.proofs.TextFacts.{digests_more}
use Rattle.herd_seal.proofs.reading.read_digests.Goals as goal

pub loop-rest-preserved : goal.loop-rest-preserved
loop-rest-preserved g c =
    let before = c.loop-rest.digests.items in
    let digest = c.in-Some-read_digest.digest in
    let grown = c.in_ok-push.ensures.items in
    let long = ap (λ (l : List (List ℕ)). length l) grown in
    let more = length-append before (digest ∷ []) in
    let few = c.loop-rest.invariant.few in
    let shorter = c.in-Some.ensures.shorter in
    record {
      joined = digests_more before c.push.new.self.items digest c.in-Some.line.now c.in-Some.behind.now c.loop-rest.rest.now c.args.text.now
          c.loop-rest.invariant.joined c.in-Some.ensures.joined c.in-Some-read_digest.ensures.written grown;
      written = subst (λ (l : List (List ℕ)). All IsDigest l) {x = before ++ (digest ∷ [])} {y = c.push.new.self.items} (sym grown)
          (All-append IsDigest before (digest ∷ []) c.loop-rest.invariant.written
          (All-cons IsDigest digest [] c.in-Some-read_digest.ensures.digest (All-nil IsDigest)));
      few = omega (arith, long, more, few, shorter);
    }

pub returns-in_default-read_digest-clause-fault : goal.returns-in_default-read_digest-clause-fault
returns-in_default-read_digest-clause-fault g c =
    let each = c.len-in_default-read_digest.ensures in
    let held = c.loop-rest.digests.ok in
    let sum = c.saturating_add-in_default-read_digest.ensures in
    let few = c.loop-rest.invariant.few in
    let room = c.requires.few in
    let shorter = c.in-Some.ensures.shorter in
    let long : c.saturating_add-in_default-read_digest.result ≡ c.args.rows + length c.loop-rest.digests.items =
    omega (arith, each, held, sum, few, room) in
    inr (
      c.loop-rest.digests.items,
      c.loop-rest.rest.now,
      c.at_row-in_default-read_digest.ensures.fault (omega (arith, long, few, room)) ∙ ap (λ (n : ℕ). at_row Digests n) long,
      c.loop-rest.invariant.written,
      c.loop-rest.invariant.joined,
      (λ none. let nothing = ap (λ (l : List ℕ). length l) none in absurd (omega (arith, nothing, shorter))),
      (λ has. c.in_default-read_digest.ensures.none
          (first_line {P = IsDigestText} c.in-Some.line.now c.in-Some.behind.now c.loop-rest.rest.now c.in-Some.ensures.joined c.in-Some.ensures.plain has)),
    )
