-- `write_digests`: its loop.
use Rattle.std.proofs.Common.{[], get_or}
use Rattle.std.proofs.lemmas.Option.{slice_get-get_or}
use Rattle.herd_text.proofs.lemmas.Exits.{on_err}
use Rattle.herd_text.proofs.lemmas.Pieces.{holds_element, holds_made, some_left}
use Rattle.herd_text.proofs.lemmas.TextFacts.{front_passed, front_waiting, holds_passed}
use Rattle.std.specs.List.{flat_map}
use Rattle.herd_certificate.proofs.PartFacts.{some_digest_line}
use Rattle.herd_seal.specs.CertificateText.{digest_line}
use Rattle.herd_certificate.proofs.certificate.write_digests.Goals as goal

pub loop-digest-init : goal.loop-digest-init
loop-digest-init g c = holds_made _ c.args.text.now (flat_map digest_line c.args.digests.now)

pub returns-in_err-pass_on-clause-err : goal.returns-in_err-pass_on-clause-err
returns-in_err-pass_on-clause-err g c = on_err c.from_residual.result (front_waiting c.loop-digest.invariant c.in_err-pass_on.ensures.err)

pub returns-in_err-push_digest_line-clause-err : goal.returns-in_err-push_digest_line-clause-err
returns-in_err-push_digest_line-clause-err g c =
    let digests = c.args.digests.now in
    let at = c.loop-digest.digest-index in
    let digest = get_or digests at [] in
    let there = slice_get-get_or digests at [] c.loop-digest-test.true in
    let some = some_left digest_line digests at digest there (some_digest_line digest) in
    on_err c.from_residual-in_err-push_digest_line.result (front_passed (holds_passed c.loop-digest.invariant c.in_ok-pass_on.ensures.ok) some)

pub loop-digest-preserved : goal.loop-digest-preserved
loop-digest-preserved g c =
    let digests = c.args.digests.now in
    let at = c.loop-digest.digest-index in
    let digest = get_or digests at [] in
    let there = slice_get-get_or digests at [] c.loop-digest-test.true in
    holds_element digest_line digests at digest (holds_passed c.loop-digest.invariant c.in_ok-pass_on.ensures.ok) there c.in_ok-push_digest_line.ensures
