use Rattle.herd_record_line.proofs.CutFacts.{if_none}
use Rattle.herd_seal.proofs.ReadingFacts.{no_digest, not_both, other_digest}
use Rattle.herd_seal.proofs.fields.read_digest.Goals as goal

pub returns-in_err-digest-clause-none : goal.returns-in_err-digest-clause-none
returns-in_err-digest-clause-none c =
    if_none c.from_residual.result _ (no_digest c.args.text.now c.from_hex.result c.ok.result c.from_hex.ensures c.ok.ensures.value c.in_err-digest.was)

pub returns-else-is_written-clause-none : goal.returns-else-is_written-clause-none
returns-else-is_written-clause-none c =
    other_digest c.args.text.now c.in_ok-digest.digest c.from_hex.result c.ok.result c.from_hex.ensures c.ok.ensures.value c.in_ok-digest.was
    (λ same. not_both _ (c.is_written.ensures.written.1 same) c.if-is_written.false)
