-- `sort_out`: its loop begins with no number.
use Rattle.std.proofs.Common.{append-nil, rules, sym}
use Rattle.herd_report.proofs.lemmas.writing.RelationshipFacts.{asked_nothing}
use Rattle.herd_report.proofs.writing.relationship_list.sort_out.Goals as goal

pub loop-number-init : goal.loop-number-init
loop-number-init g c = record { text = sym (append-nil c.args.text.now); asked = asked_nothing c.args.frozen.now _ (search rules) }
