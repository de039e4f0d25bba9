-- The slip's history is the journal that was there, which begins with the desk's history, and the desk's step.
use Rattle.std.proofs.Common.{◌<◌, length}
use Rattle.std.proofs.lemmas.Result.{IfOk-weaker}
use mathlib.Core.List.{IsPrefix}
use Rattle.herd_office.specs.Filing.{EndsWith}
use Rattle.herd_office.specs.Standing.{IsFiled, standing}
use Rattle.herd_office.proofs.Stored.{slip_begins, slip_ends, slip_longer}
use Rattle.herd_office.proofs.desk.Desk.file.Goals as goal

pub returns-clause-ends : goal.returns-clause-ends
returns-clause-ends g c =
    let old = standing c.deref_mut.result.now c.args.self.now in
    let new = standing c.file_on-filed.new.inside c.file_on-filed.new.desk in
    IfOk-weaker c.file_on-filed.result (IsFiled g.N.OfficeName.limits c.args.command old new) (λ f. EndsWith f.slip.history old.number c.args.command f.reply)
    (λ f is. slip_ends g.N.OfficeName.limits c.args.command old new f is) c.file_on-filed.ensures.filed

pub returns-clause-begins : goal.returns-clause-begins
returns-clause-begins g c =
    let old = standing c.deref_mut.result.now c.args.self.now in
    let new = standing c.file_on-filed.new.inside c.file_on-filed.new.desk in
    IfOk-weaker c.file_on-filed.result (IsFiled g.N.OfficeName.limits c.args.command old new) (λ f. IsPrefix old.history f.slip.history)
    (λ f is. slip_begins g.N.OfficeName.limits c.args.command old new f is) c.file_on-filed.ensures.filed

pub returns-clause-longer : goal.returns-clause-longer
returns-clause-longer g c =
    let old = standing c.deref_mut.result.now c.args.self.now in
    let new = standing c.file_on-filed.new.inside c.file_on-filed.new.desk in
    IfOk-weaker c.file_on-filed.result (IsFiled g.N.OfficeName.limits c.args.command old new) (λ f. length old.history < length f.slip.history)
    (λ f is. slip_longer g.N.OfficeName.limits c.args.command old new f is) c.file_on-filed.ensures.filed
