-- What holds where a call hands a fault on by `?`.
use Rattle.std.proofs.Common.{◌≡◌, inr, ℕ, List, Option, Result, Ok, Err, subst, sym}
use Rattle.std.specs.Prelude.{IfErr, IsErrAnd, OnErr}
use Rattle.herd_text.specs.Text.{AppendsFront, EndsReport}
use Rattle.herd_text.specs.declared.report_fault.ReportFault.{ReportFault}
use Rattle.herd_text.specs.declared.report_fault.ReportFault.TheVariants as report

-- what holds anyway holds on an error
pub on_err : {T E P : Type 0} (result : Result T E) → P → OnErr result P
on_err (Ok value) holds = tt
on_err (Err fault) holds = holds

-- what holds of the fault that is handed on
pub if_err : {T E : Type 0} (result : Result T E) (P : E → Type 0) (told : E) → IsErrAnd result (λ fault. fault ≡ told) → P told → IfErr result P
if_err (Ok value) P told is holds = tt
if_err (Err fault) P told is holds = subst P (sym is) holds

-- where a front of a report was written, that is how it ended early
pub ends_report : (old new : Option (List ℕ)) (text : List ℕ) (fault : ReportFault) → AppendsFront old new text → EndsReport old new text fault
ends_report old new text report.Write front = front
ends_report old new text report.Memory front = inr front

pub ends_front : {T : Type 0} (result : Result T ReportFault) (old new : Option (List ℕ)) (text : List ℕ) → OnErr result (AppendsFront old new text) → IfErr result (EndsReport old new text)
ends_front (Ok value) old new text front = tt
ends_front (Err fault) old new text front = ends_report old new text fault front
