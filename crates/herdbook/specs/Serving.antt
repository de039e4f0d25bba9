-- How a request is served with the bytes of a command file, of a pedigree file, or of requests, and how it may end.
use Rattle.std.specs.Prelude.{◌≡◌, ℕ, true, false, List, Option, Some}
use Rattle.herd_command_file.specs.CommandFile.{commands}
use Rattle.herd_orders.specs.RunFault.{run_fault_of}
use Rattle.herd_orders.specs.Run.{CanEndBy, CanEndReplying, EndsBy, EndsReplying, IsAnswered, IsReplied}
use Rattle.herd_pedigree_report.specs.PedigreeReport.{CanEndBy as CanEndPedigreeBy, EndsBy as EndsPedigreeBy, IsAnswered as IsPedigreeAnswered}
use Rattle.herd_session.specs.Closing.{EndsBy as EndsSessionBy, IsClosedSession}
use Rattle.herd_requests.specs.Requests.{records_in}
use Rattle.herd_seal.specs.Answer.{EndsTelling, IsTold}
use Rattle.herd_clerks.specs.Clerks.{EndsClerks, IsFiledBy}
use Rattle.herd_command_line.specs.declared.arguments.Request.{Request}
use Rattle.herd_command_line.specs.declared.arguments.Request.TheVariants as request
use Rattle.herdbook.specs.Clerks.{fault_of_clerks}
use Rattle.herdbook.specs.Pedigrees.{fault_of_pedigree}
use Rattle.herdbook.specs.Sessions.{fault_of_session}
use Rattle.herdbook.specs.Telling.{CanEndOffice, Tells}
use Rattle.herdbook.specs.declared.ending.Ending.{Ending}
use Rattle.herdbook.specs.declared.ending.Ending.TheVariants.{Done, Refused, Early}
use Rattle.herdbook.specs.declared.request_fault.RequestFault.{RequestFault}
use Rattle.herdbook.specs.declared.request_fault.RequestFault.TheVariants.{Run, Pedigree, NoPlace}

-- what a request asks for was carried out on the bytes of a command file, of a pedigree file, or of requests
abbrev pub IsServed : Request → List ℕ → Option (List ℕ) → Option (List ℕ) → Type 0
IsServed (request.File book) bytes old new = IsReplied book.limits (commands bytes book.limits.steps) old new
IsServed (request.Report book order) bytes old new = IsAnswered book.limits order (commands bytes book.limits.steps) old new
IsServed (request.Check plan) bytes old new = IsTold plan.seal bytes old new true
IsServed (request.Pedigree plan order) bytes old new = IsPedigreeAnswered plan.animals order bytes old new
IsServed (request.Clerks book plan) bytes old new =
    IsFiledBy book.limits plan.desks plan.base (commands bytes book.limits.steps) old new
IsServed (request.Session plan) bytes old new =
    ∥ IsClosedSession plan.limits (records_in (Some bytes)) old new ∥₁

-- a certificate was refused
abbrev pub IsRefusedBy : Request → List ℕ → Option (List ℕ) → Option (List ℕ) → Type 0
IsRefusedBy (request.Check plan) bytes old new = IsTold plan.seal bytes old new false
IsRefusedBy request bytes old new = ⊥

-- and can be
abbrev pub CanRefuse : Request → Type 0
CanRefuse (request.Check plan) = Unit {0}
CanRefuse request = ⊥

-- how it may end early
abbrev pub EndsServing : Request → List ℕ → Option (List ℕ) → Option (List ℕ) → RequestFault → Type 0
EndsServing (request.File book) bytes old new (Run fault) =
    EndsReplying book.limits (commands bytes book.limits.steps) old new fault
EndsServing (request.File book) bytes old new (Pedigree fault) = ⊥
EndsServing (request.File book) bytes old new NoPlace = ⊥
EndsServing (request.Report book order) bytes old new (Run fault) =
    EndsBy book.limits order (commands bytes book.limits.steps) old new fault
EndsServing (request.Report book order) bytes old new (Pedigree fault) = ⊥
EndsServing (request.Report book order) bytes old new NoPlace = ⊥
EndsServing (request.Check plan) bytes old new fault =
    Tells (λ cause. Run (run_fault_of cause)) (EndsTelling plan.seal bytes old new) fault
EndsServing (request.Pedigree plan order) bytes old new fault =
    Tells fault_of_pedigree (EndsPedigreeBy plan.animals order bytes old new) fault
EndsServing (request.Clerks book plan) bytes old new fault =
    Tells fault_of_clerks (EndsClerks book.limits plan.desks plan.base (commands bytes book.limits.steps) old new) fault
EndsServing (request.Session plan) bytes old new fault =
    Tells fault_of_session (λ cause. ∥ EndsSessionBy plan.limits (records_in (Some bytes)) old new cause ∥₁) fault

-- the faults that it can end by, whatever is read
abbrev pub CanEndServing : Request → RequestFault → Type 0
CanEndServing (request.File book) (Run fault) = CanEndReplying fault
CanEndServing (request.File book) (Pedigree fault) = ⊥
CanEndServing (request.File book) NoPlace = ⊥
CanEndServing (request.Report book order) (Run fault) = CanEndBy order fault
CanEndServing (request.Report book order) (Pedigree fault) = ⊥
CanEndServing (request.Report book order) NoPlace = ⊥
CanEndServing (request.Check plan) fault = Tells (λ cause. Run (run_fault_of cause)) (λ _. Unit {0}) fault
CanEndServing (request.Pedigree plan order) fault = Tells fault_of_pedigree (CanEndPedigreeBy order) fault
CanEndServing (request.Clerks book plan) fault = CanEndOffice fault
CanEndServing (request.Session plan) fault = CanEndOffice fault

-- what a request asks for was done with these bytes, or it was refused, or ended early
abbrev pub EndsRequest : Request → List ℕ → Option (List ℕ) → Option (List ℕ) → Ending → Type 0
EndsRequest request bytes old new Done = IsServed request bytes old new
EndsRequest request bytes old new Refused = IsRefusedBy request bytes old new
EndsRequest request bytes old new (Early fault) = EndsServing request bytes old new fault
EndsRequest request bytes old new ending = ⊥

-- the ends that a request leaves open, whatever is read
abbrev pub CanEndRequest : Request → Ending → Type 0
CanEndRequest request Done = Unit {0}
CanEndRequest request Refused = CanRefuse request
CanEndRequest request (Early fault) = CanEndServing request fault
CanEndRequest request ending = ⊥
