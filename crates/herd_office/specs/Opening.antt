-- What an office is opened with.
use Rattle.std.specs.Prelude.{◌≡◌, ℕ, ◌+◌, List, [], Some, slice_get}
use Rattle.core.specs.declared.ledger.Ledger as ledger
use Rattle.herd_office.specs.declared.desk.Desk.{Desk}
use Rattle.herd_office.specs.declared.inspector.Inspector.{Inspector}
use Rattle.herd_office.specs.declared.name.OfficeName as office_name

-- desks that are numbered from 1 on, at which nothing was filed
abbrev pub AreFresh : {N : Type 0} {O : office_name.Ghosts N} → List (Desk N O) → Type 0
AreFresh {N} {O} desks = (place : ℕ) (desk : Desk N O) → slice_get desks place ≡ Some desk
    → (desk.number ≡ place + 1) × (desk.answered ≡ 0) × (desk.history ≡ [])

-- inspectors who have seen nothing
abbrev pub HaveSeenNothing : {N : Type 0} {O : office_name.Ghosts N} {L : ledger.Ghosts N}
    → List (Inspector N O L) → Type 0
HaveSeenNothing {N} {O} {L} inspectors = (place : ℕ) (inspector : Inspector N O L)
    → slice_get inspectors place ≡ Some inspector → inspector.history ≡ []
