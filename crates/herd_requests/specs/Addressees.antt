-- The request in a record, by whom it is for.
use Rattle.std.specs.Prelude.{◌≡◌, ◌≢◌, ℕ, codes, IfErr, IfOk, Some, None}
use Rattle.csv_records.specs.Fields.{Fields, field}
use Rattle.herd_requests.specs.Questions.{CanBeUnread, IsAskedIn}
use Rattle.herd_requests.specs.Requests.{IsNoNumber, IsNumberOf, command_in}
use Rattle.herd_requests.specs.Tag.{IsTag}
use Rattle.herd_requests.specs.declared.fault.Fault.{Fault as WhyNot}
use Rattle.herd_requests.specs.declared.fault.Fault.TheVariants as fault
use Rattle.herd_requests.specs.declared.request.Request.{Request}
use Rattle.herd_requests.specs.declared.request.Request.TheVariants.{Desk, Inspector, Nobody}

-- why a record with a tag is for nobody
abbrev pub IsForNobody : ℕ → ℕ → Fields → WhyNot → Type 0
IsForNobody desks inspectors fields fault.Addressee =
    (field 1 fields ≢ codes "desk") × (field 1 fields ≢ codes "inspector")
IsForNobody desks inspectors fields fault.NoDesk =
    (field 1 fields ≡ codes "desk") × IsNoNumber (field 2 fields) desks
IsForNobody desks inspectors fields fault.NoInspector =
    (field 1 fields ≡ codes "inspector") × IsNoNumber (field 2 fields) inspectors
IsForNobody desks inspectors fields other = ⊥

-- the request in a record, where there are so many desks and inspectors
abbrev pub IsRequestIn : ℕ → ℕ → Fields → Request → Type 0
IsRequestIn desks inspectors fields (Desk place asked) =
    (field 0 fields ≡ asked.tag) × (field 1 fields ≡ codes "desk") × IsNumberOf (field 2 fields) desks place
    × (asked.wanted ≡ command_in fields)
IsRequestIn desks inspectors fields (Inspector place asked) =
    (field 0 fields ≡ asked.tag) × (field 1 fields ≡ codes "inspector")
    × IsNumberOf (field 2 fields) inspectors place
    × IfOk asked.wanted (IsAskedIn fields) × IfErr asked.wanted (CanBeUnread fields)
IsRequestIn desks inspectors fields (Nobody (Some tag) why) =
    (field 0 fields ≡ tag) × IsForNobody desks inspectors fields why
IsRequestIn desks inspectors fields (Nobody None why) = (IsTag (field 0 fields) → ⊥) × (why ≡ fault.Tag)
