-- What is written of a command file, and how that may end.
use Rattle.std.specs.Prelude.{◌≡◌, ◌⊎◌, ◌<◌, ℕ, List, [], ⊤, IfSome, Option, Some, None, true, false, length}
use Rattle.std.specs.Io.KnownBytes.{Appends}
use Rattle.herd_certificate.specs.Sealed.{seal_text}
use Rattle.herd_frozen.specs.rules.Book.{Book, is_there}
use Rattle.herd_frozen.specs.freezing.Frozen.{IsFrozenFrom, book_of}
use Rattle.herd_frozen.specs.declared.TheConstants.{DEPTH_LIMIT, MOST_ANIMALS}
use Rattle.herd_frozen.specs.declared.freezing.frozen.Row.{Row}
use Rattle.herd_pedigree.specs.Part.{IsFrozenPart}
use Rattle.herd_register.specs.Run.{run_book}
use Rattle.herd_register.specs.declared.command.Command.{Command}
use Rattle.herd_register.specs.Limits.{Limits}
use Rattle.herd_advice.specs.FrozenAncestry.{ancestry_of}
use Rattle.herd_kinship.specs.Table.{coefficient}
use Rattle.herd_report.specs.writing.Certificate.{certificates_of}
use Rattle.herd_command_file.specs.CommandFile.{CommandFile, IsRead, IsReadUpTo, commands}
use Rattle.herd_command_file.specs.Filing.{filed_from}
use Rattle.herd_report.specs.writing.InbreedingList.{inbreeding_text}
use Rattle.herd_report.specs.writing.InverseList.{inverse_text}
use Rattle.herd_report.specs.writing.MatingList.{mating_text}
use Rattle.herd_report.specs.writing.RecordList.{records_text}
use Rattle.herd_report.specs.writing.Registered.{are_there}
use Rattle.herd_report.specs.writing.RelationshipList.{relationships_text}
use Rattle.herd_sealed_report.specs.SealedCertificate.{sealed_text}
use Rattle.herd_text.specs.Text.{AppendsFront}
use Rattle.herd_report.specs.writing.Replies.{replies_text}
use Rattle.herd_command_file.specs.declared.line_fault.LineFault.{LineFault}
use Rattle.herd_orders.specs.declared.orders.Order.{Order}
use Rattle.herd_orders.specs.declared.orders.Order.TheVariants.{Inbreeding, Certificates, Mating, Inverse, Relationships, Records, Seal, Sealed}
use Rattle.herd_orders.specs.declared.run_fault.RunFault.{RunFault}
use Rattle.herd_orders.specs.declared.run_fault.RunFault.TheVariants.{Line, NotRegistered, NoThread, Memory, Write}

-- ---- the replies to them

-- the replies to commands, one after the other from the empty book on
abbrev pub replies_to : Limits → List Command → List ℕ
replies_to limits commands = replies_text (filed_from limits [] commands)

-- the file has no fault, and the replies to its commands were written
pub record IsReplied (limits : Limits) (file : CommandFile) (old new : Option (List ℕ)) : Type 0 where
  pub faultless : file.fault ≡ None
  pub written : Appends old new (replies_to limits file.commands)

-- a line fault, or an interruption of the reading, was met after these commands, and the replies to them were written
pub record EndsByLine (limits : Limits) (file : CommandFile) (fault : LineFault)
    (old new : Option (List ℕ)) : Type 0 where
  pub commands : List Command
  pub read : IsRead limits.steps file commands (Some fault)
  pub written : Appends old new (replies_to limits commands)

-- how replying to a file may end early. `Memory` is told while the commands are filed, and then nothing was written, or
-- as `Write` while the replies are written; without commands no memory is needed
abbrev pub EndsReplying : Limits → CommandFile → Option (List ℕ) → Option (List ℕ) → RunFault → Type 0
EndsReplying limits file old new (Line fault) = EndsByLine limits file fault old new
EndsReplying limits file old new NotRegistered = ⊥
EndsReplying limits file old new NoThread = ⊥
EndsReplying limits file old new Memory =
    (0 < length file.commands) × ((new ≡ old) ⊎ AppendsFront old new (replies_to limits file.commands))
EndsReplying limits file old new Write = AppendsFront old new (replies_to limits file.commands)

-- a fault that it can end by, whatever is read
abbrev pub CanEndReplying : RunFault → Type 0
CanEndReplying (Line fault) = ⊤
CanEndReplying NotRegistered = ⊥
CanEndReplying NoThread = ⊥
CanEndReplying Memory = ⊤
CanEndReplying Write = ⊤

-- ---- what is ordered of a frozen book

-- the text that an order wants of the frozen rows of a book, whose journal has so many steps
abbrev pub wanted : Order → ℕ → List Row → List ℕ
wanted (Inbreeding plan) steps rows = inbreeding_text (coefficient (ancestry_of rows) DEPTH_LIMIT) rows
wanted (Certificates numbers) steps rows = certificates_of rows numbers.now
wanted (Mating dam sires) steps rows = mating_text (book_of rows) dam sires.now
wanted Inverse steps rows = inverse_text rows
wanted (Relationships numbers others) steps rows = relationships_text (book_of rows) numbers.now others.now
wanted (Records numbers) steps rows = records_text rows numbers.now
wanted Seal steps rows = seal_text rows steps
wanted (Sealed number) steps rows = sealed_text rows steps number

-- each animal that certificates or records are asked of is in the book
abbrev pub AreThere : Order → Book → Type 0
AreThere (Certificates numbers) book = are_there book numbers.now ≡ true
AreThere (Records numbers) book = are_there book numbers.now ≡ true
AreThere (Sealed number) book = is_there book number ≡ true
AreThere order book = ⊤

-- one of them is not
abbrev pub IsOneAbsent : Order → Book → Type 0
IsOneAbsent (Certificates numbers) book = are_there book numbers.now ≡ false
IsOneAbsent (Records numbers) book = are_there book numbers.now ≡ false
IsOneAbsent (Sealed number) book = is_there book number ≡ false
IsOneAbsent order book = ⊥

-- certificates or records are asked of an animal at least
abbrev pub NamesSome : Order → Type 0
NamesSome (Certificates numbers) = 0 < length numbers.now
NamesSome (Records numbers) = 0 < length numbers.now
NamesSome (Sealed number) = ⊤
NamesSome order = ⊥

-- the order is for work that more than one worker share
abbrev pub IsShared : Order → Type 0
IsShared (Inbreeding plan) = 1 < plan.workers
IsShared order = ⊥

-- a fault that an order can end by, whatever is read
abbrev pub CanEndBy : Order → RunFault → Type 0
CanEndBy order (Line fault) = ⊤
CanEndBy order NotRegistered = NamesSome order
CanEndBy order NoThread = IsShared order
CanEndBy order Memory = ⊤
CanEndBy order Write = ⊤

-- the animals that must be there are in the frozen book, and what the order wants of it was written
pub record IsReported (order : Order) (steps : ℕ) (rows : List Row) (old new : Option (List ℕ)) : Type 0 where
  pub there : AreThere order (book_of rows)
  pub written : Appends old new (wanted order steps rows)

-- how that may end early: `NotRegistered` comes first, then `NoThread` or `Memory` while coefficients are computed,
-- then `Memory` or `Write` while the text is written
abbrev pub EndsReporting : Order → ℕ → List Row → Option (List ℕ) → Option (List ℕ) → RunFault → Type 0
EndsReporting order steps rows old new (Line fault) = ⊥
EndsReporting order steps rows old new NotRegistered = IsOneAbsent order (book_of rows) × (new ≡ old)
EndsReporting order steps rows old new NoThread = IsShared order × (new ≡ old)
EndsReporting order steps rows old new Memory =
    AreThere order (book_of rows) × ((new ≡ old) ⊎ AppendsFront old new (wanted order steps rows))
EndsReporting order steps rows old new Write = AreThere order (book_of rows) × AppendsFront old new (wanted order steps rows)

-- ---- what is ordered of the book of a command file

-- frozen rows of a book that suffice for an order: for certificates those of the animals of which they are asked and of
-- their ancestors, else all
abbrev pub SufficeFor : Order → Book → List Row → Type 0
SufficeFor (Certificates numbers) book rows = IsFrozenPart DEPTH_LIMIT MOST_ANIMALS book numbers.now rows
SufficeFor order book rows = IsFrozenFrom DEPTH_LIMIT MOST_ANIMALS book rows

-- the file has no fault, these frozen rows of its book suffice for an order, and its journal has so many steps, one for
-- each command
pub record IsFrozenFile (limits : Limits) (order : Order) (file : CommandFile) (steps : ℕ)
    (rows : List Row) : Type 0 where
  pub faultless : file.fault ≡ None
  pub steps_are : steps ≡ length file.commands
  pub frozen : SufficeFor order (run_book limits file.commands) rows

-- a text that an order wants of the book of commands passes a test
pub record IsReport (limits : Limits) (order : Order) (commands : List Command)
    (Passes : List ℕ → Type 0) : Type 0 where
  pub rows : List Row
  pub frozen : IsFrozenFrom DEPTH_LIMIT MOST_ANIMALS (run_book limits commands) rows
  pub passes : Passes (wanted order (length commands) rows)

-- the file has no fault, the animals that must be there are in the book, and what the order wants was written
pub record IsAnswered (limits : Limits) (order : Order) (file : CommandFile) (old new : Option (List ℕ)) : Type 0 where
  pub faultless : file.fault ≡ None
  pub there : AreThere order (run_book limits file.commands)
  pub written : IsReport limits order file.commands (Appends old new)

-- what the order wants was written, but for some of its end
pub record StopsWriting (limits : Limits) (order : Order) (file : CommandFile)
    (old new : Option (List ℕ)) : Type 0 where
  pub there : AreThere order (run_book limits file.commands)
  pub front : IsReport limits order file.commands (AppendsFront old new)

-- how a run may end early. The faults come in this order: `Line`; `Memory` while the commands are filed or the book is
-- frozen; `NotRegistered`; `NoThread` or `Memory` while coefficients are computed; `Memory` or `Write` while the text is
-- written
abbrev pub EndsBy : Limits → Order → CommandFile → Option (List ℕ) → Option (List ℕ) → RunFault → Type 0
EndsBy limits order file old new (Line fault) = IsReadUpTo limits.steps file (Some fault) × (new ≡ old)
EndsBy limits order file old new NotRegistered =
    (file.fault ≡ None) × IsOneAbsent order (run_book limits file.commands) × (new ≡ old)
EndsBy limits order file old new NoThread = IsShared order × (file.fault ≡ None) × (new ≡ old)
EndsBy limits order file old new Memory =
    (file.fault ≡ None) × ((new ≡ old) ⊎ StopsWriting limits order file old new)
EndsBy limits order file old new Write = (file.fault ≡ None) × StopsWriting limits order file old new

-- where the bytes of the command file are known, what the order wants of them was written
abbrev pub AnswersIfKnown : Limits → Order → Option (List ℕ) → Option (List ℕ) → Option (List ℕ) → Type 0
AnswersIfKnown limits order known old new =
    IfSome known (λ bytes. IsAnswered limits order (commands bytes limits.steps) old new)

-- where the bytes of the command file are known, how a run over them may end early
abbrev pub EndsIfKnown : Limits → Order → Option (List ℕ) → Option (List ℕ) → Option (List ℕ) → RunFault → Type 0
EndsIfKnown limits order known old new fault =
    IfSome known (λ bytes. EndsBy limits order (commands bytes limits.steps) old new fault)

-- how a run over a command file may end before anything is written, whatever is ordered
abbrev pub EndsUnwritten : Limits → CommandFile → RunFault → Type 0
EndsUnwritten limits file fault = (order : Order) (text : Option (List ℕ)) → EndsBy limits order file text text fault
