-- What a run writes, and how it ends.
use Rattle.std.proofs.Common.{◌&&◌, ap₂, ◌≡◌, inl, inr, ℕ, ◌+◌, ◌<◌, arith, true, false, MatchBool, Option, Some, None, Result, List, [], ◌∷◌, ◌++◌, refl, ap, sym, subst, ◌∙◌, ⊎_elim, append_assoc, append-nil, length, length-append}
use Rattle.std.proofs.lemmas.List.Sorted.{IsPermutation-sym}
use Rattle.std.proofs.lemmas.Result.{IfErr-weaker}
use Rattle.std.specs.Prelude.{IfErr, is_some}
use Rattle.std.specs.Io.KnownBytes.{Appends}
use Rattle.herd_frozen.specs.rules.Book.{Book, is_there}
use Rattle.herd_frozen.specs.freezing.Frozen.{IsFrozenFrom, book_of}
use Rattle.herd_frozen.specs.declared.TheConstants.{DEPTH_LIMIT, MOST_ANIMALS}
use Rattle.herd_frozen.specs.declared.freezing.frozen.Row.{Row}
use Rattle.herd_frozen.proofs.lemmas.rules.PermutedFacts.{record_of-permuted}
use Rattle.herd_register.specs.Register.{Register}
use Rattle.herd_register.specs.Register.{register_book}
use Rattle.herd_register.specs.Run.{book_after, run_book}
use Rattle.herd_register.specs.declared.command.Command.{Command}
use Rattle.herd_register.specs.Limits.{Limits}
use Rattle.herd_register.specs.declared.step.Step.{Step}
use Rattle.herd_command_file.specs.CommandFile.{CommandFile, IsRead, IsReadBefore, commands_from}
use Rattle.herd_command_file.specs.LineCause.{is_interruption}
use Rattle.herd_text.specs.Text.{AppendsFront}
use Rattle.herd_report.specs.writing.Registered.{are_there}
use Rattle.herd_report.specs.writing.Replies.{reply_line, reply_lines_from, replies_text}
use Rattle.herd_orders.specs.Run.{CanEndBy, EndsBy, EndsReplying, EndsReporting, IsOneAbsent, IsAnswered, IsFrozenFile, IsReport, IsReported, AreThere, SufficeFor, replies_to, wanted}
use Rattle.herd_command_file.specs.Filing.{HasFiled, filed_from}
use Rattle.herd_command_file.proofs.FilingFacts.{book_of-filed, filed_from-append, length-filed}
use Rattle.herd_orders.specs.RunFault.{run_fault_of}
use Rattle.herd_command_file.specs.declared.line_fault.LineFault.{LineFault}
use Rattle.herd_text.specs.declared.report_fault.ReportFault.{ReportFault}
use Rattle.herd_text.specs.declared.report_fault.ReportFault.TheVariants as report
use Rattle.herd_orders.specs.declared.orders.Order.{Order}
use Rattle.herd_orders.specs.declared.orders.Order.TheVariants.{Inbreeding, Certificates, Mating, Inverse, Relationships, Records, Seal, Sealed}
use Rattle.herd_orders.specs.declared.run_fault.RunFault.{RunFault}
use Rattle.herd_orders.specs.declared.run_fault.RunFault.TheVariants.{Line, NotRegistered, NoThread, Memory, Write}
use Rattle.herd_frozen.proofs.lemmas.freezing.ExistsFacts.{frozen-exists}
use Rattle.herd_report.proofs.lemmas.PartFacts.{are_there-part, certificates-part}
use Rattle.herd_text.proofs.lemmas.TextFacts.{passes_before, some_before}

-- ---- their replies

-- the lines of more steps come after those of the first ones
pub reply_lines_from-append : (serial : ℕ) (first rest : List Step) →
    reply_lines_from serial (first ++ rest) ≡ reply_lines_from serial first ++ reply_lines_from (serial + length first) rest
reply_lines_from-append serial [] rest = let e : serial ≡ serial + 0 = omega arith in ap (λ n. reply_lines_from n rest) e
reply_lines_from-append serial (step ∷ first) rest =
    let line : List ℕ = reply_line serial step.reply in
    let e : (serial + 1) + length first ≡ serial + length (step ∷ first) = omega arith in
    ap (λ t. line ++ t) (reply_lines_from-append (serial + 1) first rest)
    ∙ sym (append_assoc line (reply_lines_from (serial + 1) first) (reply_lines_from ((serial + 1) + length first) rest))
    ∙ ap (λ n. (line ++ reply_lines_from (serial + 1) first) ++ reply_lines_from n rest) e

-- the replies to more commands come after those to the first ones
pub replies_to-append : (limits : Limits) (first rest : List Command) → (more : List ℕ) × (replies_to limits (first ++ rest) ≡ replies_to limits first ++ more)
replies_to-append limits first rest =
    let steps = filed_from limits [] first in
    let later = filed_from limits (book_after limits [] first) rest in
    (reply_lines_from (1 + length steps) later, ap replies_text (filed_from-append limits [] first rest) ∙ reply_lines_from-append 1 steps later)

-- a front of a text is one of a longer text
pub longer_text : (old new : Option (List ℕ)) (text more : List ℕ) → AppendsFront old new text → AppendsFront old new (text ++ more)
longer_text old new text more front = record { rest = front.rest ++ more; left = some_before front.rest more front.left; passed = passes_before more front.passed }

-- ---- a file that is read and filed

-- commands that were read are the first of the file's
pub first_commands : (most : ℕ) (file : CommandFile) (list : List Command) (fault : Option LineFault) → IsRead most file list fault →
    (rest : List Command) × (file.commands ≡ list ++ rest)
first_commands most file list None read = ([], sym read.0 ∙ sym (append-nil list))
first_commands most file list (Some fault) read =
    elim (is_interruption fault.cause) as (λ b. MatchBool b (IsReadBefore most fault.record_number list file) ((list ≡ file.commands) × (file.fault ≡ Some fault)) → (rest : List Command) × (file.commands ≡ list ++ rest)) [
      | true ↦ λ before. ⊎_elim (λ none. (file.commands, sym (ap (λ l. l ++ file.commands) none.1))) (λ some. ((commands_from some.1 most fault.record_number some.2).commands, ap (λ f. f.commands) some.3)) before
      | false ↦ λ all. ([], sym all.0 ∙ sym (append-nil list))
    ] read

-- the frozen rows of a register in which all was filed that a file without a fault has
pub frozen_file : (limits : Limits) (order : Order) (file : CommandFile) (list : List Command) (register : Register) (steps : ℕ) (rows : List Row) →
    IsRead limits.steps file list None → HasFiled limits list register → steps ≡ length register.journal →
    SufficeFor order (register_book register) rows → IsFrozenFile limits order file steps rows
frozen_file limits order file list register steps rows read filed counted frozen = record {
  faultless = read.1;
  steps_are =
      counted ∙ ap (λ (journal : List Step). length journal) filed.journal_is ∙ length-filed limits [] list
      ∙ ap (λ (commands : List Command). length commands) read.0;
  frozen = subst (λ book. SufficeFor order book rows) (book_of-filed limits list register filed ∙ ap (run_book limits) read.0) frozen;
}

-- ---- how replying ends

-- no front of no text leaves some of it
none_left : (old new : Option (List ℕ)) → AppendsFront old new [] → ⊥
none_left old new front =
    let short = ap length front.passed.split in
    absurd (omega (arith, short, front.left, length-append front.passed.front front.rest))

-- a front of the replies to what was read is one of the replies to the file
replies_of_file : (limits : Limits) (file : CommandFile) (list : List Command) (fault : Option LineFault) (old new : Option (List ℕ)) →
    IsRead limits.steps file list fault → AppendsFront old new (replies_to limits list) → AppendsFront old new (replies_to limits file.commands)
replies_of_file limits file list fault old new read front =
    let rest = first_commands limits.steps file list fault read in
    let more = replies_to-append limits list rest.0 in
    subst (λ t. AppendsFront old new t) (sym (ap (replies_to limits) rest.1 ∙ more.1)) (longer_text old new (replies_to limits list) more.0 front)

-- a front of the replies to a file's commands is none of no commands
some_commands : (limits : Limits) (file : CommandFile) (old new : Option (List ℕ)) → AppendsFront old new (replies_to limits file.commands) →
    0 < length file.commands
some_commands limits file old new front =
    elim file.commands as (λ l. AppendsFront old new (replies_to limits l) → 0 < length l) [
      | [] ↦ λ front. absurd (none_left old new front)
      | command ∷ rest ↦ λ front. omega arith
    ] front

-- the writing of the replies ends early
pub stops_replying : (limits : Limits) (file : CommandFile) (list : List Command) (line : Option LineFault) (old new : Option (List ℕ)) (fault : ReportFault) →
    IsRead limits.steps file list line → AppendsFront old new (replies_to limits list) → EndsReplying limits file old new (run_fault_of fault)
stops_replying limits file list line old new report.Write read front = replies_of_file limits file list line old new read front
stops_replying limits file list line old new report.Memory read front =
    let written = replies_of_file limits file list line old new read front in
    (some_commands limits file old new written, inr written)

-- ---- how a run ends, whose report is of a file's frozen book

-- there is a number where one isn't in the book
some_named : (book : Book) (numbers : List (List ℕ)) → are_there book numbers ≡ false → 0 < length numbers
some_named book [] absent = absurd (cc)
some_named book (number ∷ numbers) absent = omega arith

-- only certificates and records are of animals that must be in the book
can_end_reporting : (order : Order) (steps : ℕ) (rows : List Row) (old new : Option (List ℕ)) (fault : RunFault) → EndsReporting order steps rows old new fault → CanEndBy order fault
can_end_reporting order steps rows old new (Line fault) ends = absurd ends
can_end_reporting (Certificates numbers) steps rows old new NotRegistered ends = some_named (book_of rows) numbers.now ends.0
can_end_reporting (Records numbers) steps rows old new NotRegistered ends = some_named (book_of rows) numbers.now ends.0
can_end_reporting (Sealed number) steps rows old new NotRegistered ends = tt
can_end_reporting (Inbreeding plan) steps rows old new NotRegistered ends = absurd ends.0
can_end_reporting (Mating dam sires) steps rows old new NotRegistered ends = absurd ends.0
can_end_reporting Inverse steps rows old new NotRegistered ends = absurd ends.0
can_end_reporting (Relationships numbers others) steps rows old new NotRegistered ends = absurd ends.0
can_end_reporting Seal steps rows old new NotRegistered ends = absurd ends.0
can_end_reporting order steps rows old new NoThread ends = ends.0
can_end_reporting order steps rows old new Memory ends = tt
can_end_reporting order steps rows old new Write ends = tt

-- who is in a frozen book is in the book that was frozen
there-frozen : (book : Book) (rows : List Row) (number : List ℕ) → IsFrozenFrom DEPTH_LIMIT MOST_ANIMALS book rows →
    is_there (book_of rows) number ≡ is_there book number
there-frozen book rows number frozen =
    sym (ap is_some (record_of-permuted (book_of rows) book frozen.frozen.lawful.once (IsPermutation-sym book (book_of rows) frozen.same) number))

are_there-frozen : (book : Book) (rows : List Row) (numbers : List (List ℕ)) → IsFrozenFrom DEPTH_LIMIT MOST_ANIMALS book rows →
    are_there (book_of rows) numbers ≡ are_there book numbers
are_there-frozen book rows [] frozen = refl
are_there-frozen book rows (number ∷ numbers) frozen =
    ap₂ (λ a b. a && b) (there-frozen book rows number frozen) (are_there-frozen book rows numbers frozen)

there_too : (order : Order) (book : Book) (rows : List Row) → SufficeFor order book rows → AreThere order (book_of rows) → AreThere order book
there_too (Certificates numbers) book rows part there = sym (are_there-part book numbers.now rows part) ∙ there
there_too (Records numbers) book rows frozen there = sym (are_there-frozen book rows numbers.now frozen) ∙ there
there_too (Sealed number) book rows frozen there = sym (there-frozen book rows number frozen) ∙ there
there_too (Inbreeding plan) book rows frozen there = tt
there_too (Mating dam sires) book rows frozen there = tt
there_too Inverse book rows frozen there = tt
there_too (Relationships numbers others) book rows frozen there = tt
there_too Seal book rows frozen there = tt

absent_too : (order : Order) (book : Book) (rows : List Row) → SufficeFor order book rows → IsOneAbsent order (book_of rows) → IsOneAbsent order book
absent_too (Certificates numbers) book rows part absent = sym (are_there-part book numbers.now rows part) ∙ absent
absent_too (Records numbers) book rows frozen absent = sym (are_there-frozen book rows numbers.now frozen) ∙ absent
absent_too (Sealed number) book rows frozen absent = sym (there-frozen book rows number frozen) ∙ absent
absent_too (Inbreeding plan) book rows frozen absent = absurd absent
absent_too (Mating dam sires) book rows frozen absent = absurd absent
absent_too Inverse book rows frozen absent = absurd absent
absent_too (Relationships numbers others) book rows frozen absent = absurd absent
absent_too Seal book rows frozen absent = absurd absent

-- the rows of the whole book, of which an order wants the same text as of those that suffice
record IsWholeOf (order : Order) (book : Book) (rows : List Row) : Type 0 where
  pub whole : List Row
  pub frozen : IsFrozenFrom DEPTH_LIMIT MOST_ANIMALS book whole
  pub same : (steps : ℕ) → wanted order steps rows ≡ wanted order steps whole

whole_of : (order : Order) (book : Book) (rows : List Row) → SufficeFor order book rows → IsWholeOf order book rows
whole_of (Certificates numbers) book rows part =
    let all = frozen-exists DEPTH_LIMIT MOST_ANIMALS book part.lawful in
    record { whole = all.0; frozen = all.1; same = λ steps. sym (certificates-part book numbers.now rows all.0 part all.1) }
whole_of (Records numbers) book rows frozen = record { whole = rows; frozen = frozen; same = λ steps. refl }
whole_of (Sealed number) book rows frozen = record { whole = rows; frozen = frozen; same = λ steps. refl }
whole_of (Inbreeding plan) book rows frozen = record { whole = rows; frozen = frozen; same = λ steps. refl }
whole_of (Mating dam sires) book rows frozen = record { whole = rows; frozen = frozen; same = λ steps. refl }
whole_of Inverse book rows frozen = record { whole = rows; frozen = frozen; same = λ steps. refl }
whole_of (Relationships numbers others) book rows frozen = record { whole = rows; frozen = frozen; same = λ steps. refl }
whole_of Seal book rows frozen = record { whole = rows; frozen = frozen; same = λ steps. refl }

-- a text of the frozen rows is one of the file's commands
report_of_file : (limits : Limits) (order : Order) (file : CommandFile) (steps : ℕ) (rows : List Row) (Passes : List ℕ → Type 0) →
    IsFrozenFile limits order file steps rows → Passes (wanted order steps rows) → IsReport limits order file.commands Passes
report_of_file limits order file steps rows Passes made passes =
    let all = whole_of order (run_book limits file.commands) rows made.frozen in
    record {
      rows = all.whole;
      frozen = all.frozen;
      passes = subst (λ (text : List ℕ). Passes text) (all.same (length file.commands)) (subst (λ (n : ℕ). Passes (wanted order n rows)) made.steps_are passes);
    }

pub run_answers : (limits : Limits) (order : Order) (file : CommandFile) (steps : ℕ) (rows : List Row) (old new : Option (List ℕ)) →
    IsFrozenFile limits order file steps rows → IsReported order steps rows old new → IsAnswered limits order file old new
run_answers limits order file steps rows old new made reported = record {
  faultless = made.faultless;
  there = there_too order (run_book limits file.commands) rows made.frozen reported.there;
  written = report_of_file limits order file steps rows (Appends old new) made reported.written;
}

pub run_ends : (limits : Limits) (order : Order) (file : CommandFile) (steps : ℕ) (rows : List Row) (old new : Option (List ℕ)) (fault : RunFault) →
    IsFrozenFile limits order file steps rows → EndsReporting order steps rows old new fault → EndsBy limits order file old new fault
run_ends limits order file steps rows old new fault made ends =
    let there = there_too order (run_book limits file.commands) rows made.frozen in
    let front : AppendsFront old new (wanted order steps rows) → IsReport limits order file.commands (AppendsFront old new) =
    report_of_file limits order file steps rows (AppendsFront old new) made in
    elim fault as (λ f. EndsReporting order steps rows old new f → EndsBy limits order file old new f) [
      | Line line ↦ λ ends. absurd ends
      | NotRegistered ↦ λ ends. (made.faultless, absent_too order (run_book limits file.commands) rows made.frozen ends.0, ends.1)
      | NoThread ↦ λ ends. (ends.0, made.faultless, ends.1)
      | Memory ↦ λ ends. (made.faultless, ⊎_elim (λ none. inl none) (λ text. inr (record { there = there ends.0; front = front text })) ends.1)
      | Write ↦ λ ends. (made.faultless, record { there = there ends.0; front = front ends.1 })
    ] ends

pub run_possible : {T : Type 0} (order : Order) (steps : ℕ) (rows : List Row) (old new : Option (List ℕ)) (result : Result T RunFault) →
    IfErr result (EndsReporting order steps rows old new) → IfErr result (CanEndBy order)
run_possible order steps rows old new result ends = IfErr-weaker result _ _ (λ fault end. can_end_reporting order steps rows old new fault end) ends
