-- How the records that a reader has still to give change with a read.
use Rattle.std.proofs.Common.{◌≡◌, ◌∙◌, ℕ, zero, suc, ◌+◌, ◌<◌, ◌≤◌, List, [], ◌∷◌, length, Bool, true, false, cond, ◌==◌, ◌&&◌, Option, Some, None, option_map, Result, Ok, Err, MatchResult, IfOk, IfErr, OnOk, OnErr, refl, sym, ap, subst, add-one, arith}
use Rattle.std.proofs.lemmas.Bool.{false≢true}
use Rattle.std.specs.Result.{is_ok}
use Rattle.csv.specs.Machine.{Read, after_end, carriage_return, line_feed, ends_at_end, ends_with, field_after, fields_after, in_field, is_byte, is_end, next_record, start_field, start_record, step}
use Rattle.csv.specs.Reading.{ExplainsRead, NextIs, ReadRecord, ReadsNext, ReadsOn, Ready, default_config, error_kind, has_failed, pending_of, reader_state, reader_trim, records_from, records_next, source_of, stops_reader}
use Rattle.csv.specs.declared.error.Error.{Error}
use Rattle.csv.specs.declared.error.ErrorKind.{ErrorKind}
use Rattle.csv.specs.declared.error.ErrorKind.TheVariants as error
use Rattle.csv.specs.declared.parser.Action.{Action}
use Rattle.csv.specs.declared.parser.Action.TheVariants as act
use Rattle.csv.specs.declared.parser.Config.{Config}
use Rattle.csv.specs.declared.parser.State.{State}
use Rattle.csv.specs.declared.parser.State.TheVariants as st
use Rattle.csv.specs.declared.parser.Terminator.{Terminator}
use Rattle.csv.specs.declared.parser.Terminator.TheVariants as term
use Rattle.csv.specs.declared.reader.Reader.{Reader}
use Rattle.csv.specs.declared.reader.Trim.TheVariants as trim
use Rattle.csv_records.specs.Fields.{Fields}
use Rattle.csv_records.specs.Upcoming.{IsSetUp, TakesRecord, records_after, upcoming}

-- the machine is between two records
record IsBetween (s : State) : Type 0 where
  between : ends_at_end s ≡ false

between-if : (b : Bool) (x y : State) → IsBetween x → IsBetween y → IsBetween (cond b x y)
between-if true x y p q = p
between-if false x y p q = q

after_end-between : (t : Terminator) (c : ℕ) → IsBetween (after_end t c)
after_end-between term.CRLF c =
    between-if (c == carriage_return) st.AfterCr st.StartRecord (record { between = refl }) (record { between = refl })
after_end-between (term.Any t) c = record { between = refl }

-- a step that ends a record leaves the machine between two records
record EndsBetween (after : State × Action) : Type 0 where
  ends : is_end after.1 ≡ true → IsBetween after.0

ends_between-if : (b : Bool) (x y : State × Action) → EndsBetween x → EndsBetween y → EndsBetween (cond b x y)
ends_between-if true x y p q = p
ends_between-if false x y p q = q

-- a step that doesn't end a record
goes_on : (s : State) (a : Action) → is_end a ≡ false → EndsBetween (s, a)
goes_on s a more = record { ends = λ e. absurd (false≢true (sym more ∙ e)) }

in_field-between : (cfg : Config) (c : ℕ) → EndsBetween (in_field cfg c)
in_field-between cfg c =
    ends_between-if (c == cfg.delimiter) (st.StartField, act.EndField) _ (goes_on _ _ refl)
    (ends_between-if (ends_with cfg.terminator c) (after_end cfg.terminator c, act.EndRecord) (st.InField, act.Copy)
    (record { ends = λ _. after_end-between cfg.terminator c }) (goes_on _ _ refl))

start_field-between : (cfg : Config) (c : ℕ) → EndsBetween (start_field cfg c)
start_field-between cfg c =
    ends_between-if (cfg.quoting && (c == cfg.quote)) (st.InQuoted, act.Skip) (in_field cfg c) (goes_on _ _ refl) (in_field-between cfg c)

start_record-between : (cfg : Config) (c : ℕ) → EndsBetween (start_record cfg c)
start_record-between cfg c =
    ends_between-if (ends_with cfg.terminator c) (st.StartRecord, act.Skip) _ (goes_on _ _ refl)
    (ends_between-if (is_byte cfg.comment c) (st.InComment, act.Skip) (start_field cfg c) (goes_on _ _ refl) (start_field-between cfg c))

step-between : (cfg : Config) (s : State) (c : ℕ) → EndsBetween (step cfg s c)
step-between cfg st.StartRecord c = start_record-between cfg c
step-between cfg st.StartField c = start_field-between cfg c
step-between cfg st.InField c = in_field-between cfg c
step-between cfg st.InQuoted c =
    ends_between-if (cfg.quoting && (c == cfg.quote)) (st.AfterQuote, act.Skip) _ (goes_on _ _ refl)
    (ends_between-if (cfg.quoting && is_byte cfg.escape c) (st.InEscape, act.Skip) (st.InQuoted, act.Copy) (goes_on _ _ refl) (goes_on _ _ refl))
step-between cfg st.InEscape c = goes_on _ _ refl
step-between cfg st.AfterQuote c =
    ends_between-if (cfg.quoting && cfg.double_quote && (c == cfg.quote)) (st.InQuoted, act.Copy) (in_field cfg c) (goes_on _ _ refl) (in_field-between cfg c)
step-between cfg st.InComment c =
    ends_between-if (c == line_feed) (st.StartRecord, act.Skip) (st.InComment, act.Skip) (goes_on _ _ refl) (goes_on _ _ refl)
step-between cfg st.AfterCr c =
    ends_between-if (c == line_feed) (st.StartRecord, act.Skip) (start_record cfg c) (goes_on _ _ refl) (start_record-between cfg c)

-- a record that was read from a state leaves the machine between two records, and leaves fewer bytes where it was
-- between two
record IsAfterRecord (s : State) (xs : List ℕ) (p : Read) : Type 0 where
  between : ends_at_end p.1 ≡ false
  no_longer : length p.2 ≤ length xs
  shorter : ends_at_end s ≡ false → length p.2 < length xs

after-eq : (s : State) (xs : List ℕ) (p q : Read) → ◌≡◌ {A = Option Read} (Some q) (Some p) → IsAfterRecord s xs q → IsAfterRecord s xs p
after-eq s xs p q e h = let same : q ≡ p = cc in subst (λ (r : Read). IsAfterRecord s xs r) same h

after-end : (s : State) (b : Bool) (fields : List (List ℕ)) (p : Read) → ends_at_end s ≡ b
    → ◌≡◌ {A = Option Read} (cond b (Some (fields, st.StartRecord, [])) None) (Some p) → IsAfterRecord s [] p
after-end s true fields p b e =
    after-eq s [] p (fields, st.StartRecord, []) e (record { between = refl; no_longer = omega arith; shorter = λ f. absurd (false≢true (sym f ∙ b)) })
after-end s false fields p b e = absurd (cc e)

after-step : (s : State) (c : ℕ) (rest : List ℕ) (b : Bool) (fields : List (List ℕ)) (s2 : State) (more : Option Read) (p : Read)
    → (b ≡ true → ends_at_end s2 ≡ false) → (more ≡ Some p → IsAfterRecord s2 rest p)
    → ◌≡◌ {A = Option Read} (cond b (Some (fields, s2, rest)) more) (Some p) → IsAfterRecord s (c ∷ rest) p
after-step s c rest true fields s2 more p ends later e =
    after-eq s (c ∷ rest) p (fields, s2, rest) e (record { between = ends refl; no_longer = omega arith; shorter = λ _. omega arith })
after-step s c rest false fields s2 more p ends later e =
    let h = later e in
    let n = h.no_longer in
    record { between = h.between; no_longer = omega arith; shorter = λ _. omega arith }

after-record : (cfg : Config) (s : State) (fields : List (List ℕ)) (field xs : List ℕ) (p : Read)
    → next_record cfg s fields field xs ≡ Some p → IsAfterRecord s xs p
unfolding next_record
after-record cfg s fields field [] p e = after-end s (ends_at_end s) _ p refl e
after-record cfg s fields field (c ∷ rest) p e =
    after-step s c rest (is_end (step cfg s c).1) _ (step cfg s c).0 _ p (λ e. ((step-between cfg s c).ends e).between)
    (after-record cfg (step cfg s c).0 (fields_after (step cfg s c).1 fields field) (field_after (step cfg s c).1 c field) rest p) e

-- the records of a text are the same, however many are asked for, where these are enough
records_same : (cfg : Config) (n m : ℕ) (s : State) (xs : List ℕ) → ends_at_end s ≡ false → length xs < n → length xs < m
    → records_from cfg n s xs ≡ records_from cfg m s xs
unfolding records_from
records_same cfg zero m s xs between n_enough m_enough = absurd (omega arith)
records_same cfg (suc n) zero s xs between n_enough m_enough = absurd (omega arith)
records_same cfg (suc n) (suc m) s xs between n_enough m_enough =
    elim (next_record cfg s [] [] xs) as (λ (o : Option Read). next_record cfg s [] [] xs ≡ o → records_next (records_from cfg n) o ≡ records_next (records_from cfg m) o) [
      | None ↦ λ e. refl
      | Some p ↦ λ e.
          let after = after-record cfg s [] [] xs p e in
          let fewer = after.shorter between in
          ap (λ (rest : List (List (List ℕ))). p.0 ∷ rest) (records_same cfg n m p.1 p.2 after.between (omega arith) (omega arith))
    ] refl

takes-next : (s s2 : State) (xs ys : List ℕ) (found : Bool) (fields : Fields) (o : Option Read)
    → ends_at_end s ≡ false → next_record default_config s [] [] xs ≡ o → NextIs o found fields s2 ys
    → TakesRecord (Some (records_next (records_from default_config (length xs)) o)) (records_after s2 (Some ys)) fields found
takes-next s s2 xs ys found fields None between e h = h
takes-next s s2 xs ys found fields (Some p) between e h =
    let after = after-record default_config s [] [] xs p e in
    let fewer = after.shorter between in
    let same : records_from default_config (length p.2 + 1) p.1 p.2 ≡ records_from default_config (length xs) p.1 p.2 =
    records_same default_config (length p.2 + 1) (length xs) p.1 p.2 after.between (omega arith) (omega arith) in
    (h.0, h.1, rw (h.2, h.3, after.between) (ap (λ (rest : List Fields). Some rest) same))

takes-from : (s s2 : State) (known after : Option (List ℕ)) (found : Bool) (fields : Fields) (b : Bool)
    → ends_at_end s ≡ b → ReadsNext default_config s known after found fields s2
    → TakesRecord (cond b None (option_map (λ bytes. records_from default_config (length bytes + 1) s bytes) known)) (records_after s2 after) fields found
unfolding records_from
takes-from s s2 known after found fields true between h = tt
takes-from s s2 None after found fields false between h = tt
takes-from s s2 (Some xs) None found fields false between h = absurd h
takes-from s s2 (Some xs) (Some ys) found fields false between h =
    rw (add-one (length xs)) (takes-next s s2 xs ys found fields (next_record default_config s [] [] xs) between refl h)

-- a read takes the next record of those that are still to come
pub takes : (s s2 : State) (known after : Option (List ℕ)) (found : Bool) (fields : Fields)
    → ReadsNext default_config s known after found fields s2
    → TakesRecord (records_after s known) (records_after s2 after) fields found
takes s s2 known after found fields h = takes-from s s2 known after found fields (ends_at_end s) refl h

-- what a call's `Ok` says, after a `map_err`
pub ok_through : {T E D : Type 0} (from : Result T E) (to : Result T D) (P : T → Type 0) (Q : E → Type 0)
    → MatchResult from (λ x. to ≡ Ok x) Q → is_ok to ≡ is_ok from → IfOk from P → IfOk to P
ok_through (Ok x) to P Q same variant h = rw same h
ok_through (Err e) (Ok y) P Q same variant h = absurd (false≢true (sym variant))
ok_through (Err e) (Err d) P Q same variant h = tt

-- a reader that found a record is set up as before
pub set_up_after : {R E : Type 0} (result : Result Bool E) (old new : Reader R) → IsSetUp old
    → IfOk result (λ found. found ≡ true → ReadsOn old new) → OnOk result (has_failed new ≡ has_failed old)
    → IfOk result (λ found. found ≡ true → IsSetUp new)
set_up_after (Ok found) old new set_up goes_on sound = λ yes.
    let same = goes_on yes in
    record {
      config = same.0 ∙ set_up.config;
      untrimmed = same.1 ∙ set_up.untrimmed;
      flexible = same.2 ∙ set_up.flexible;
      ready = (same.4 set_up.ready).0;
      sound = sound ∙ set_up.sound;
    }
set_up_after (Err e) old new set_up goes_on sound = tt

-- and took the next record
pub takes_after : {R E : Type 0} (remaining : R → Option (List ℕ)) (result : Result Bool E) (old new : Reader R) (fields : Fields) → IsSetUp old
    → IfOk result (λ found. (reader_trim old ≡ trim.None) → Ready old → ReadRecord remaining old new found fields)
    → IfOk result (TakesRecord (upcoming remaining old) (upcoming remaining new) fields)
takes_after remaining (Ok found) old new fields set_up reads =
    let read = reads set_up.untrimmed set_up.ready in
    let next = rw set_up.config at read.0 in
    rw read.1 (takes (reader_state old) (reader_state new) (source_of remaining old) (pending_of (remaining new.rdr) new) found fields next)
takes_after remaining (Err e) old new fields set_up reads = tt

-- a read that failed was of bytes or for memory, where any number of fields is taken
stops : {R : Type 0} (remaining : R → Option (List ℕ)) (old new : Reader R) (kind : ErrorKind) → IsSetUp old
    → ExplainsRead remaining old new false kind → stops_reader kind ≡ true
stops remaining old new (error.Io fault) set_up why = refl
stops remaining old new error.OutOfMemory set_up why = refl
stops remaining old new (error.UnequalLengths place expected length) set_up why = absurd (false≢true (sym why.0 ∙ set_up.flexible))
stops remaining old new (error.Utf8 place fault) set_up why = absurd (false≢true why.0)
stops remaining old new (error.Serialize text) set_up why = absurd why
stops remaining old new (error.Deserialize place fault) set_up why = absurd why

-- a reader that told an error gives no more records
pub failed_after : {R T : Type 0} (remaining : R → Option (List ℕ)) (result : Result T Error) (old new : Reader R) → IsSetUp old
    → IfErr result (λ e. has_failed new ≡ stops_reader (error_kind e))
    → IfErr result (λ e. Ready old → ExplainsRead remaining old new false (error_kind e))
    → OnErr result (has_failed new ≡ true)
failed_after remaining (Ok found) old new set_up fails why = tt
failed_after remaining (Err e) old new set_up fails why = fails ∙ stops remaining old new (error_kind e) set_up (why set_up.ready)

-- what a call's `Err` says, after a `map_err`
pub err_through : {T E D : Type 0} (from : Result T E) (to : Result T D) (P : Type 0) → is_ok to ≡ is_ok from → OnErr from P → OnErr to P
err_through (Ok x) (Ok y) P variant h = tt
err_through (Ok x) (Err d) P variant h = absurd (false≢true variant)
err_through (Err e) (Ok y) P variant h = absurd (false≢true (sym variant))
err_through (Err e) (Err d) P variant h = h
