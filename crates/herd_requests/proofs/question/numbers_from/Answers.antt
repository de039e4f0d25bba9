-- A number more, and the fields behind it.
use Rattle.std.proofs.Common.{◌≡◌, ◌∙◌, ◌+◌, ◌<◌, ◌++◌, ◌∷◌, [], List, ℕ, suc, ap, append_assoc, arith, drop, length, rules, sym}
use Rattle.csv.specs.Records.{fields_of}
use Rattle.csv_records.specs.Fields.{field}
use Rattle.herd_requests.proofs.FieldFacts.{drop_field}
use Rattle.herd_requests.proofs.question.numbers_from.Goals as goal

pub loop-at-preserved : goal.loop-at-preserved
loop-at-preserved c =
    let fields = fields_of c.args.row.now in
    let at = c.loop-at.at in
    let numbers = c.loop-at.numbers.items in
    let number = c.in_ok-number.number in
    let within : at < length fields = omega arith in
    let one : suc at ≡ at + 1 = omega arith in
    let read : field at fields ≡ number = sym c.field.ensures ∙ c.in_ok-number.ensures.number in
    let left : drop at fields ≡ number ∷ drop (at + 1) fields =
    drop_field at fields within ∙ ap (λ (f : List ℕ). f ∷ drop (suc at) fields) read ∙ ap (λ (n : ℕ). number ∷ drop n fields) one in
    let pushed : c.push.new.self.items ≡ numbers ++ number ∷ [] = search rules in
    ap (λ (l : List (List ℕ)). l ++ drop (at + 1) fields) pushed
    ∙ append_assoc numbers (number ∷ []) (drop (at + 1) fields)
    ∙ ap (λ (l : List (List ℕ)). numbers ++ l) (sym left)
    ∙ c.loop-at.invariant
