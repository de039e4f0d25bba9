-- A list of two arguments' numbers is parted behind those of the first.
use Rattle.std.proofs.Common.{rules, ◌≡◌, ◌∙◌, ℕ, List, [], ◌++◌, ap, codes, drop, length, sym, take}
use Rattle.std.proofs.Math.Seq.{drop-append_seam, take-append_seam}
use Rattle.clap.specs.Words.{found_of, rows_of}
use Rattle.herd_command_line.specs.Words.{texts_of}
use Rattle.herd_command_line.proofs.arguments.request_of.Goals as goal

-- the first numbers of a list, and those that were added to them
first_are : (first more whole front : List (List ℕ)) (count : ℕ) → count ≡ length first → whole ≡ first ++ more → front ≡ take count whole → first ≡ front
first_are first more whole front count counted joined is =
    sym (is ∙ ap (take count) joined ∙ ap (λ n. take n (first ++ more)) counted ∙ take-append_seam first more)

more_are : (first more whole back : List (List ℕ)) (count : ℕ) → count ≡ length first → whole ≡ first ++ more → back ≡ drop count whole → more ≡ back
more_are first more whole back count counted joined is =
    sym (is ∙ ap (drop count) joined ∙ ap (λ n. drop n (first ++ more)) counted ∙ drop-append_seam first more)

pub returns-in_ok-add_numbers-in-Relationships-2-clause-asked : goal.returns-in_ok-add_numbers-in-Relationships-2-clause-asked
returns-in_ok-add_numbers-in-Relationships-2-clause-asked c =
    let rows = rows_of (found_of c.in-Some.given.now) in
    let more = texts_of (codes "with") rows in
    let added = c.add_numbers-in-Relationships.new.list in
    let whole = c.as_slice-in-Relationships.result.now in
    let read : added.items ≡ [] ++ texts_of (codes "NUMBER") rows =
    c.in_ok-add_numbers-in-Relationships.ensures.read ∙ ap (λ l. l ++ texts_of (codes "NUMBER") rows) c.clear.ensures.items in
    let counted : c.len-count.result ≡ length added.items = c.len-count.ensures ∙ added.ok.0 in
    let joined : whole ≡ added.items ++ more = c.as_slice-in-Relationships.ensures.value ∙ c.in_ok-add_numbers-in-Relationships-2.ensures.read in
    let first : texts_of (codes "NUMBER") rows ≡ c.split_at.result.0.now =
    sym read ∙ first_are added.items more whole c.split_at.result.0.now c.len-count.result counted joined c.split_at.ensures.front in
    let others : texts_of (codes "with") rows ≡ c.split_at.result.1.now =
    more_are added.items more whole c.split_at.result.1.now c.len-count.result counted joined c.split_at.ensures.back in
    ((search rules, search (rules, first), search (rules, others)), search rules)
