-- The lines of pairs.
use Rattle.std.proofs.Common.{◌≡◌, ◌∙◌, ℕ, ◌+◌, ◌-◌, ◌*◌, ◌<◌, ◌^◌, decimal, Bool, true, false, List, [], ◌∷◌, ◌++◌, codes, length, drop, slice_get, Some, ap, arith, refl, take}
use Rattle.std.proofs.Math.Seq.{take-length}
use Rattle.std.proofs.lemmas.List.{drop_more, length-drop}
use Rattle.std.proofs.lemmas.Option.{get_or_from_slice_get, slice_get_within}
use Rattle.herd_lineage.specs.declared.TheConstants.{DEPTH_LIMIT}
use Rattle.herd_lineage.specs.declared.lineage.Parents.{Parents}
use Rattle.herd_kinship.specs.Ranks.{ranked}
use Rattle.herd_kinship.specs.Table.{entry}
use Rattle.herd_kinship.specs.Fraction.{fraction_text, halved}
use Rattle.herd_pedigree_file.specs.Number.{number_text}
use Rattle.herd_text.proofs.lemmas.TextFacts.{some_after, some_before}
use Rattle.herd_pedigree_report.specs.Notation.{relationship_line_end}
use Rattle.herd_pedigree_report.specs.RelationshipList.{lines_with, pair_line, pair_lines, partners_of}

-- a line isn't empty
some_relationship_end : (in_units : Bool) (numerator : ℕ) → 0 < length (relationship_line_end in_units numerator)
some_relationship_end true numerator = some_after (decimal numerator) (codes "\n") (omega arith)
some_relationship_end false numerator =
    some_after (fraction_text (halved false numerator (2 ^ (2 * DEPTH_LIMIT)))) (codes "\n") (omega arith)

pub some_pair_line : (in_units : Bool) (x y numerator : ℕ) → 0 < length (pair_line in_units x y numerator)
some_pair_line in_units x y numerator =
    some_after (number_text x ++ codes "," ++ number_text y ++ codes ",") (relationship_line_end in_units numerator)
    (some_relationship_end in_units numerator)

-- nor are those with some partners
pub some_lines_with : (in_units : Bool) (lineage : List Parents) (x : ℕ) (partners : List ℕ) → 0 < length partners → 0 < length (lines_with in_units lineage x partners)
some_lines_with in_units lineage x [] some = absurd (omega arith)
some_lines_with in_units lineage x (y ∷ partners) some =
    some_before (pair_line in_units x y (entry (ranked lineage) (2 * DEPTH_LIMIT) (Some x) (Some y))) (lines_with in_units lineage x partners)
    (some_pair_line in_units x y (entry (ranked lineage) (2 * DEPTH_LIMIT) (Some x) (Some y)))

-- the partners are the same where a part of a list is its end
pub partners_are : (among among' : Bool) (others animals partners : List ℕ) (place : ℕ) → among' ≡ among
    → partners ≡ partners_of among' others (take (length animals - place) (drop place animals)) → partners ≡ partners_of among others (drop place animals)
partners_are among among' others animals partners place a are =
    let all : take (length animals - place) (drop place animals) ≡ drop place animals = rw (← length-drop place animals) (take-length (drop place animals)) in
    are ∙ rw a (ap (partners_of among others) all)

-- the lines of the first that is left, with these partners, and those of the rest
pub pairs_split : (in_units : Bool) (lineage : List Parents) (among : Bool) (others animals : List ℕ) (place first : ℕ) (partners : List ℕ)
    → slice_get animals place ≡ Some first → partners ≡ partners_of among others (drop place animals)
    → pair_lines in_units lineage among others (drop place animals)
    ≡ lines_with in_units lineage first partners ++ pair_lines in_units lineage among others (drop (place + 1) animals)
pairs_split in_units lineage among others animals place first partners there are =
    let rest = drop (place + 1) animals in
    let split : drop place animals ≡ first ∷ rest =
    drop_more animals place first (slice_get_within animals place first there) ∙ ap (λ animal. animal ∷ rest) (get_or_from_slice_get animals place first first there) in
    rw (are, split) refl
