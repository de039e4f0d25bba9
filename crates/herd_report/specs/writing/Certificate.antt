-- The certificate of an animal as text.
use Rattle.std.specs.Prelude.{ℕ, List, [], ◌++◌, map, codes, decimal}
use Rattle.std.specs.List.{flat_map}
use Rattle.std.specs.Option.{option_map_or}
use Rattle.herd_animal.specs.declared.number.Sex.{Sex}
use Rattle.herd_animal.specs.declared.number.Sex.TheVariants.{Male, Female}
use Rattle.herd_animal.specs.Day.{day_text}
use Rattle.herd_animal.specs.Sex.{sex_of}
use Rattle.herd_frozen.specs.declared.rules.animal.Animal.{Animal}
use Rattle.herd_frozen.specs.declared.TheConstants.{DEPTH_LIMIT}
use Rattle.herd_frozen.specs.declared.freezing.frozen.Row.{Row}
use Rattle.herd_frozen.specs.rules.Book.{Book, record_of}
use Rattle.herd_frozen.specs.freezing.Frozen.{book_of}
use Rattle.herd_advice.specs.FrozenAncestry.{ancestry_of}
use Rattle.herd_kinship.specs.Table.{coefficient}
use Rattle.herd_report.specs.declared.writing.ancestors.Parent.{Parent}
use Rattle.herd_report.specs.writing.Ancestors.{ancestor_of, letter_of, three_generations}
use Rattle.herd_text.specs.CoefficientText.{coefficient_text}
use Rattle.herd_record_line.specs.RecordLine.{known_text, left_text}

-- a line of a name and a value
unfoldable pub labelled_line : List ℕ → List ℕ → List ℕ
labelled_line name value = name ++ codes " " ++ value ++ codes "\n"

abbrev pub sex_text : Sex → List ℕ
sex_text Male = codes "male"
sex_text Female = codes "female"

-- the seven lines on an animal itself
abbrev pub animal_text : List ℕ → Animal → ℕ → List ℕ
animal_text number animal numerator =
    labelled_line (codes "animal") number
    ++ labelled_line (codes "sex") (sex_text (sex_of number))
    ++ labelled_line (codes "born") (day_text animal.birth)
    ++ labelled_line (codes "herd") (decimal animal.herd)
    ++ labelled_line (codes "since") (day_text animal.since)
    ++ labelled_line (codes "left") (left_text animal.left)
    ++ labelled_line (codes "inbreeding") (coefficient_text (codes " ") numerator)

-- the line of an ancestor, named by the letters of the parents that lead to it
abbrev pub ancestor_line : Book → List ℕ → List Parent → List ℕ
ancestor_line book number path = labelled_line (map letter_of path) (known_text (ancestor_of book number path))

-- the lines of the ancestors, up to three parents away
unfoldable pub ancestors_text : Book → List ℕ → List ℕ
ancestors_text book number = flat_map (ancestor_line book number) three_generations

-- the certificate of a number of the book, with the numerator of its coefficient
abbrev pub certificate_text : Book → ℕ → List ℕ → List ℕ
certificate_text book numerator number =
    option_map_or (λ animal. animal_text number animal numerator ++ ancestors_text book number)
    (record_of book number) []

-- the certificate of a number of a frozen book
abbrev pub certificate_of : List Row → List ℕ → List ℕ
certificate_of rows number = certificate_text (book_of rows) (coefficient (ancestry_of rows) DEPTH_LIMIT number) number

-- the certificates of some numbers of a frozen book, one behind the other
abbrev pub certificates_of : List Row → List (List ℕ) → List ℕ
certificates_of rows numbers = flat_map (certificate_of rows) numbers
