-- The tag by which a caller knows the answer to a request.
use Rattle.std.specs.Prelude.{◌≢◌, ◌⊎◌, ◌≡◌, ◌<◌, ◌≤◌, ℕ, List, length, codes, All, IsTrue}
use Rattle.std.specs.Char.{is_ascii_alphanumeric}
use Rattle.herd_requests.specs.declared.tag.TheConstants.{LONGEST_TAG}

-- a letter, a digit or a hyphen
abbrev pub IsTagCharacter : ℕ → Type 0
IsTagCharacter character = IsTrue (is_ascii_alphanumeric character) ⊎ (character ≡ 45)

-- a text of such characters, one at least, and not the word of a session's last line
abbrev pub IsTag : List ℕ → Type 0
IsTag text =
    (0 < length text) × (length text ≤ LONGEST_TAG) × All IsTagCharacter text × (text ≢ codes "closed")
