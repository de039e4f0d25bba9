-- What the proofs use of SHA-256: a digest has 32 bytes, and equal digests are of equal messages or a collision.
use Rattle.std.proofs.Common.{◌∷◌, ◌≡◌, ◌≢◌, ◌⊎◌, ℕ, zero, suc, ◌<◌, List, ◌++◌, length, take, drop, refl, sym, ◌∙◌, ap, inl, inr, arith, lit<, mod-lt, take_at, drop_at, subst}
use Rattle.std.proofs.lemmas.Bool.{cases_Bool, true≢false}
use Rattle.std.proofs.lemmas.Slice.Eq.{bytes_eq-Decides}
use Rattle.std.proofs.lemmas.List.Elements.{All-append, All-cons, All-nil}
use Rattle.std.specs.Str.{bytes_eq}
use Rattle.std.specs.Int.{bytes_high_first, byte_at, to_be_bytes, w32}
use Rattle.std.specs.Prelude.{slice_index}
use Rattle.sha2.specs.Sha256.{sha256, digest_bytes, final_hash, initial_hash_256}
use Rattle.sha2.proofs.Facts256.{length-sha256}
use Rattle.std.specs.List.{Contains}
use Rattle.merkle_tree.specs.Tree.{IsBytes, IsDigest}
use Rattle.merkle_tree.specs.Collision.{Collision}

byte_at-byte : (k n : ℕ) → byte_at k n < 256
byte_at-byte zero n = mod-lt n (lit< tt)
byte_at-byte (suc k) n = mod-lt _ (lit< tt)

pub bytes_high_first-bytes : (k n : ℕ) → IsBytes (bytes_high_first k n)
bytes_high_first-bytes zero n = All-nil (λ b. b < 256)
bytes_high_first-bytes (suc k) n = All-cons (λ b. b < 256) _ _ (byte_at-byte k n) (bytes_high_first-bytes k n)

digest_bytes-bytes : (h : List ℕ) (n : ℕ) → IsBytes (digest_bytes h n)
unfolding digest_bytes
digest_bytes-bytes h zero = All-nil (λ b. b < 256)
digest_bytes-bytes h (suc n) =
    All-append (λ b. b < 256) (digest_bytes h n) (to_be_bytes w32 (slice_index h n)) (digest_bytes-bytes h n) (bytes_high_first-bytes 4 (slice_index h n))

digest-bytes : (m : List ℕ) → IsBytes (sha256 m)
unfolding sha256
digest-bytes m = digest_bytes-bytes (final_hash initial_hash_256 m) 8

pub digest-is : (m : List ℕ) → IsDigest (sha256 m)
digest-is m = (digest-bytes m, length-sha256 m)

pub same_or_differ : (a b : List ℕ) → (a ≡ b) ⊎ (a ≢ b)
same_or_differ a b =
    elim (cases_Bool (bytes_eq a b)) [
      | inl holds ↦ inl ((bytes_eq-Decides a b).0 holds)
      | inr fails ↦ inr (λ e. true≢false (sym ((bytes_eq-Decides a b).1 e) ∙ fails))
    ]

-- equal digests are of equal messages, or a collision
pub same_or_collision : (these those : List (List ℕ)) (a b : List ℕ) → Contains these a → Contains those b → IsBytes a → IsBytes b
    → sha256 a ≡ sha256 b → (a ≡ b) ⊎ Collision these those
same_or_collision these those a b a_in b_in a_bytes b_bytes same =
    elim (same_or_differ a b) [
      | inl e ↦ inl e
      | inr ne ↦ inr (record {
        first = a;
        second = b;
        first_in = a_in;
        second_in = b_in;
        first_bytes = a_bytes;
        second_bytes = b_bytes;
        different = ne;
        same_digest = same;
      })
    ]

pub contains_here : (m : List ℕ) (ms : List (List ℕ)) → Contains (m ∷ ms) m
contains_here m ms = (zero, omega arith, refl)

pub contains_later : (m : List ℕ) (ms : List (List ℕ)) (x : List ℕ) → Contains ms x → Contains (m ∷ ms) x
contains_later m ms x at = let within = at.1 in (suc at.0, omega arith, at.2)

pub contains_same : (one two : List (List ℕ)) → one ≡ two → (x : List ℕ) → Contains two x → Contains one x
contains_same one two e x at = subst (λ (l : List (List ℕ)). Contains l x) (sym e) at

-- a collision among some messages is one among more
pub more_messages : (these those more_these more_those : List (List ℕ)) → ((m : List ℕ) → Contains these m → Contains more_these m)
    → ((m : List ℕ) → Contains those m → Contains more_those m) → Collision these those → Collision more_these more_those
more_messages these those more_these more_those wider deeper c = record {
  first = c.first;
  second = c.second;
  first_in = wider c.first c.first_in;
  second_in = deeper c.second c.second_in;
  first_bytes = c.first_bytes;
  second_bytes = c.second_bytes;
  different = c.different;
  same_digest = c.same_digest;
}

-- two joined lists are equal in their parts, where the first parts are as long
pub front_same : (a b c d : List ℕ) (n : ℕ) → length a ≡ n → length c ≡ n → a ++ b ≡ c ++ d → a ≡ c
front_same a b c d n la lc e = sym (take_at a b n la) ∙ (ap (λ (x : List ℕ). take n x) e ∙ take_at c d n lc)

pub back_same : (a b c d : List ℕ) (n : ℕ) → length a ≡ n → length c ≡ n → a ++ b ≡ c ++ d → b ≡ d
back_same a b c d n la lc e = sym (drop_at a b n la) ∙ (ap (λ (x : List ℕ). drop n x) e ∙ drop_at c d n lc)

-- a message of bytes behind its kind's byte
pub kind_bytes : (kind : ℕ) (m : List ℕ) → kind < 256 → IsBytes m → IsBytes (kind ∷ m)
kind_bytes kind m small bytes = All-cons (λ b. b < 256) kind m small bytes

pub join_bytes : (kind : ℕ) (a b : List ℕ) → kind < 256 → IsBytes a → IsBytes b → IsBytes (kind ∷ (a ++ b))
join_bytes kind a b small a_bytes b_bytes = kind_bytes kind (a ++ b) small (All-append (λ x. x < 256) a b a_bytes b_bytes)

pub tail_same : (k : ℕ) (a b : List ℕ) → ◌≡◌ {A = List ℕ} (k ∷ a) (k ∷ b) → a ≡ b
tail_same k a b e = cc
