-- The digits of octets.
use Rattle.std.proofs.Common.{◌≡◌, ℕ, suc, ◌<◌, nat_lt, inl, inr, ◌/◌, ◌%◌, true, List, [], ◌∷◌, ◌++◌, get_or, slice_index, Result, Ok, Err, is_ok, OnOk, if◌then◌else◌, refl, sym, ap, ◌∙◌, arith}
use Rattle.std.specs.Str.{IsUtf8, IsAscii, bytes_eq}
use Rattle.std.specs.Fmt.{digits}
use Rattle.std.specs.Cmp.Lexicographic.{bytes_decides}
use Rattle.std.proofs.lemmas.Bool.{agree_below_at, cases_lt, ltb-true}
use Rattle.std.proofs.lemmas.List.{get_or_past}
use Rattle.std.proofs.lemmas.Str.{IsUtf8-from_ascii}
use Rattle.hex.specs.Hex.{encode_lower, encode_with, lower_digits}
use Rattle.hex.proofs.HexLemmas.{IsAscii-encode_with}
use Rattle.sacn_tell.specs.Spelling.{octet_text, octets_text}

-- the two digits of an octet in hex's table
abbrev two_digits : ℕ → List ℕ
two_digits octet = slice_index lower_digits (octet / 16) ∷ slice_index lower_digits (octet % 16) ∷ []

-- they are those that are spelled: a table of 256 rows
one : (octet : ℕ) → octet < 256 → octet_text octet ≡ two_digits octet
unfolding octet_text digits
one octet below = (bytes_decides (octet_text octet) (two_digits octet)).0 (agree_below_at (λ n. bytes_eq (octet_text n) (two_digits n)) (λ n. true) 256 octet refl below)

-- hex writes what is spelled
pub digits_are : (octets : List ℕ) → ((i : ℕ) → get_or octets i 0 < 256) → encode_lower octets ≡ octets_text octets
unfolding encode_with
digits_are [] fits = refl
digits_are (x ∷ xs) fits = ap (λ (t : List ℕ). two_digits x ++ t) (digits_are xs (λ i. fits (suc i))) ∙ ap (λ (t : List ℕ). t ++ octets_text xs) (sym (one x (fits 0)))

lower_ascii : IsAscii lower_digits
lower_ascii i =
    elim (cases_lt i 16) [
      | inl below ↦ ltb-true (get_or lower_digits i 0) 128 (agree_below_at (λ n. nat_lt (get_or lower_digits n 0) 128) (λ n. true) 16 i refl below)
      | inr past ↦ let none = get_or_past lower_digits i 0 past in omega (arith, none)
    ]

-- and it can be read as text
pub digits_are_text : (octets : List ℕ) → IsUtf8 (encode_lower octets)
digits_are_text octets = IsUtf8-from_ascii (encode_lower octets) (IsAscii-encode_with lower_digits octets lower_ascii)

-- digits that are pushed as text
pub pushed : {T E : Type 0} (r : Result T E) (old new written octets : List ℕ) → new ≡ (if is_ok r then old ++ written else old) → written ≡ octets_text octets → OnOk r (new ≡ old ++ octets_text octets)
pushed (Ok x) old new written octets is same = is ∙ ap (λ (t : List ℕ). old ++ t) same
pushed (Err e) old new written octets is same = tt
