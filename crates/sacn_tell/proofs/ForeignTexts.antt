-- The letters of a text from elsewhere, chunk by chunk.
use Rattle.std.proofs.Common.{◌≡◌, ℕ, ◌<◌, List, [], ◌∷◌, ◌++◌, length, drop, refl, ap, ◌∙◌}
use Rattle.std.specs.List.{flat_map}
use Rattle.std.specs.Str.{IsUtf8, chars}
use Rattle.std.specs.Str.Lossy.{utf8_valid_len, utf8_invalid_len, utf8_lossy, replacement_bytes}
use Rattle.std.proofs.lemmas.Str.{chars-nil, chars-append, utf8_lossy_chunk, utf8_lossy_last_chunk, utf8_lossy_empty}
use Rattle.std.proofs.lemmas.Grind.{flat_map-append}
use Rattle.sacn_tell.specs.Foreign.{foreign_letter, foreign_text}

-- U+FFFD
unknown : (rest : List ℕ) → chars (replacement_bytes ++ rest) ≡ 0xfffd ∷ chars rest
unfolding chars
unknown [] = refl
unknown (x ∷ xs) = refl

-- octets that begin with a text, and then with what is none
pub one_chunk : (octets valid invalid rest : List ℕ) → IsUtf8 valid → octets ≡ valid ++ (invalid ++ rest) → length valid ≡ utf8_valid_len octets
    → length invalid ≡ utf8_invalid_len (drop (utf8_valid_len octets) octets) → 0 < length invalid
    → foreign_text octets ≡ flat_map foreign_letter (chars valid) ++ (foreign_letter 0xfffd ++ foreign_text rest)
unfolding foreign_text
one_chunk octets valid invalid rest text parts valid_len invalid_len some =
    ap (λ (t : List ℕ). flat_map foreign_letter (chars t)) (utf8_lossy_chunk octets valid invalid rest parts valid_len invalid_len some)
    ∙ ap (λ (t : List ℕ). flat_map foreign_letter t) (chars-append valid (replacement_bytes ++ utf8_lossy rest) text ∙ ap (λ (t : List ℕ). chars valid ++ t) (unknown (utf8_lossy rest)))
    ∙ flat_map-append foreign_letter (chars valid) (0xfffd ∷ chars (utf8_lossy rest))

-- octets that are a text
pub last_chunk : (octets valid invalid rest : List ℕ) → IsUtf8 valid → octets ≡ valid ++ (invalid ++ rest) → length valid ≡ utf8_valid_len octets
    → length invalid ≡ 0 → length rest ≡ 0 → foreign_text octets ≡ flat_map foreign_letter (chars valid) ++ foreign_text rest
unfolding foreign_text
last_chunk octets valid invalid rest text parts valid_len none no_more =
    ap (λ (t : List ℕ). flat_map foreign_letter (chars t)) (utf8_lossy_last_chunk octets valid invalid rest parts valid_len none no_more)
    ∙ ap (λ (t : List ℕ). flat_map foreign_letter t) (chars-append valid (utf8_lossy rest) text)
    ∙ flat_map-append foreign_letter (chars valid) (chars (utf8_lossy rest))

pub no_chunk : (octets : List ℕ) → length octets ≡ 0 → foreign_text octets ≡ []
unfolding foreign_text
no_chunk octets none = ap (λ (t : List ℕ). flat_map foreign_letter (chars t)) (utf8_lossy_empty octets none) ∙ ap (λ (t : List ℕ). flat_map foreign_letter t) chars-nil
