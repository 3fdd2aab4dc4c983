-- The letters of a name.
use Rattle.std.proofs.Common.{◌≡◌, ℕ, Bool, true, false, List, [], ◌∷◌, ◌++◌, map, chars, refl, sym, ap, ◌∙◌}
use Rattle.std.specs.List.{flat_map}
use Rattle.std.specs.Str.{IsUtf8, is_utf8}
use Rattle.std.proofs.lemmas.Str.{IsUtf8-from_is_utf8, is_utf8-from_IsUtf8}
use Rattle.sacn_tell.specs.Spelling.{letters_of}

pub of_text : (name : List ℕ) → IsUtf8 name → letters_of name ≡ chars name
of_text name text = rw (is_utf8-from_IsUtf8 name text) refl

pub of_octets : (name : List ℕ) → (IsUtf8 name → ⊥) → letters_of name ≡ name
of_octets name none = by_test (is_utf8 name) refl
  where
    by_test : (b : Bool) → is_utf8 name ≡ b → letters_of name ≡ name
    by_test true is = absurd (none (IsUtf8-from_is_utf8 name is))
    by_test false is = rw is refl

map_id : (xs : List ℕ) → map (λ (x : ℕ). x) xs ≡ xs
map_id [] = refl
map_id (x ∷ xs) = ap (λ (t : List ℕ). x ∷ t) (map_id xs)

pub all_letters : (spell : ℕ → List ℕ) (old new letters text : List ℕ) → new ≡ old ++ flat_map spell letters → map (λ (letter : ℕ). letter) letters ≡ chars text → new ≡ old ++ flat_map spell (chars text)
all_letters spell old new letters text is same = is ∙ ap (λ (ls : List ℕ). old ++ flat_map spell ls) (sym (map_id letters) ∙ same)
