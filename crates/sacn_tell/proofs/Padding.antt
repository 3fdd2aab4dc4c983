-- What `{:>w}`, `{:0w}` and `{:0wx}` write.
use Rattle.std.proofs.Common.{◌≡◌, ℕ, zero, suc, ◌-◌, ◌^◌, false, List, [], ◌∷◌, ◌++◌, length, replicate, encode_utf8, refl, ap, arith}
use lib.Utf8.{encode}
use Rattle.std.specs.List.{repeat}
use Rattle.std.specs.Fmt.{padded_integral, format_spec, char_count}
use Rattle.sacn_tell.specs.Spelling.{right, zeros}

repeated : (n : ℕ) → repeat n (encode_utf8 32) ≡ replicate n 32
unfolding encode
repeated zero = refl
repeated (suc n) = ap (λ (t : List ℕ). 32 ∷ t) (repeated n)

append_nil : (xs : List ℕ) → xs ++ [] ≡ xs
append_nil [] = refl
append_nil (x ∷ xs) = ap (λ (t : List ℕ). x ∷ t) (append_nil xs)

pub right_is : (w : ℕ) (text : List ℕ) → padded_integral (format_spec 32 3 0 w (2 ^ 64 - 1)) false [] text ≡ right w text
unfolding padded_integral char_count
right_is w text = let less : w - length text - 0 - 0 ≡ w - length text = omega arith in let none : w - length text - (w - length text) ≡ 0 = omega arith in rw (less, repeated (w - length text), none, append_nil text, append_nil (replicate (w - length text) 32), append_nil (replicate (w - length text) 32), append_nil (replicate (w - length text) 32)) refl

pub zeros_is : (w : ℕ) (text : List ℕ) → padded_integral (format_spec 32 0 4 w (2 ^ 64 - 1)) false [] text ≡ zeros w text
unfolding padded_integral char_count
zeros_is w text = let less : w - length text - 0 - 0 ≡ w - length text = omega arith in rw (less, append_nil text) refl
