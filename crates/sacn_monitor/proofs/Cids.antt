-- Two CIDs whose halves are the same numbers are the same.
use Rattle.std.proofs.Common.{◌≡◌, ◌+◌, ◌-◌, ◌<◌, ◌++◌, ℕ, Bool, true, false, List, length, get_or, take, drop, bytes_eq, refl, sym, ap, ◌∙◌, arith, ◌&&◌, nat_eq, nat_lt}
use Rattle.std.specs.Bool.{one_answer}
use Rattle.std.specs.Int.{from_be_bytes, w64}
use Rattle.std.proofs.lemmas.Bool.{eq-eqb, eqb-true, ltb-false, ltb-true}
use Rattle.std.proofs.lemmas.List.{get_or-drop, get_or-take, get_or_past, length-drop, length-take, length-take-le, take-append-drop}
use Rattle.std.proofs.lemmas.Nat.{be_bytes_8}
use Rattle.std.proofs.lemmas.Slice.Eq.{bytes_eq-Decides}

-- eight octets are told by their number
same_octets : (xs ys : List ℕ) → length xs ≡ 8 → length ys ≡ 8 → ((i : ℕ) → get_or xs i 0 < 256) → ((i : ℕ) → get_or ys i 0 < 256) → from_be_bytes w64 xs ≡ from_be_bytes w64 ys → xs ≡ ys
same_octets xs ys long wide small low same = sym (be_bytes_8 xs (from_be_bytes w64 xs) long small refl) ∙ be_bytes_8 ys (from_be_bytes w64 xs) wide low same

module _ (a b : List ℕ) (long : length a ≡ 16) (wide : length b ≡ 16) (small : (i : ℕ) → get_or a i 0 < 256) (low : (i : ℕ) → get_or b i 0 < 256) where
  front_small : (xs : List ℕ) → ((i : ℕ) → get_or xs i 0 < 256) → (i : ℕ) → get_or (take 8 xs) i 0 < 256
  front_small xs are i = elim (nat_lt i 8) as (λ t. nat_lt i 8 ≡ t → get_or (take 8 xs) i 0 < 256) [
    | true ↦ λ within. rw (get_or-take 8 xs i 0 (ltb-true i 8 within)) (are i)
    | false ↦ λ past. rw (get_or_past (take 8 xs) i 0 (omega (arith, length-take 8 xs, ltb-false i 8 past))) (omega arith)
  ] refl

  back_small : (xs : List ℕ) → ((i : ℕ) → get_or xs i 0 < 256) → (i : ℕ) → get_or (drop 8 xs) i 0 < 256
  back_small xs are i = rw (get_or-drop 8 xs i 0) (are (8 + i))

  halves : from_be_bytes w64 (take 8 a) ≡ from_be_bytes w64 (take 8 b) → from_be_bytes w64 (drop 8 a) ≡ from_be_bytes w64 (drop 8 b) → a ≡ b
  halves front back =
      sym (take-append-drop 8 a)
      ∙ ap (λ (xs : List ℕ). xs ++ drop 8 a) (same_octets (take 8 a) (take 8 b) (length-take-le 8 a (omega (arith, long))) (length-take-le 8 b (omega (arith, wide))) (front_small a small) (front_small b low) front)
      ∙ ap (λ (xs : List ℕ). take 8 b ++ xs) (same_octets (drop 8 a) (drop 8 b) (omega (arith, length-drop 8 a, long)) (omega (arith, length-drop 8 b, wide)) (back_small a small) (back_small b low) back)
      ∙ take-append-drop 8 b

  both : (p q : Bool) → p && q ≡ true → (p ≡ true) × (q ≡ true)
  both true true is = (refl, refl)
  both true false is = absurd (cc is)
  both false q is = absurd (cc is)

  numbers : (m n : ℕ) → m ≡ n → nat_eq m n ≡ true
  numbers m n same = eq-eqb m n same

  -- so comparing the numbers of both halves compares all octets
  pub told_by_halves : (fa fb ba bb : ℕ) → fa ≡ from_be_bytes w64 (take 8 a) → fb ≡ from_be_bytes w64 (take 8 b) → ba ≡ from_be_bytes w64 (drop 8 a) → bb ≡ from_be_bytes w64 (drop 8 b) → nat_eq fa fb && nat_eq ba bb ≡ bytes_eq a b
  told_by_halves fa fb ba bb is_fa is_fb is_ba is_bb = one_answer (nat_eq fa fb && nat_eq ba bb) (bytes_eq a b) (
    (λ is. let each = both (nat_eq fa fb) (nat_eq ba bb) is in
        halves (sym is_fa ∙ eqb-true fa fb each.0 ∙ is_fb) (sym is_ba ∙ eqb-true ba bb each.1 ∙ is_bb)),
    (λ same. rw (numbers fa fb (is_fa ∙ ap (λ (xs : List ℕ). from_be_bytes w64 (take 8 xs)) same ∙ sym is_fb), numbers ba bb (is_ba ∙ ap (λ (xs : List ℕ). from_be_bytes w64 (drop 8 xs)) same ∙ sym is_bb)) refl),
  )
      (bytes_eq-Decides a b)
