-- Moments and addresses that are written from the last place to the first.
use Rattle.std.proofs.Common.{◌≡◌, ℕ, ◌+◌, ◌-◌, ◌^◌, ◌≤◌, ◌<◌, ◌/◌, ◌%◌, true, nat_lt, inl, inr, codes, List, [], ◌∷◌, ◌++◌, length, get_or, set, subst, zero, suc, take, drop, replicate, decimal, min, refl, sym, ap, ◌∙◌, arith, append_assoc, length-set, take-take, drop_of_length-le}
use Rattle.std.proofs.Math.Seq.{take-append-add}
use Rattle.std.specs.Str.{IsAscii, bytes_eq}
use Rattle.std.specs.Fmt.{digits}
use Rattle.std.specs.Cmp.Lexicographic.{bytes_decides}
use Rattle.std.proofs.lemmas.Bool.{agree_below_at, cases_lt, ltb-true}
use Rattle.std.proofs.lemmas.List.{get_or_past, drop-set, take-append-drop, take-replicate, length-replicate, length-drop, take_all, drop-replicate, drop-append-le}
use Rattle.std.proofs.lemmas.Fmt.{length-decimal-le, IsAscii-decimal}
use Rattle.std.proofs.lemmas.Str.{IsAscii-append}
use Rattle.std.proofs.lemmas.Str.Ascii.{IsAscii-nil, IsAscii-cons}
use Rattle.sacn_tell.specs.Sentences.{universe_text}
use Rattle.sacn_tell.specs.Spelling.{address_text, moment_text, zeros}

-- how many digits there are at most
pub octet_short : (n : ℕ) → n < 2 ^ 8 → length (decimal n) ≤ 3
octet_short n below = length-decimal-le 3 n (omega arith) (omega arith) (omega arith)

pub port_short : (n : ℕ) → n < 2 ^ 16 → length (decimal n) ≤ 5
port_short n below = length-decimal-le 5 n (omega arith) (omega arith) (omega arith)

pub seconds_short : (n : ℕ) → n < 2 ^ 64 → length (decimal n) ≤ 20
seconds_short n below = length-decimal-le 20 n (omega arith) (omega arith) (omega arith)

-- the parts of an address, each before the next
pub address_is : (a x0 x1 x2 x3 rest : List ℕ) → x0 ≡ decimal (get_or a 0 0) ++ x1 → x1 ≡ 46 ∷ (decimal (get_or a 1 0) ++ x2) → x2 ≡ 46 ∷ (decimal (get_or a 2 0) ++ x3) → x3 ≡ 46 ∷ (decimal (get_or a 3 0) ++ rest) → x0 ≡ address_text a ++ rest
unfolding address_text
address_is a x0 x1 x2 x3 rest first second third fourth =
    let d = λ (i : ℕ). decimal (get_or a i 0) in
    rw (first, second, third, fourth) (sym (append_assoc (d 0) (46 ∷ (d 1 ++ (46 ∷ (d 2 ++ (46 ∷ d 3))))) rest
    ∙ ap (λ (t : List ℕ). d 0 ++ (46 ∷ t)) (append_assoc (d 1) (46 ∷ (d 2 ++ (46 ∷ d 3))) rest
    ∙ ap (λ (t : List ℕ). d 1 ++ (46 ∷ t)) (append_assoc (d 2) (46 ∷ d 3) rest))))

-- three digits: a table of a thousand rows
three : (n : ℕ) → n < 1000 → zeros 3 (decimal n) ≡ (48 + n / 100) ∷ (48 + n / 10 % 10) ∷ (48 + n % 10) ∷ []
unfolding digits
three n below = (bytes_decides (zeros 3 (decimal n)) ((48 + n / 100) ∷ (48 + n / 10 % 10) ∷ (48 + n % 10) ∷ [])).0 (agree_below_at (λ k. bytes_eq (zeros 3 (decimal k)) ((48 + k / 100) ∷ (48 + k / 10 % 10) ∷ (48 + k % 10) ∷ [])) (λ k. true) 1000 n refl below)

pub places_are : (room : List ℕ) (n : ℕ) → length room ≡ 24 → n < 1000 → drop 20 (set (set (set (set room 23 (48 + n % 10)) 22 (48 + n / 10 % 10)) 21 (48 + n / 100)) 20 46) ≡ 46 ∷ zeros 3 (decimal n)
places_are room n long below =
    let a = set room 23 (48 + n % 10) in
    let b = set a 22 (48 + n / 10 % 10) in
    let c = set b 21 (48 + n / 100) in
    let la = length-set room 23 (48 + n % 10) in
    let lb = length-set a 22 (48 + n / 10 % 10) in
    let lc = length-set b 21 (48 + n / 100) in
    drop-set c 20 46 (omega (arith, la, lb, lc)) ∙ ap (λ (t : List ℕ). 46 ∷ t) (
    drop-set b 21 (48 + n / 100) (omega (arith, la, lb)) ∙ ap (λ (t : List ℕ). (48 + n / 100) ∷ t) (
    drop-set a 22 (48 + n / 10 % 10) (omega (arith, la)) ∙ ap (λ (t : List ℕ). (48 + n / 10 % 10) ∷ t) (
    drop-set room 23 (48 + n % 10) (omega arith) ∙ ap (λ (t : List ℕ). (48 + n % 10) ∷ t) (drop_of_length-le room {i = 24} (omega arith)))) ∙ sym (three n below))

-- what stands before a place also stands before an earlier one
pub before_earlier : (r n : ℕ) (xs ys zs : List ℕ) → r ≤ n → take r xs ≡ take r ys → take n ys ≡ take n zs → take r xs ≡ take r zs
before_earlier r n xs ys zs less first second = first ∙ sym (take-take r n ys less) ∙ ap (take r) second ∙ take-take r n zs less

-- a moment, with the spaces in front of it
pub moment_is : (moment start : ℕ) (room old : List ℕ) → start + length (decimal (moment / 1000)) ≡ 20 → take start room ≡ take start old → old ≡ replicate 24 32 → drop start room ≡ decimal (moment / 1000) ++ (46 ∷ zeros 3 (decimal (moment % 1000))) → drop (min start 14) room ≡ moment_text moment
unfolding moment_text
moment_is moment start room old place before spaces written =
    let seconds = decimal (moment / 1000) in
    let places = 46 ∷ zeros 3 (decimal (moment % 1000)) in
    let whole : room ≡ replicate start 32 ++ (seconds ++ places) = sym (take-append-drop start room) ∙ rw (before, spaces, take-replicate {X = ℕ} start 24 32 (omega arith), written) refl in
    let lack : start - min start 14 ≡ 6 - length seconds = omega arith in
    ap (drop (min start 14)) whole ∙ drop-append-le (min start 14) (replicate start 32) (seconds ++ places) (omega (arith, length-replicate {A = ℕ} start 32)) ∙ rw (drop-replicate {X = ℕ} (min start 14) start 32, lack) (sym (append_assoc (replicate (6 - length seconds) 32) seconds places))

-- letters of ASCII alone
dot : (xs : List ℕ) → IsAscii xs → IsAscii (46 ∷ xs)
dot xs h = IsAscii-cons 46 xs (omega arith) h

pub address_ascii : (a rest : List ℕ) → ((i : ℕ) → get_or a i 0 < 2 ^ 8) → IsAscii rest → IsAscii (address_text a ++ rest)
unfolding address_text
address_ascii a rest fits ends =
    let part = λ (i : ℕ). IsAscii-decimal (get_or a i 0) (omega (arith, fits i)) in
    IsAscii-append _ rest (IsAscii-append _ _ (part 0) (dot _ (IsAscii-append _ _ (part 1) (dot _ (IsAscii-append _ _ (part 2) (dot _ (part 3))))))) ends

pub port_ascii : (n : ℕ) (rest : List ℕ) → n < 2 ^ 16 → IsAscii rest → IsAscii (58 ∷ (decimal n ++ rest))
port_ascii n rest below ends = IsAscii-cons 58 (decimal n ++ rest) (omega arith) (IsAscii-append (decimal n) rest (IsAscii-decimal n (omega arith)) ends)

spaces_ascii : (n : ℕ) → IsAscii (replicate n 32)
spaces_ascii zero = IsAscii-nil
spaces_ascii (suc n) = IsAscii-cons 32 (replicate n 32) (omega arith) (spaces_ascii n)

places_ascii : (n : ℕ) → n < 1000 → IsAscii (zeros 3 (decimal n))
places_ascii n below =
    let x = 48 + n / 100 in
    let y = 48 + n / 10 % 10 in
    let z = 48 + n % 10 in
    subst IsAscii (sym (three n below)) (IsAscii-cons x (y ∷ z ∷ []) (omega arith) (IsAscii-cons y (z ∷ []) (omega arith) (IsAscii-cons z [] (omega arith) IsAscii-nil)))

pub moment_ascii : (moment : ℕ) → moment < 2 ^ 64 → IsAscii (moment_text moment)
unfolding moment_text
moment_ascii moment below =
    let seconds = decimal (moment / 1000) in
    let spaces : List ℕ = replicate (6 - length seconds) 32 in
    IsAscii-append (spaces ++ seconds) (46 ∷ zeros 3 (decimal (moment % 1000)))
    (IsAscii-append spaces seconds (spaces_ascii (6 - length seconds)) (IsAscii-decimal (moment / 1000) (omega arith)))
    (dot (zeros 3 (decimal (moment % 1000))) (places_ascii (moment % 1000) (omega arith)))

-- what is written up to the end of the room is all that is pushed
pub up_to_the_end : (m : ℕ) (room text : List ℕ) → length room ≡ 24 → drop m room ≡ text → take (24 - m) (drop m room) ≡ text
up_to_the_end m room text long is = take_all (24 - m) (drop m room) (omega (arith, length-drop m room)) ∙ is

-- a universe's number in its place
pub universe_is : (n start : ℕ) (new : List ℕ) → n < 2 ^ 16 → start + length (decimal n) ≡ 14 → take start new ≡ take start (codes "universe " ++ replicate 7 32) → drop start new ≡ decimal n ++ drop 14 (codes "universe " ++ replicate 7 32) → new ≡ universe_text n
unfolding universe_text
universe_is n start new below place before written =
    let number : List ℕ = decimal n in
    let word : List ℕ = codes "universe " in
    let short = port_short n below in
    let lack : ℕ = 5 - length number in
    let at : start ≡ 9 + (5 - length (decimal n)) = omega (arith, short) in
    let front : take start (word ++ replicate 7 32) ≡ word ++ replicate lack 32 = ap (λ (s : ℕ). take s (word ++ replicate 7 32)) at ∙ take-append-add word (replicate 7 32) lack ∙ ap (λ (t : List ℕ). word ++ t) (take-replicate {X = ℕ} lack 7 32 (omega arith)) in
    sym (take-append-drop start new) ∙ rw (before, front, written) (append_assoc word (replicate lack 32) (number ++ codes "  ") ∙ ap (λ (t : List ℕ). word ++ t) (sym (append_assoc (replicate lack 32) number (codes "  "))))

word_ascii : IsAscii (codes "universe ")
word_ascii i =
    elim (cases_lt i 9) [
      | inl below ↦ ltb-true (get_or (codes "universe ") i 0) 128 (agree_below_at (λ n. nat_lt (get_or (codes "universe ") n 0) 128) (λ n. true) 9 i refl below)
      | inr past ↦ let none = get_or_past (codes "universe ") i 0 past in omega (arith, none)
    ]

pub universe_ascii : (n : ℕ) → n < 2 ^ 16 → IsAscii (universe_text n)
unfolding universe_text
universe_ascii n below =
    let spaces : List ℕ = replicate (5 - length (decimal n)) 32 in
    IsAscii-append (codes "universe ") ((spaces ++ decimal n) ++ codes "  ") word_ascii
    (IsAscii-append (spaces ++ decimal n) (codes "  ") (IsAscii-append spaces (decimal n) (spaces_ascii (5 - length (decimal n))) (IsAscii-decimal n (omega arith))) (spaces_ascii 2))
