-- The pieces of a word as it is scanned.
use Rattle.std.proofs.Common.{◌≡◌, ◌∙◌, ap, refl, sym, ℕ, ◌+◌, ◌-◌, ◌<◌, ◌≤◌, Bool, true, false, if◌then◌else◌, List, [], ◌∷◌, ◌++◌, length, take, drop, get_or, arith, append_assoc}
use Rattle.std.proofs.lemmas.List.{drop_more}
use Rattle.std.proofs.lemmas.Bool.Decides.{nat_tests}
use Rattle.sacn_files.proofs.WordLemmas.{part_more}
use Rattle.sacn_files.specs.Words.{words_at_end}
use Rattle.sacn_orders.specs.Pieces.{is_sign, pieces_after}

pieces_after-sign : (part : List ℕ) (b : ℕ) (bs : List ℕ) → is_sign b ≡ true → pieces_after part (b ∷ bs) ≡ words_at_end part ++ (b ∷ []) ∷ pieces_after [] bs
pieces_after-sign part b bs h = rw h refl

pieces_after-more : (part : List ℕ) (b : ℕ) (bs : List ℕ) → is_sign b ≡ false → pieces_after part (b ∷ bs) ≡ pieces_after (part ++ b ∷ []) bs
pieces_after-more part b bs h = rw h refl

pub sign_is_ascii : (b : ℕ) → is_sign b ≡ true → b < 128
sign_is_ascii b h = grind (arith, nat_tests)

-- the text at a place is its octet
one_there : (bs : List ℕ) (i d : ℕ) → i < length bs → take (i + 1 - i) (drop i bs) ≡ get_or bs i d ∷ []
one_there bs i d lt =
    let one : i + 1 - i ≡ 1 = omega arith in
    rw (one, drop_more bs i d lt) refl

regrouped : {X : Type 0} (done part : List X) (x : X) (later : List X) → done ++ (part ++ x ∷ later) ≡ ((done ++ part) ++ x ∷ []) ++ later
regrouped done part x later = simp append_assoc

-- a sign ends a piece and is one
pub at_sign : (bs : List ℕ) (start i d : ℕ) (all done more last : List (List ℕ)) → i < length bs → is_sign (get_or bs i d) ≡ true
    → all ≡ done ++ pieces_after (take (i - start) (drop start bs)) (drop i bs)
    → more ≡ done ++ words_at_end (take (i - start) (drop start bs))
    → last ≡ more ++ words_at_end (take (i + 1 - i) (drop i bs))
    → all ≡ last ++ pieces_after (take (i + 1 - (i + 1)) (drop (i + 1) bs)) (drop (i + 1) bs)
at_sign bs start i d all done more last lt sign left grown added =
    let none : i + 1 - (i + 1) ≡ 0 = omega arith in
    let part = take (i - start) (drop start bs) in
    let rest = drop (i + 1) bs in
    let b = get_or bs i d in
    let own : last ≡ (done ++ words_at_end part) ++ (b ∷ []) ∷ [] = added ∙ ap (λ t. more ++ words_at_end t) (one_there bs i d lt) ∙ ap (λ t. t ++ (b ∷ []) ∷ []) grown in
    left
    ∙ ap (λ t. done ++ pieces_after part t) (drop_more bs i d lt)
    ∙ ap (λ t. done ++ t) (pieces_after-sign part b rest sign)
    ∙ regrouped done (words_at_end part) (b ∷ []) (pieces_after [] rest)
    ∙ ap (λ t. t ++ pieces_after [] rest) (sym own)
    ∙ ap (λ n. last ++ pieces_after (take n rest) rest) (sym none)

-- another octet goes on with a piece
pub at_other : (bs : List ℕ) (start i d : ℕ) (all done : List (List ℕ)) → start ≤ i → i < length bs → is_sign (get_or bs i d) ≡ false
    → all ≡ done ++ pieces_after (take (i - start) (drop start bs)) (drop i bs)
    → all ≡ done ++ pieces_after (take (i + 1 - start) (drop start bs)) (drop (i + 1) bs)
at_other bs start i d all done le lt other left =
    left
    ∙ ap (λ t. done ++ pieces_after (take (i - start) (drop start bs)) t) (drop_more bs i d lt)
    ∙ ap (λ t. done ++ t) (pieces_after-more (take (i - start) (drop start bs)) (get_or bs i d) (drop (i + 1) bs) other)
    ∙ ap (λ t. done ++ pieces_after t (drop (i + 1) bs)) (sym (part_more bs start i d le lt))
