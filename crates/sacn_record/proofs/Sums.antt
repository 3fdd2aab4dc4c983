-- The sum of a header, two octets after two.
use Rattle.std.proofs.Common.{◌≡◌, ℕ, ◌+◌, ◌*◌, ◌<◌, ◌≤◌, suc, List, [], ◌∷◌, length, drop, get_or, sym, ap, ◌∙◌, arith}
use Rattle.std.proofs.Math.Seq.{drop-cons}
use Rattle.std.specs.Int.{w16, from_be_bytes}
use Rattle.std.proofs.lemmas.List.{drop_all}
use Rattle.sacn_record.specs.Packets.{ones_add, ones_sum}

pub sum_more : (sum k : ℕ) (octets : List ℕ) → k + 1 < length octets
    → ones_sum (ones_add sum (from_be_bytes w16 (get_or octets k 0 ∷ get_or octets (k + 1) 0 ∷ []))) (drop (k + 2) octets) ≡ ones_sum sum (drop k octets)
sum_more sum k octets within =
    let first : k < length octets = omega arith in
    let one : suc k ≡ k + 1 = omega arith in
    let two : suc (k + 1) ≡ k + 2 = omega arith in
    let high = drop-cons octets k 0 first ∙ ap (λ (j : ℕ). get_or octets k 0 ∷ drop j octets) one in
    let low = drop-cons octets (k + 1) 0 within ∙ ap (λ (j : ℕ). get_or octets (k + 1) 0 ∷ drop j octets) two in
    sym (ap (λ (xs : List ℕ). ones_sum sum xs) (high ∙ ap (λ (xs : List ℕ). get_or octets k 0 ∷ xs) low))

-- two octets more
pub sum_step : (octets : List ℕ) (sum word next i : ℕ) → 2 * i + 1 < length octets → word ≡ from_be_bytes w16 (get_or octets (2 * i) 0 ∷ get_or octets (2 * i + 1) 0 ∷ []) → next ≡ ones_add sum word
    → ones_sum sum (drop (2 * i) octets) ≡ ones_sum 0 octets → ones_sum next (drop (2 * (i + 1)) octets) ≡ ones_sum 0 octets
sum_step octets sum word next i within word_is next_is before =
    let further : 2 * (i + 1) ≡ 2 * i + 2 = omega arith in
    ap (λ (n : ℕ). ones_sum n (drop (2 * (i + 1)) octets)) (next_is ∙ ap (λ (w : ℕ). ones_add sum w) word_is)
    ∙ ap (λ (k : ℕ). ones_sum (ones_add sum (from_be_bytes w16 (get_or octets (2 * i) 0 ∷ get_or octets (2 * i + 1) 0 ∷ []))) (drop k octets)) further
    ∙ sum_more sum (2 * i) octets within
    ∙ before

-- none is left
pub sum_done : (octets : List ℕ) (sum i : ℕ) → length octets ≤ 2 * i → ones_sum sum (drop (2 * i) octets) ≡ ones_sum 0 octets → sum ≡ ones_sum 0 octets
sum_done octets sum i end before = ap (λ (xs : List ℕ). ones_sum sum xs) (sym (drop_all (2 * i) octets end)) ∙ before
