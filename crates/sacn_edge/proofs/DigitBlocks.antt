-- The digits of octets, a block of lanes at a time.
use Rattle.std.proofs.Common.{◌≡◌, ℕ, ◌+◌, ◌*◌, ◌/◌, ◌%◌, ◌<◌, ◌≤◌, List, [], ◌∷◌, ◌++◌, map, length, take, drop, get_or, replicate, slice_index, length-drop, refl, sym, ap, subst, ◌∙◌, arith, w8, Fits}
use lib.Lanes.{Each1, zip2, put_chunk, pick_l}
use borrow.Rule.Slice.PartMut.{put_mid}
use Rattle.std.proofs.lemmas.List.{append_assoc, append-nil, drop_all, ext_get_or, get_or-map, length-map, take_all}
use Rattle.std.proofs.lemmas.Simd.{Each1-get_or, Each1-from_get_or, SwzOk, SwzOk-from_below, chunk-drop, get_or-replicate, get_or-swz_l_below, get_or-zip2, length-chunk, length-put_chunk, length-swz_l, length-zip2, pick_l_whole, swz_l, take_more_put_chunk}
use Rattle.std.proofs.lemmas.Slice.{take-put_mid}
use Rattle.hex.proofs.HexLemmas.{length-encode_with}
use Rattle.hex.specs.Hex.{encode_lower, encode_with, lower_digits}

-- ---- a list read at the places that lanes name

abbrev pub IsBlock : List ℕ → Type 0
IsBlock v = (length v ≡ 16) × Each1 (Fits w8) v

-- the lanes of js are g of the lanes of v
record Places (g : ℕ → ℕ) (v js : List ℕ) : Type 0 where
  long : length js ≡ 16
  each : (i : ℕ) → i < 16 → get_or js i 0 ≡ g (get_or v i 0)

-- each lane of v under an operation with the same number, which is g of the lane
module _ (f : ℕ → ℕ → ℕ) (g : ℕ → ℕ) (y : ℕ) (v : List ℕ) (block : IsBlock v) (same : (x : ℕ) → f x y ≡ g x) where
  abbrev lanes : List ℕ
  lanes = zip2 f v (replicate 16 y)

  lane_fits : (i : ℕ) → i < 16 → get_or v i 0 < 256
  lane_fits i lt = (Each1-get_or (Fits w8) v i 0 (omega arith) block.1).fits

  places : Places g v lanes
  places = record {
    long = length-zip2 f v (replicate 16 y) block.0 ∙ block.0;
    each = λ i lt. get_or-zip2 f v (replicate 16 y) i 0 0 0 (omega arith) lt ∙ ap (f (get_or v i 0)) (get_or-replicate 16 i y 0 lt) ∙ same (get_or v i 0);
  }

  module _ (small : (x : ℕ) → x < 256 → g x < 16) where
    below : (i : ℕ) → i < 16 → get_or lanes i 0 < 16
    below i lt = omega (arith, places.each i lt, small (get_or v i 0) (lane_fits i lt))

    -- each is a place of a list of sixteen
    pub within : SwzOk w8 16 16 0 lanes
    within = SwzOk-from_below w8 16 1 16 0 lanes refl (omega (arith, places.long)) (Each1-from_get_or (λ j. j < 16) lanes 0 (λ i lt. below i (omega (arith, places.long))))

    -- and what is read of the list t there
    pub looked_up : (t : List ℕ) → swz_l w8 16 t 0 lanes ≡ map (λ x. get_or t (g x) 0) v
    looked_up t =
        ext_get_or 0 (swz_l w8 16 t 0 lanes) (map (λ x. get_or t (g x) 0) v) (length-swz_l w8 16 t 0 lanes ∙ places.long ∙ sym block.0 ∙ sym (length-map v (λ x. get_or t (g x) 0))) (λ i h.
        let lt : i < 16 = omega (arith, length-swz_l w8 16 t 0 lanes, places.long) in
        get_or-swz_l_below w8 16 t 0 lanes i (omega (arith, places.long)) (below i lt)
        ∙ ap (λ k. get_or t k 0) (omega (arith, places.each i lt))
        ∙ sym (get_or-map (λ x. get_or t (g x) 0) v i 0 0 (omega (arith, block.0))))

-- ---- the digits of a block

-- the lanes of two vectors in turn
abbrev pub woven : List ℕ → List ℕ → List ℕ
woven high low = pick_l 0 (high ++ low) (0 ∷ 16 ∷ 1 ∷ 17 ∷ 2 ∷ 18 ∷ 3 ∷ 19 ∷ 4 ∷ 20 ∷ 5 ∷ 21 ∷ 6 ∷ 22 ∷ 7 ∷ 23 ∷ 8 ∷ 24 ∷ 9 ∷ 25 ∷ 10 ∷ 26 ∷ 11 ∷ 27 ∷ 12 ∷ 28 ∷ 13 ∷ 29 ∷ 14 ∷ 30 ∷ 15 ∷ 31 ∷ [])

abbrev pub high_digit : ℕ → ℕ
high_digit octet = slice_index lower_digits (octet / 16)

abbrev pub low_digit : ℕ → ℕ
low_digit octet = slice_index lower_digits (octet % 16)

-- high and low digits in turn are the digits of sixteen octets
pub woven_is : (octets high low : List ℕ) → length octets ≡ 16 → high ≡ map high_digit octets → low ≡ map low_digit octets → woven high low ≡ encode_lower octets
unfolding encode_with
woven_is octets high low long h l =
    rw (h, l) (subst (λ xs. woven (map high_digit xs) (map low_digit xs) ≡ encode_lower xs) (pick_l_whole 0 octets 16 long) refl)

-- two vectors that are stored one behind the other
pub stored_both : (digits front back : List ℕ) → length digits ≡ 32 → length front ≡ 16 → length back ≡ 16 → put_chunk 16 (put_chunk 0 digits front) back ≡ front ++ back
stored_both digits front back room first second =
    let now = put_chunk 0 digits front in
    let same : length now ≡ 32 = length-put_chunk 0 digits front ∙ room in
    let whole : take 32 (put_chunk 16 now back) ≡ put_chunk 16 now back = take_all 32 (put_chunk 16 now back) (omega (arith, length-put_chunk 16 now back)) in
    sym whole
    ∙ take_more_put_chunk 16 now back 32 (omega arith) (omega arith)
    ∙ ap (λ l. l ++ back) (take_more_put_chunk 0 digits front 16 (omega arith) (omega arith))

-- ---- blocks in turn

-- the digits of octets and then of more
encode-append : (t xs ys : List ℕ) → encode_with t (xs ++ ys) ≡ encode_with t xs ++ encode_with t ys
unfolding encode_with
encode-append t [] ys = refl
encode-append t (x ∷ xs) ys = rw (encode-append t xs ys) refl

-- where the digits of the octets before `at` stand, and then those of the octets from there on are all
module _ (octets digits written : List ℕ) (at : ℕ) (room : length digits ≡ 2 * length octets) (before : take (2 * at) digits ++ encode_lower (drop at octets) ≡ encode_lower octets) where
  -- one block more is written
  pub block_more : (k n : ℕ) → k ≡ 32 → n ≡ 16 → at + 16 ≤ length octets → written ≡ encode_lower (take n (drop at octets))
      → take (2 * (at + 16)) (put_mid (2 * at) k digits written) ++ encode_lower (drop (at + 16) octets) ≡ encode_lower octets
  block_more k n wide narrow within so =
      let block = take 16 (drop at octets) in
      let rest = drop (at + 16) octets in
      let is : written ≡ encode_lower block = so ∙ ap (λ m. encode_lower (take m (drop at octets))) narrow in
      let long : length written ≡ 32 = ap length is ∙ length-encode_with lower_digits block ∙ ap (λ n. 2 * n) (length-chunk at 16 octets within) in
      ap (λ front. front ++ encode_lower rest) (take-put_mid (2 * at) k digits written (2 * (at + 16)) (omega arith) (omega arith))
      ∙ append_assoc (take (2 * at) digits) written (encode_lower rest)
      ∙ ap (λ (l : List ℕ). take (2 * at) digits ++ l) (ap (λ l. l ++ encode_lower rest) is ∙ sym (encode-append lower_digits block rest) ∙ ap encode_lower (sym (chunk-drop at 16 octets)))
      ∙ before

  -- and what is left fills the rest
  pub rest_written : (k n : ℕ) → 2 * at + k ≡ length digits → length octets ≤ at + n → written ≡ encode_lower (take n (drop at octets)) → put_mid (2 * at) k digits written ≡ encode_lower octets
  rest_written k n whole all is =
      let none : drop k (drop (2 * at) digits) ≡ [] = drop_all k (drop (2 * at) digits) (omega (arith, length-drop {A = ℕ} (2 * at) digits)) in
      let left : take n (drop at octets) ≡ drop at octets = take_all n (drop at octets) (omega (arith, length-drop {A = ℕ} at octets)) in
      ap (λ (past : List ℕ). take (2 * at) digits ++ (written ++ past)) none
      ∙ ap (λ (l : List ℕ). take (2 * at) digits ++ l) (append-nil written ∙ is ∙ ap encode_lower left)
      ∙ before
