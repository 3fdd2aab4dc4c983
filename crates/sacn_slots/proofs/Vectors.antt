-- Lanes that are chosen by a comparison, loaded from slots, and stored over them.
use Rattle.std.proofs.Common.{◌≡◌, ℕ, zero, suc, ◌+◌, ◌-◌, ◌≤◌, ◌<◌, ◌^◌, ◌==◌, max, Bool, false, cond, ltb, eqb, replicate, List, [], ◌∷◌, length, take, drop, get_or, map, ap, ◌∙◌, arith, w8, append-nil, inl, inr}
use lib.Lanes.{zip2, sel_l, chunk, put_chunk, top}
use borrow.Rule.Slice.PartMut.{put_mid, mid_of}
use mir.Val.{hbits, bits}
use Rattle.std.proofs.lemmas.Bool.{cases_lt}
use Rattle.std.proofs.lemmas.Bool.Decides.{nat_tests}
use Rattle.std.proofs.lemmas.List.{take_all, drop_all, get_or-take, get_or-drop}
use Rattle.std.proofs.lemmas.Simd.{tops_compared, length-zip2, length-sel_l, get_or-sel_l, get_or-zip2, get_or-chunk, get_or-put_chunk_below, get_or-put_chunk_at, get_or-put_chunk_above, length-replicate, get_or-replicate}
use Rattle.sacn_slots.specs.Following.{level_followed, counted}

-- ---- lanes chosen

-- those of us where t holds of xs and ys, and of vs elsewhere
abbrev pub chosen : (ℕ → ℕ → Bool) → List ℕ → List ℕ → List ℕ → List ℕ → List ℕ
chosen t xs ys us vs = sel_l (map (top (hbits w8)) (zip2 (λ x y. cond (t x y) (2 ^ bits w8 - 1) 0) xs ys)) us vs

module _ (n : ℕ) (t : ℕ → ℕ → Bool) (xs ys us vs : List ℕ) (long_xs : length xs ≡ n) (long_ys : length ys ≡ n) (long_us : length us ≡ n) (long_vs : length vs ≡ n) where
  chosen_is : chosen t xs ys us vs ≡ sel_l (zip2 t xs ys) us vs
  chosen_is = ap (λ ms. sel_l ms us vs) (tops_compared w8 t xs ys)

  long_tests : length (zip2 t xs ys) ≡ n
  long_tests = length-zip2 t xs ys (omega arith) ∙ long_xs

  length-chosen : length (chosen t xs ys us vs) ≡ n
  length-chosen = ap length chosen_is ∙ length-sel_l (zip2 t xs ys) us vs (omega (arith, long_tests)) (omega (arith, long_tests)) ∙ long_tests

  get_or-chosen : (i : ℕ) → i < n → get_or (chosen t xs ys us vs) i 0 ≡ cond (t (get_or xs i 0) (get_or ys i 0)) (get_or us i 0) (get_or vs i 0)
  get_or-chosen i lt =
      ap (λ l. get_or l i 0) chosen_is
      ∙ get_or-sel_l (zip2 t xs ys) us vs i 0 (omega (arith, long_tests)) (omega arith) (omega arith)
      ∙ ap (λ b. cond b (get_or us i 0) (get_or vs i 0)) (get_or-zip2 t xs ys i 0 0 false (omega arith) (omega arith))

-- the greater of each two
abbrev pub larger : List ℕ → List ℕ → List ℕ
larger a b = chosen ltb a b b a

module _ (n : ℕ) (a b : List ℕ) (long_a : length a ≡ n) (long_b : length b ≡ n) where
  pub get_or-larger : (i : ℕ) → i < n → get_or (larger a b) i 0 ≡ max (get_or a i 0) (get_or b i 0)
  get_or-larger i lt = get_or-chosen n ltb a b b a long_a long_b long_b long_a i lt ∙ larger_one (get_or a i 0) (get_or b i 0)
    where
      larger_one : (x y : ℕ) → cond (ltb x y) y x ≡ max x y
      larger_one x y = grind (arith, nat_tests)

module _ (n : ℕ) (p a q b : List ℕ) (long_p : length p ≡ n) (long_a : length a ≡ n) (long_q : length q ≡ n) (long_b : length b ≡ n) where
  pub get_or-followed : (i : ℕ) → i < n → get_or (chosen ltb p q b (chosen ltb q p a (larger a b))) i 0 ≡ level_followed (get_or p i 0) (get_or a i 0) (get_or q i 0) (get_or b i 0)
  get_or-followed i lt =
      let long_larger = length-chosen n ltb a b b a long_a long_b long_b long_a in
      let long_rest = length-chosen n ltb q p a (larger a b) long_q long_p long_a long_larger in
      get_or-chosen n ltb p q b (chosen ltb q p a (larger a b)) long_p long_q long_b long_rest i lt
      ∙ ap (λ m. cond (ltb (get_or p i 0) (get_or q i 0)) (get_or b i 0) m)
      (get_or-chosen n ltb q p a (larger a b) long_q long_p long_a long_larger i lt
      ∙ ap (λ m. cond (ltb (get_or q i 0) (get_or p i 0)) (get_or a i 0) m) (get_or-larger n a b long_a long_b i lt))

-- a vector of one value
abbrev splat : ℕ → ℕ → List ℕ
splat n x = replicate n x

length-splat : (n x : ℕ) → length (splat n x) ≡ n
length-splat n x = length-replicate {A = ℕ} n x

get_or-splat : (n x i : ℕ) → i < n → get_or (splat n x) i 0 ≡ x
get_or-splat n x i lt = get_or-replicate n i x 0 lt

pub get_or-counted : (n : ℕ) (p : List ℕ) → length p ≡ n → (i : ℕ) → i < n → get_or (chosen ltb (splat n 200) p (splat n 0) p) i 0 ≡ counted (get_or p i 0)
get_or-counted n p long i lt =
    get_or-chosen n ltb (splat n 200) p (splat n 0) p (length-splat n 200) long (length-splat n 0) long i lt
    ∙ ap (λ x. cond (ltb x (get_or p i 0)) (get_or (splat n 0) i 0) (get_or p i 0)) (get_or-splat n 200 i lt)
    ∙ ap (λ x. cond (ltb 200 (get_or p i 0)) x (get_or p i 0)) (get_or-splat n 0 i lt)

pub get_or-above_none : (n : ℕ) (p a : List ℕ) → length p ≡ n → length a ≡ n → (i : ℕ) → i < n → get_or (chosen eqb p (splat n 0) (splat n 0) a) i 0 ≡ cond (get_or p i 0 == 0) 0 (get_or a i 0)
get_or-above_none n p a long_p long_a i lt =
    get_or-chosen n eqb p (splat n 0) (splat n 0) a long_p (length-splat n 0) (length-splat n 0) long_a i lt
    ∙ ap (λ x. cond (eqb (get_or p i 0) x) x (get_or a i 0)) (get_or-splat n 0 i lt)

-- ---- lanes loaded and stored

pub get_or-loaded : (at k n : ℕ) (xs : List ℕ) (i : ℕ) → i < n → n ≤ k → get_or (chunk 0 n (mid_of at k xs)) i 0 ≡ get_or xs (at + i) 0
get_or-loaded at k n xs i lt le = get_or-chunk 0 n (mid_of at k xs) i 0 lt ∙ ap (λ j. get_or (mid_of at k xs) j 0) (omega arith) ∙ get_or-take k (drop at xs) i 0 (omega arith) ∙ get_or-drop at xs i 0

-- a vector stored at the front of the rest of a list is stored there in the list
put_mid-put_chunk : (at k : ℕ) (xs ys : List ℕ) → at + k ≡ length xs → put_mid at k xs (put_chunk 0 (mid_of at k xs) ys) ≡ put_chunk at xs ys
put_mid-put_chunk zero k xs ys whole =
    let all : take k xs ≡ xs = take_all k xs (omega arith) in
    let none : drop k xs ≡ [] = drop_all k xs (omega arith) in
    rw (all, none) (append-nil (put_chunk 0 xs ys))
put_mid-put_chunk (suc at) k [] ys whole = absurd (omega arith)
put_mid-put_chunk (suc at) k (x ∷ xs) ys whole = ap (λ l. x ∷ l) (put_mid-put_chunk at k xs ys (omega arith))

module _ (n w at : ℕ) (slots lanes : List ℕ) (whole : length slots ≡ n) (long : length lanes ≡ w) (room : at + w ≤ n) where
  abbrev stored : List ℕ
  stored = put_mid at (n - at) slots (put_chunk 0 (mid_of at (n - at) slots) lanes)

  stored_is : stored ≡ put_chunk at slots lanes
  stored_is = put_mid-put_chunk at (n - at) slots lanes (omega arith)

  pub stored_below : (k : ℕ) → k < at → get_or stored k 0 ≡ get_or slots k 0
  stored_below k lt = ap (λ l. get_or l k 0) stored_is ∙ get_or-put_chunk_below at slots lanes k 0 lt

  pub stored_at : (i : ℕ) → i < w → get_or stored (at + i) 0 ≡ get_or lanes i 0
  stored_at i lt = ap (λ l. get_or l (at + i) 0) stored_is ∙ get_or-put_chunk_at at slots lanes i 0 (omega (arith, long)) (omega (arith, long))

  pub stored_above : (k : ℕ) → at + w ≤ k → get_or stored k 0 ≡ get_or slots k 0
  stored_above k le = ap (λ l. get_or l k 0) stored_is ∙ get_or-put_chunk_above at slots lanes k 0 (omega (arith, long))

-- ---- a loop that stores vector after vector

module _ (before after : List ℕ) (at w : ℕ) where
  -- the slots so far are as they are to be
  pub more_done : (to : ℕ → ℕ) → ((k : ℕ) → k < at → get_or before k 0 ≡ to k) → ((k : ℕ) → k < at → get_or after k 0 ≡ get_or before k 0) → ((i : ℕ) → i < w → get_or after (at + i) 0 ≡ to (at + i)) → (k : ℕ) → k < at + w → get_or after k 0 ≡ to k
  more_done to done below here k lt = elim (cases_lt k at) [
    | inl before_at ↦ below k before_at ∙ done k before_at
    | inr past ↦
        let same : at + (k - at) ≡ k = omega arith in
        let within : k - at < w = omega arith in
        rw same at (here (k - at) within)
  ]

  -- the others are as they were
  pub others_left : (first : List ℕ) → ((k : ℕ) → at ≤ k → get_or before k 0 ≡ get_or first k 0) → ((k : ℕ) → at + w ≤ k → get_or after k 0 ≡ get_or before k 0) → (k : ℕ) → at + w ≤ k → get_or after k 0 ≡ get_or first k 0
  others_left first left above k le = above k le ∙ left k (omega arith)
