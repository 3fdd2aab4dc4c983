-- A level by its fade's slope is the level by the quotient.
use Rattle.std.proofs.Common.{◌≡◌, ℕ, ◌+◌, ◌-◌, ◌*◌, ◌/◌, ◌<◌, ◌≤◌, Bool, true, false, ◌||◌, ◌==◌, nat_lt, if◌then◌else◌, refl, sym, ap, ◌∙◌, arith}
use Rattle.std.proofs.lemmas.Bool.Decides.{nat_tests}
use Rattle.std.proofs.lemmas.Nat.{le-div, div_below, mul-lt}
use Rattle.std.proofs.Math.Nat.{mul_comm, mul_right_comm, add-mul, div-mul-le_self, lt-div-mul-add, div-le_of_le-mul, le_of_mul-le-mul_right, lt_of_mul-lt-mul_right, mul-le-mul_right}
use Rattle.sacn_cues.specs.declared.slope.TheConstants.{PARTS, LONGEST}
use Rattle.sacn_cues.specs.Levels.{part_of}
use Rattle.sacn_cues.specs.Slopes.{distance, steepness, slope_of}

-- ---- plain steps, of products that stand as variables

low_by : (m t st : ℕ) → 0 < t → m + (t - 1) < st + t → m ≤ st
low_by m t st pos h = omega (arith, pos, h)

high_by : (m t st : ℕ) → 0 < t → st ≤ m + (t - 1) → st < m + t
high_by m t st pos h = omega (arith, pos, h)

far_above : (a b c : ℕ) → a < b → b ≤ c → a < c
far_above a b c h g = omega (arith, h, g)

less_one : (a b : ℕ) → 0 < b → a < b → a ≤ b - 1
less_one a b pos h = omega (arith, pos, h)

joined : (a b c d f g : ℕ) → a ≡ b → b ≤ c → c ≡ d → d ≤ f → f ≡ g → a ≤ g
joined a b c d f g e1 h1 e2 h2 e3 = omega (arith, e1, h1, e2, h2, e3)

joined_above : (x y z a b c d e f k : ℕ) → x ≡ y → y ≤ z → z ≡ a + b → b < k → a ≡ c → d ≡ c + k → d ≤ e → e ≡ f → x < f
joined_above x y z a b c d e f k e1 h1 e2 h2 e3 e4 h3 e5 = omega (arith, e1, h1, e2, h2, e3, e4, h3, e5)

top : (a b t : ℕ) → 0 < t → a < b + t → a ≤ b + (t - 1)
top a b t pos h = omega (arith, pos, h)

one_product : (a k : ℕ) → (a + 1) * k ≡ a * k + k
one_product a k = add-mul a 1 k ∙ ap (λ (n : ℕ). a * k + n) (let e : 1 * k ≡ k = omega arith in e)

next_above : (a b t : ℕ) → a < b + t → a + 1 ≤ b + t
next_above a b t h = omega (arith, h)

between : (a q : ℕ) → q ≤ a → a < q + 1 → a ≡ q
between a q low high = omega (arith, low, high)

-- far, elapsed, time and slope: the slope times the time is the distance in parts, and less than a time more
module _ (d e t s k l : ℕ) (pos : 0 < t) (parts : 0 < k) (square : l * l ≡ k) (small : t ≤ l) (early : e < t) (low : d * k ≤ s * t) (high : s * t < d * k + t) where
  abbrev quotient : ℕ
  quotient = d * e / t

  turned : s * t * e ≡ e * s * t
  turned = mul_right_comm s t e ∙ ap (λ (n : ℕ). n * t) (mul_comm s e)

  not_below : quotient * k ≤ e * s
  not_below = le_of_mul-le-mul_right (joined (quotient * k * t) (quotient * t * k) (d * e * k) (d * k * e) (s * t * e) (e * s * t)
      (mul_right_comm quotient k t)
      (mul-le-mul_right k (div-mul-le_self (d * e) t))
      (mul_right_comm d e k)
      (mul-le-mul_right e low)
      turned) pos

  little : (t - 1) * e < k
  little =
      let a : t - 1 < l = omega (arith, pos, small) in
      let b : e < l = omega (arith, early, small) in
      rw (← square) (mul-lt (t - 1) e l l a b)

  next_product : d * e + 1 ≤ (quotient + 1) * t
  next_product = rw (one_product quotient t) (next_above (d * e) (quotient * t) t (lt-div-mul-add pos))

  not_above : e * s < (quotient + 1) * k
  not_above = lt_of_mul-lt-mul_right t (joined_above (e * s * t) (s * t * e) ((d * k + (t - 1)) * e) (d * k * e) ((t - 1) * e) (d * e * k) ((d * e + 1) * k) ((quotient + 1) * t * k) ((quotient + 1) * k * t) k
      (sym turned)
      (mul-le-mul_right e (top (s * t) (d * k) t pos high))
      (add-mul (d * k) (t - 1) e)
      little
      (mul_right_comm d k e)
      (one_product (d * e) k)
      (mul-le-mul_right k next_product)
      (mul_right_comm (quotient + 1) t k))

  pub exact : e * s / k ≡ quotient
  exact = between (e * s / k) quotient (le-div quotient (e * s) k parts not_below) (div_below (e * s) k (quotient + 1) parts not_above)

  pub within : quotient ≤ d
  within = div-le_of_le-mul t (rw (mul_comm d e) (mul-le-mul_right d (let h : e ≤ t = omega (arith, early) in h)))

  pub below_all : (m : ℕ) → d < m → e * s < m * k
  below_all m lt = far_above (e * s) ((quotient + 1) * k) (m * k) not_above (mul-le-mul_right k (let h : quotient + 1 ≤ m = omega (arith, within, lt) in h))

pub part_within : (far elapsed time : ℕ) → elapsed < time → part_of far elapsed time ≤ far
part_within far elapsed time early = div-le_of_le-mul time (rw (mul_comm far elapsed) (mul-le-mul_right far (let h : elapsed ≤ time = omega (arith, early) in h)))

after_some : (e t : ℕ) → e < t → 0 < t
after_some e t lt = omega (arith, lt)

pub shared : (far elapsed time slope : ℕ) → elapsed < time → time ≤ LONGEST → slope ≡ steepness far time → elapsed * slope / PARTS ≡ part_of far elapsed time
unfolding steepness
shared far elapsed time slope early small is =
    let pos : 0 < time = after_some elapsed time early in
    exact far elapsed time slope PARTS LONGEST pos (omega arith) refl small early
    (rw is (low_by (far * PARTS) time ((far * PARTS + (time - 1)) / time * time) pos (lt-div-mul-add pos)))
    (rw is (high_by (far * PARTS) time ((far * PARTS + (time - 1)) / time * time) pos (div-mul-le_self (far * PARTS + (time - 1)) time)))

pub fits : (far elapsed time slope : ℕ) → far < 65536 → elapsed < time → time ≤ LONGEST → slope ≡ steepness far time → elapsed * slope < 1152921504606846976
unfolding steepness
fits far elapsed time slope lt early small is =
    let pos : 0 < time = after_some elapsed time early in
    below_all far elapsed time slope PARTS LONGEST pos (omega arith) refl small early
    (rw is (low_by (far * PARTS) time ((far * PARTS + (time - 1)) / time * time) pos (lt-div-mul-add pos)))
    (rw is (high_by (far * PARTS) time ((far * PARTS + (time - 1)) / time * time) pos (div-mul-le_self (far * PARTS + (time - 1)) time)))
    65536 lt

pub shared_within : (far elapsed time slope : ℕ) → elapsed < time → time ≤ LONGEST → slope ≡ steepness far time → elapsed * slope / PARTS ≤ far
shared_within far elapsed time slope early small is = rw (shared far elapsed time slope early small is) (part_within far elapsed time early)

sloped_by : (b : Bool) (x y : ℕ) → b ≡ false → (if b then x else y) ≡ y
sloped_by true x y is = absurd (cc)
sloped_by false x y is = refl

-- ---- what a fade keeps

pub rising : (from to time : ℕ) → from < to → 0 < time → time ≤ LONGEST → slope_of from to time ≡ steepness (to - from) time
unfolding slope_of
rising from to time lt pos small =
    let far : distance from to ≡ to - from = omega arith in
    let kept : (time == 0 || nat_lt LONGEST time) ≡ false = grind (arith, nat_tests) in
    sloped_by (time == 0 || nat_lt LONGEST time) 0 (steepness (distance from to) time) kept ∙ ap (λ (n : ℕ). steepness n time) far

pub falling : (from to time : ℕ) → to ≤ from → 0 < time → time ≤ LONGEST → slope_of from to time ≡ steepness (from - to) time
unfolding slope_of
falling from to time le pos small =
    let far : distance from to ≡ from - to = omega arith in
    let kept : (time == 0 || nat_lt LONGEST time) ≡ false = grind (arith, nat_tests) in
    sloped_by (time == 0 || nat_lt LONGEST time) 0 (steepness (distance from to) time) kept ∙ ap (λ (n : ℕ). steepness n time) far
