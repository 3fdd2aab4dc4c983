-- The sequence rule of streaming ACN on the eight-bit numbers of packets. (E1.31, 6.7.2.)
use Rattle.std.specs.Prelude.{ℕ, ◌+◌, ◌-◌, ◌%◌, ◌<◌, ◌≤◌, ℤ, pos, negsuc, ◌-ℤ◌, ◌&&◌, Bool, true, false, nat_lt, if◌then◌else◌, ◌≡◌, ◌↔◌, ◌<ℤ◌, ◌≤ℤ◌, int_lt, int_le, ◌*ℤ◌, ◌+ℤ◌}
use Rattle.sacn_sources.specs.declared.sequence.TheConstants.{LATE_ABOVE}

-- the number from -128 to 127 that is b - a modulo 256
abbrev pub step : ℕ → ℕ → ℤ
step a b =
    let ahead = (b + 256 - a) % 256 in
    if nat_lt ahead 128 then pos ahead else pos ahead -ℤ pos 256

-- after the number a, a packet with the number b is out of sequence
abbrev pub is_late : ℕ → ℕ → Bool
is_late a b = int_lt LATE_ABOVE (step a b) && int_le (step a b) (pos 0)

-- s is the number from -128 to 127 that is congruent to b - a modulo 256
pub record IsStep (a b : ℕ) (s : ℤ) : Type 0 where
  pub at_least : negsuc 127 ≤ℤ s
  pub at_most : s ≤ℤ pos 127
  pub congruent : (k : ℤ) × (pos b -ℤ pos a ≡ s +ℤ (k *ℤ pos 256))

-- -20 < B - A <= 0 in signed eight-bit arithmetic: after the number a, a packet with the number b is discarded
pub record IsOutOfSequence (a b : ℕ) : Type 0 where
  pub near : LATE_ABOVE <ℤ step a b
  pub not_ahead : step a b ≤ℤ pos 0

-- the step between two numbers is the only number that is so
abbrev pub OneStep : Type 0
OneStep = (a b : ℕ) (s : ℤ) → a < 256 → b < 256 → IsStep a b s ↔ (s ≡ step a b)

-- the test says what the standard says
abbrev pub LateAgrees : Type 0
LateAgrees = (a b : ℕ) → (is_late a b ≡ true) ↔ IsOutOfSequence a b

-- what was sent so many sends later is taken exactly where these are 1 to 236, but for whole rounds of the numbers
abbrev pub TakesUpTo236Ahead : Type 0
TakesUpTo236Ahead = (sent ahead : ℕ) → (is_late (sent % 256) ((sent + ahead) % 256) ≡ false) ↔ (1 ≤ ahead % 256) × (ahead % 256 ≤ 236)

-- what was sent up to 19 sends before is discarded
abbrev pub DiscardsUpTo19Behind : Type 0
DiscardsUpTo19Behind = (sent behind : ℕ) → behind ≤ 19 → IsOutOfSequence ((sent + behind) % 256) (sent % 256)
