-- A quotient that is rounded up.
use Rattle.std.proofs.Common.{◌≡◌, ℕ, zero, suc, ◌+◌, ◌*◌, ◌/◌, ◌%◌, ◌<◌, ◌≤◌, min, arith}
use Rattle.std.proofs.Math.Nat.{add-mul, div-zero, mod-zero, lt_of_mul-lt-mul_right}
use Rattle.std.proofs.lemmas.Grind.{div_ceil_times}
use Rattle.sacn_replay.specs.Heads.{rounded_up}

-- it is the least number of times that the divisor has to be taken
pub rounded_enough : (a s : ℕ) → 0 < s → a ≤ rounded_up a s * s
unfolding rounded_up
rounded_enough a s pos = (div_ceil_times a s pos).0

pub rounded_least : (a s k : ℕ) → 0 < s → a ≤ k * s → rounded_up a s ≤ k
unfolding rounded_up
rounded_least a s k pos enough =
    let r : ℕ = a / s + min 1 (a % s) in
    let below : r * s < a + s = (div_ceil_times a s pos).1 in
    let next : (k + 1) * s ≡ k * s + 1 * s = add-mul k 1 s in
    let low : r * s < (k + 1) * s = omega (arith, below, next, enough) in
    let least : r < k + 1 = lt_of_mul-lt-mul_right s low in
    omega (arith, least)

rounded_by_none : (a : ℕ) → rounded_up a 0 ≡ min 1 a
unfolding rounded_up
rounded_by_none a = omega (arith, div-zero a, mod-zero a)

-- it rises with what is divided
pub rounded_rises : (a b s : ℕ) → a ≤ b → rounded_up a s ≤ rounded_up b s
rounded_rises a b zero le = omega (arith, rounded_by_none a, rounded_by_none b, le)
rounded_rises a b (suc s) le =
    let enough : b ≤ rounded_up b (suc s) * suc s = rounded_enough b (suc s) (omega arith) in
    rounded_least a (suc s) (rounded_up b (suc s)) (omega arith) (omega (arith, enough, le))
