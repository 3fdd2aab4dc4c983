-- The bits of an options octet.
use Rattle.std.proofs.Common.{◌≡◌, ℕ, zero, suc, ◌+◌, ◌*◌, ◌%◌, ◌^◌, ◌<◌, Bool, true, false, not, eqb, refl, ap, arith}
use Rattle.std.specs.Prelude.{bit_and}
use Rattle.std.specs.Int.{bit_at}
use Rattle.std.proofs.lemmas.Bool.{agree_below_at, eq-eqb}
use Rattle.sacn_packets.specs.FramingText.{bit, is_set}

-- what a mask of one bit tells of an octet
pub is_bit_7 : (options : ℕ) → options < 256 → not (eqb (bit_and options 128) 0) ≡ is_set options 7
unfolding is_set
is_bit_7 options lt = agree_below_at (λ n. not (eqb (bit_and n 128) 0)) (λ n. eqb (bit_at n 7) 1) 256 options refl lt

pub is_bit_6 : (options : ℕ) → options < 256 → not (eqb (bit_and options 64) 0) ≡ is_set options 6
unfolding is_set
is_bit_6 options lt = agree_below_at (λ n. not (eqb (bit_and n 64) 0)) (λ n. eqb (bit_at n 6) 1) 256 options refl lt

bit_back : (b : Bool) (n : ℕ) → n ≡ bit b → eqb n 1 ≡ b
bit_back true n e = eq-eqb n 1 e
bit_back false n e = ap (λ (k : ℕ). eqb k 1) e

bit_is : (n : ℕ) → n < 2 → bit (eqb n 1) ≡ n
bit_is zero lt = refl
bit_is (suc zero) lt = refl
bit_is (suc (suc n)) lt = absurd (omega arith)

bit_below : (b : Bool) → bit b < 2
bit_below true = omega arith
bit_below false = omega arith

pub preview_back : (p t : Bool) (reserved : ℕ) → reserved < 2 ^ 6 → is_set (2 ^ 7 * bit p + 2 ^ 6 * bit t + reserved) 7 ≡ p
unfolding is_set
preview_back p t reserved lt = bit_back p (bit_at (2 ^ 7 * bit p + 2 ^ 6 * bit t + reserved) 7) (omega (arith, bit_below p, bit_below t))

pub terminated_back : (p t : Bool) (reserved : ℕ) → reserved < 2 ^ 6 → is_set (2 ^ 7 * bit p + 2 ^ 6 * bit t + reserved) 6 ≡ t
unfolding is_set
terminated_back p t reserved lt = bit_back t (bit_at (2 ^ 7 * bit p + 2 ^ 6 * bit t + reserved) 6) (omega (arith, bit_below p, bit_below t))

-- an octet is its two bits and its reserved ones
pub options_is : (n : ℕ) → n < 256 → n ≡ 2 ^ 7 * bit (is_set n 7) + 2 ^ 6 * bit (is_set n 6) + n % 2 ^ 6
unfolding is_set
options_is n lt = omega (arith, bit_is (bit_at n 7) (omega arith), bit_is (bit_at n 6) (omega arith))
