-- Numbers read back from the octets that were written.
use Rattle.std.proofs.Common.{◌≡◌, ℕ, ◌+◌, ◌*◌, ◌/◌, ◌%◌, ◌^◌, ◌<◌, arith}
use Rattle.std.proofs.lemmas.Nat.{from_le_bytes-to_le_bytes_4, from_be_bytes-to_be_bytes_2}

four_joined : (a b c d n : ℕ) → a + b * 256 + c * 65536 + d * 16777216 ≡ n → (a + 256 * b) + 65536 * (c + 256 * d) ≡ n
four_joined a b c d n e = omega arith

-- the octets of a number of thirty-two bits, the low octet first, make it again
pub little_again : (n : ℕ) → n < 2 ^ 32 → (n % 256 + 256 * (n / 256 % 256)) + 65536 * (n / 65536 % 256 + 256 * (n / 16777216 % 256)) ≡ n
little_again n small = four_joined (n % 256) (n / 256 % 256) (n / 65536 % 256) (n / 16777216 % 256) n (from_le_bytes-to_le_bytes_4 n small)

two_joined : (a b n : ℕ) → a * 256 + b ≡ n → 256 * a + b ≡ n
two_joined a b n e = omega arith

-- those of one of sixteen bits, the high octet first
pub big_again : (n : ℕ) → n < 2 ^ 16 → 256 * (n / 256 % 256) + n % 256 ≡ n
big_again n small = two_joined (n / 256 % 256) (n % 256) n (from_be_bytes-to_be_bytes_2 n small)
