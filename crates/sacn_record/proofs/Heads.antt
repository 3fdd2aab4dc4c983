-- The heads of blocks, read.
use Rattle.std.proofs.Common.{◌≡◌, ℕ, ◌+◌, ◌*◌, ◌/◌, ◌%◌, ◌^◌, ◌<◌, ◌≤◌, Bool, true, false, List, [], ◌∷◌, ◌++◌, length, Result, Ok, refl, ◌∙◌, arith, eq-eqb}
use Rattle.std.specs.Prelude.{◌==◌, nat_le}
use Rattle.std.proofs.lemmas.Bool.{le-leb}
use Rattle.sacn_capture.specs.declared.faults.FaultKind.{FaultKind}
use Rattle.sacn_capture.specs.declared.faults.FaultKind.TheVariants.{CutShort, Length}
use Rattle.sacn_capture.specs.declared.octets.ByteOrder.TheVariants.{Big, Little}
use Rattle.sacn_capture.specs.declared.pcapng.BlockHead.{BlockHead}
use Rattle.sacn_capture.specs.declared.pcapng.BlockKind.TheVariants.{Enhanced}
use Rattle.sacn_capture.specs.declared.pcapng.EnhancedHead.{EnhancedHead}
use Rattle.sacn_capture.specs.Check.{checked}
use Rattle.sacn_capture.specs.Octets.{number32}
use Rattle.sacn_capture.specs.Pcapng.{section_type, reading_block, reading_enhanced}
use Rattle.sacn_record.specs.Blocks.{little32}
use Rattle.sacn_record.proofs.Numbers.{little_again}

-- the head of an enhanced packet block of so many octets
pub enhanced_head : (s : ℕ) → s < 2 ^ 32 → 12 ≤ s → s % 4 ≡ 0 → reading_block Little (little32 6 ++ little32 s) ≡ Ok (record { kind = Enhanced; length = s })
unfolding little32
enhanced_head s small enough fours =
    let again = little_again s small in
    let a : nat_le 12 s ≡ true = le-leb 12 s enough in
    let b : (s % 4 == 0) ≡ true = eq-eqb (s % 4) 0 fours in
    let said : ℕ → Bool → Bool → Result BlockHead FaultKind = λ n x y. checked ((true, CutShort) ∷ (x, Length) ∷ (y, Length) ∷ []) (record { kind = Enhanced; length = n }) in
    let first : reading_block Little (little32 6 ++ little32 s) ≡ said s (nat_le 12 s) (s % 4 == 0) = λ i. said (again i) (nat_le 12 (again i)) (again i % 4 == 0) in
    first ∙ (λ i. said s (a i) (b i))

pub head_length : (s : ℕ) → length (little32 6 ++ little32 s) ≡ 8
unfolding little32
head_length s = refl

pub no_section : (s : ℕ) → (number32 Big (little32 6 ++ little32 s) 0 == section_type) ≡ false
unfolding little32
no_section s = refl

pub tail_length : (s : ℕ) → length (little32 s) ≡ 4
unfolding little32
tail_length s = refl

pub tail_again : (s : ℕ) → s < 2 ^ 32 → number32 Little (little32 s) 0 ≡ s
unfolding little32
tail_again s small = little_again s small

-- what stands in front of a packet in its block
abbrev pub front_of : ℕ → ℕ → List ℕ
front_of moment n = little32 0 ++ little32 (moment / 2 ^ 32) ++ little32 (moment % 2 ^ 32) ++ little32 n ++ little32 n

pub front_length : (moment n : ℕ) → length (front_of moment n) ≡ 20
unfolding little32
front_length moment n = refl

pub front_again : (moment n s : ℕ) → moment < 2 ^ 64 → n < 2 ^ 32 → n + 32 ≤ s → reading_enhanced Little s (front_of moment n) ≡ Ok (record { interface = 0; ticks = moment; captured = n })
unfolding little32
front_again moment n s small few room =
    let high_small : moment / 2 ^ 32 < 2 ^ 32 = omega arith in
    let low_small : moment % 2 ^ 32 < 2 ^ 32 = omega arith in
    let high = little_again (moment / 2 ^ 32) high_small in
    let low = little_again (moment % 2 ^ 32) low_small in
    let count = little_again n few in
    let a : nat_le 32 s ≡ true = le-leb 32 s (omega arith) in
    let b : nat_le (n + 32) s ≡ true = le-leb (n + 32) s room in
    let joined : moment / 2 ^ 32 * 2 ^ 32 + moment % 2 ^ 32 ≡ moment = omega arith in
    let said : ℕ → ℕ → Bool → Bool → Result EnhancedHead FaultKind = λ t c x y. checked ((x, Length) ∷ (true, CutShort) ∷ (y, Length) ∷ []) (record { interface = 0; ticks = t; captured = c }) in
    let first : reading_enhanced Little s (front_of moment n) ≡ said (moment / 2 ^ 32 * 2 ^ 32 + moment % 2 ^ 32) n (nat_le 32 s) (nat_le (n + 32) s) =
    λ i. said (high i * 2 ^ 32 + low i) (count i) (nat_le 32 s) (nat_le (count i + 32) s) in
    first ∙ (λ i. said (joined i) n (a i) (b i))
