-- The octets of all levels in one row.
use Rattle.std.proofs.Common.{◌≡◌, ℕ, ◌+◌, ◌-◌, ◌*◌, ◌/◌, ◌%◌, ◌<◌, Bool, true, false, List, length, set, get_or, refl, sym, ap, ◌∙◌, arith, inl, inr, if◌then◌else◌}
use Rattle.std.proofs.lemmas.Bool.{cases_eq}
use Rattle.std.proofs.lemmas.Bool.Decides.{nat_tests}
use Rattle.std.proofs.lemmas.List.{length-set, get_or-set_same, get_or-set_other, get_or_past}
use Rattle.sacn_patch.specs.declared.part.LevelByte.{LevelByte}
use Rattle.sacn_patch.specs.declared.part.LevelByte.TheVariants.{High, Low}
use Rattle.sacn_patch.specs.Parts.{AreOctets, place_in_pair, byte_of_level}
use Rattle.sacn_cues.specs.declared.limits.TheConstants.{FULL}
use Rattle.sacn_cues.specs.Channels.{is_channel}
use Rattle.sacn_cues.specs.Levels.{Ramp, level_in, level_at, still}
use Rattle.sacn_cues.specs.LevelOctets.{HasLevel, IsBlankBefore}

module _ (octets new : List ℕ) (at level : ℕ) (room : 2 * at + 3 < length octets) (is : new ≡ set (set octets (2 * at + 2) (level / 256)) (2 * at + 3) (level % 256)) where
  other_place : (k : ℕ) → (k ≡ 2 * at + 2 → ⊥) → (k ≡ 2 * at + 3 → ⊥) → get_or new k 0 ≡ get_or octets k 0
  other_place k apart_high apart_low =
      ap (λ (xs : List ℕ). get_or xs k 0) is
      ∙ get_or-set_other (set octets (2 * at + 2) (level / 256)) (2 * at + 3) k (level % 256) 0 apart_low
      ∙ get_or-set_other octets (2 * at + 2) k (level / 256) 0 apart_high

  pub length_put : length new ≡ length octets
  length_put = ap length is ∙ length-set (set octets (2 * at + 2) (level / 256)) (2 * at + 3) (level % 256) ∙ length-set octets (2 * at + 2) (level / 256)

  pub before_put : (k : ℕ) → k < 2 → get_or new k 0 ≡ get_or octets k 0
  before_put k lt = other_place k (λ e. omega (arith, lt, e)) (λ e. omega (arith, lt, e))

  pub other_put : (i x : ℕ) → (i ≡ at → ⊥) → HasLevel octets i x → HasLevel new i x
  other_put i x apart has = (
    other_place (2 * i + 2) (λ e. apart (omega (arith, e))) (λ e. omega (arith, e)) ∙ has.0,
    other_place (2 * i + 3) (λ e. omega (arith, e)) (λ e. apart (omega (arith, e))) ∙ has.1,
  )

  pub own_put : HasLevel new at level
  own_put =
      let wide : 2 * at + 3 < length (set octets (2 * at + 2) (level / 256)) = omega (arith, room, length-set octets (2 * at + 2) (level / 256)) in
      let apart : 2 * at + 2 ≡ 2 * at + 3 → ⊥ = λ e. omega (arith, e) in (
        ap (λ (xs : List ℕ). get_or xs (2 * at + 2) 0) is
            ∙ get_or-set_other (set octets (2 * at + 2) (level / 256)) (2 * at + 3) (2 * at + 2) (level % 256) 0 apart
            ∙ get_or-set_same octets (2 * at + 2) (level / 256) 0 (omega (arith, room)),
        ap (λ (xs : List ℕ). get_or xs (2 * at + 3) 0) is
            ∙ get_or-set_same (set octets (2 * at + 2) (level / 256)) (2 * at + 3) (level % 256) 0 wide,
      )

  -- so that each channel has its level, where the others had theirs
  pub put_filled : (i x : ℕ) → (i ≡ at → x ≡ level) → ((i ≡ at → ⊥) → HasLevel octets i x) → HasLevel new i x
  put_filled i x its has = elim (cases_eq i at) [
    | inl same ↦ rw (same, its same) own_put
    | inr apart ↦ other_put i x apart (has apart)
  ]

module _ (fades : List Ramp) (now master : ℕ) (octets : List ℕ) where
  abbrev level_there : ℕ → ℕ
  level_there channel = level_at fades channel now * master / FULL

  dark : (channel : ℕ) → is_channel channel ≡ false → level_there channel ≡ 0
  dark channel out =
      let none : 0 * master ≡ 0 = omega arith in
      ap (λ (b : Bool). (if b then level_in (get_or fades (channel - 1) still) now else 0) * master / FULL) out ∙ ap (λ (n : ℕ). n / FULL) none

  dark_octet : (byte : LevelByte) → byte_of_level 0 byte ≡ 0
  dark_octet High = refl
  dark_octet Low = refl

  in_pair : (byte : LevelByte) → place_in_pair byte < 2
  in_pair High = omega arith
  in_pair Low = omega arith

  far_out : (channel : ℕ) → is_channel channel ≡ false → (channel ≡ 0 → ⊥) → 2048 < channel
  far_out channel out apart = grind (arith, nat_tests, out, apart)

  none_there : (channel : ℕ) (byte : LevelByte) → length octets ≡ 4098 → IsBlankBefore octets → is_channel channel ≡ false → get_or octets (2 * channel + place_in_pair byte) 0 ≡ 0
  none_there channel byte long blank out = elim (cases_eq channel 0) [
    | inl zero ↦ blank (2 * channel + place_in_pair byte) (omega (arith, zero, in_pair byte))
    | inr apart ↦ get_or_past octets (2 * channel + place_in_pair byte) 0 (omega (arith, long, far_out channel out apart))
  ]

  octet_by : (b : Bool) (channel : ℕ) (byte : LevelByte) → is_channel channel ≡ b → length fades ≡ 2048 → length octets ≡ 4098 → IsBlankBefore octets → ((i : ℕ) (d : Ramp) → i < length fades → HasLevel octets i (level_in (get_or fades i d) now * master / FULL)) → get_or octets (2 * channel + place_in_pair byte) 0 ≡ byte_of_level (level_there channel) byte
  octet_by false channel byte out many long blank each = none_there channel byte long blank out ∙ sym (ap (λ (n : ℕ). byte_of_level n byte) (dark channel out) ∙ dark_octet byte)
  octet_by true channel High inside many long blank each =
      let place : 2 * channel + 0 ≡ 2 * (channel - 1) + 2 = grind (arith, nat_tests) in
      let lt : channel - 1 < length fades = grind (arith, nat_tests) in
      ap (λ (k : ℕ). get_or octets k 0) place ∙ (each (channel - 1) still lt).0
      ∙ sym (ap (λ (b : Bool). (if b then level_in (get_or fades (channel - 1) still) now else 0) * master / FULL / 256) inside)
  octet_by true channel Low inside many long blank each =
      let place : 2 * channel + 1 ≡ 2 * (channel - 1) + 3 = grind (arith, nat_tests) in
      let lt : channel - 1 < length fades = grind (arith, nat_tests) in
      ap (λ (k : ℕ). get_or octets k 0) place ∙ (each (channel - 1) still lt).1
      ∙ sym (ap (λ (b : Bool). (if b then level_in (get_or fades (channel - 1) still) now else 0) * master / FULL % 256) inside)

  -- the row has the octets of all channels
  pub octets_are : length fades ≡ 2048 → length octets ≡ 4098 → IsBlankBefore octets → ((i : ℕ) (d : Ramp) → i < length fades → HasLevel octets i (level_in (get_or fades i d) now * master / FULL)) → AreOctets level_there octets
  octets_are many long blank each = λ part. octet_by (is_channel part.channel) part.channel part.byte refl many long blank each
