-- The steps are enough: the last one finds none, and leaves the clock at t.
use Rattle.std.proofs.Common.{◌≡◌, ◌≤◌, ◌+◌, ◌-◌, ◌^◌, inl, inr, ℕ, zero, suc, min, nat_lt, ltb, Bool, true, false, not, ◌&&◌, ◌||◌, cond, List, [], ◌∷◌, length, set, slice_get, Option, None, Some, refl, ap, subst, ◌∙◌, arith, ltb-true}
use Rattle.std.specs.List.{position_or_len}
use Rattle.std.proofs.lemmas.Bool.{ltb-false}
use Rattle.std.proofs.lemmas.List.{length-set}
use Rattle.std.proofs.lemmas.List.Quantifiers.{position-Some}
use Rattle.std.proofs.lemmas.Option.{cond_some, get_or_from_slice_get, slice_get_cases}
use Rattle.sacn_sources.specs.declared.limits.TheConstants.{NETWORK_DATA_LOSS}
use Rattle.sacn_monitor.specs.declared.stream.Stream.{Stream}
use Rattle.sacn_monitor.specs.Streams.{falls_silent, loss_of}
use Rattle.sacn_monitor.specs.Books.{changed, next_loss, silent_place, told_at, with_told}
use Rattle.sacn_monitor.proofs.Chaining.{refused}

-- ---- where none is lost, none was

lasts_by : (t latest : ℕ) (over : Bool) → not over && not (nat_lt (t - latest) NETWORK_DATA_LOSS) ≡ false → min (t + 1) (2 ^ 64 - 1) ≤ cond over (2 ^ 64 - 1) (min (latest + NETWORK_DATA_LOSS) (2 ^ 64 - 1))
lasts_by t latest true is = omega arith
lasts_by t latest false is =
    elim (nat_lt (t - latest) NETWORK_DATA_LOSS) as (λ b. nat_lt (t - latest) NETWORK_DATA_LOSS ≡ b → not b ≡ false → min (t + 1) (2 ^ 64 - 1) ≤ min (latest + NETWORK_DATA_LOSS) (2 ^ 64 - 1)) [
      | true ↦ λ young none. let fresh = ltb-true (t - latest) NETWORK_DATA_LOSS young in omega (arith, fresh)
      | false ↦ λ young none. absurd cc
    ] refl is

lasts : (t : ℕ) (s : Stream) → falls_silent t s ≡ false → min (t + 1) (2 ^ 64 - 1) ≤ loss_of s
lasts t s is = lasts_by t s.account.latest _ is

all_last : (t : ℕ) (ss : List Stream) → length ss ≤ position_or_len (falls_silent t) ss → min (t + 1) (2 ^ 64 - 1) ≤ next_loss ss
all_last t [] past = omega arith
all_last t (s ∷ ss) past =
    elim (falls_silent t s) as (λ b. falls_silent t s ≡ b → suc (length ss) ≤ cond (not b) (1 + position_or_len (falls_silent t) ss) 0 → min (t + 1) (2 ^ 64 - 1) ≤ next_loss (s ∷ ss)) [
      | true ↦ λ is long. absurd (omega (arith, long))
      | false ↦ λ is long.
          let first : min (t + 1) (2 ^ 64 - 1) ≤ loss_of s = lasts t s is in
          let rest : min (t + 1) (2 ^ 64 - 1) ≤ next_loss ss = all_last t ss (omega (arith, long)) in
          omega (arith, first, rest)
    ] refl past

pub none_before : (t : ℕ) (ss : List Stream) → silent_place t ss ≡ None → min (t + 1) (2 ^ 64 - 1) ≤ next_loss ss
none_before t ss none =
    all_last t ss (ltb-false (position_or_len (falls_silent t) ss) (length ss) (refused (ltb (position_or_len (falls_silent t) ss) (length ss)) (position_or_len (falls_silent t) ss) none))

-- ---- each loss that is told is one less to tell

abbrev pub untold : List Stream → ℕ
untold [] = 0
untold (s ∷ ss) = cond s.told 0 1 + untold ss

one_at_most : (b : Bool) → cond b 0 1 ≤ 1
one_at_most true = omega arith
one_at_most false = omega arith

pub untold_most : (ss : List Stream) → untold ss ≤ length ss
untold_most [] = omega arith
untold_most (s ∷ ss) = let first = one_at_most s.told in let rest = untold_most ss in omega (arith, first, rest)

abbrev is_told : Option Stream → Bool
is_told None = true
is_told (Some s) = s.told

new_by : (told ended old : Bool) → not (told || ended) && old ≡ true → told ≡ false
new_by true ended old is = absurd cc
new_by false ended old is = refl

is_new : (t : ℕ) (s : Stream) → falls_silent t s ≡ true → s.told ≡ false
is_new t s is = new_by s.told s.account.ended _ is

one_less : (t : ℕ) (ss : List Stream) (i : ℕ) (s : Stream) → slice_get ss i ≡ Some s → falls_silent t s ≡ true → untold (set ss i (with_told s)) + 1 ≡ untold ss
one_less t [] i s there silent = absurd cc
one_less t (x ∷ ss) zero s there silent =
    let one : ◌≡◌ {A = ℕ} (cond x.told 0 1) 1 = ap (λ (b : Bool). cond b 0 1) (ap is_told there ∙ is_new t s silent) in
    omega (arith, one)
one_less t (x ∷ ss) (suc i) s there silent = let rest = one_less t ss i s there silent in omega (arith, rest)

missing : (s : Stream) (o : Option Stream) → o ≡ None → o ≡ Some s → ⊥
missing s o none some = let bad : ⊥ = cc in bad

pub stands_there : (t : ℕ) (ss : List Stream) (i : ℕ) → silent_place t ss ≡ Some i → slice_get ss i ≡ None → ⊥
stands_there t ss i place none =
    let chosen = cond_some (nat_lt (position_or_len (falls_silent t) ss) (length ss)) (position_or_len (falls_silent t) ss) i place in
    let within = ltb-true (position_or_len (falls_silent t) ss) (length ss) chosen.0 in
    elim (slice_get_cases ss i).1 [
      | inl found ↦ missing found.0 (slice_get ss i) none found.2
      | inr past ↦ absurd (omega (arith, past.0, within, chosen.1))
    ]

pub silent_at : (t : ℕ) (ss : List Stream) (i : ℕ) (s : Stream) → silent_place t ss ≡ Some i → slice_get ss i ≡ Some s → falls_silent t s ≡ true
silent_at t ss i s place there = subst (λ (x : Stream). falls_silent t x ≡ true) (get_or_from_slice_get ss i s s there) (position-Some (falls_silent t) ss i s place).1

told_less_by : (t : ℕ) (ss : List Stream) (i : ℕ) → silent_place t ss ≡ Some i → (o : Option Stream) → slice_get ss i ≡ o → untold (changed with_told i ss o) + 1 ≡ untold ss
told_less_by t ss i place None there = absurd (stands_there t ss i place there)
told_less_by t ss i place (Some s) there = one_less t ss i s there (silent_at t ss i s place there)

pub told_less : (t : ℕ) (ss : List Stream) (i : ℕ) → silent_place t ss ≡ Some i → untold (told_at (Some i) ss) + 1 ≡ untold ss
told_less t ss i place = told_less_by t ss i place (slice_get ss i) refl

changed_length : (f : Stream → Stream) (i : ℕ) (ss : List Stream) (o : Option Stream) → length (changed f i ss o) ≡ length ss
changed_length f i ss None = refl
changed_length f i ss (Some s) = length-set ss i (f s)

pub heard_length : (f : Stream → Stream) (i : ℕ) (ss : List Stream) → length (changed f i ss (slice_get ss i)) ≡ length ss
heard_length f i ss = changed_length f i ss (slice_get ss i)

pub told_length : (o : Option ℕ) (ss : List Stream) → length (told_at o ss) ≡ length ss
told_length None ss = refl
told_length (Some i) ss = heard_length with_told i ss
