-- When a moment is due, and which moment is played.
use Rattle.std.proofs.Common.{◌≡◌, ℕ, ◌+◌, ◌-◌, ◌*◌, ◌/◌, ◌≤◌, Bool, true, false, cond, min, ap, refl, arith}
use Rattle.std.proofs.Math.Nat.{mul-le-mul_right}
use Rattle.sacn_replay.specs.declared.head.Playhead.{Playhead}
use Rattle.sacn_replay.specs.Heads.{rounded_up, last_moment, played, due, going}
use Rattle.sacn_replay.specs.Moments.{DueWhenPlayed, OrdersKeepTheMoment}
use Rattle.sacn_replay.proofs.Rounding.{rounded_enough, rounded_least, rounded_rises}

-- a later moment is due later
pub due_rises : (h : Playhead) (p q : ℕ) → p ≤ q → due p h ≤ due q h
due_rises h p q le =
    let more : rounded_up ((p - h.from) * 1000) h.speed ≤ rounded_up ((q - h.from) * 1000) h.speed =
    rounded_rises ((p - h.from) * 1000) ((q - h.from) * 1000) h.speed (omega (arith, le)) in
    omega (arith, more)

-- what is played after so many milliseconds, in a head that isn't paused
played_of : ℕ → ℕ → ℕ
played_of from passed = min (from + passed / 1000) last_moment

played_going : (h : Playhead) → h.is_paused ≡ false → played h ≡ played_of h.from ((h.clock - h.began) * h.speed)
unfolding played_of
played_going h going = ap (λ (b : Bool). cond b h.from (min (h.from + (h.clock - h.began) * h.speed / 1000) last_moment)) going

moment_played : (moment from r elapsed speed passed : ℕ) → moment ≤ last_moment → (moment - from) * 1000 ≤ r * speed → r * speed ≤ passed → moment ≤ played_of from passed
unfolding played_of
moment_played moment from r elapsed speed passed last enough least = omega (arith, last, enough, least)

moment_due : (moment from passed : ℕ) → moment ≤ played_of from passed → (moment - from) * 1000 ≤ passed
unfolding played_of
moment_due moment from passed low = omega (arith, low)

pub due_when_played : DueWhenPlayed
due_when_played h moment going pos order last = (
  λ is_due.
      let elapsed : ℕ = h.clock - h.began in
      let r : ℕ = rounded_up ((moment - h.from) * 1000) h.speed in
      let enough : (moment - h.from) * 1000 ≤ r * h.speed = rounded_enough ((moment - h.from) * 1000) h.speed (omega (arith, pos)) in
      let within : r ≤ elapsed = omega (arith, is_due) in
      let least : r * h.speed ≤ elapsed * h.speed = mul-le-mul_right h.speed within in
      let low : moment ≤ played_of h.from (elapsed * h.speed) = moment_played moment h.from r elapsed h.speed (elapsed * h.speed) last enough least in
      omega (arith, low, played_going h going),
  λ is_played.
      let elapsed : ℕ = h.clock - h.began in
      let low : moment ≤ played_of h.from (elapsed * h.speed) = omega (arith, is_played, played_going h going) in
      let least : rounded_up ((moment - h.from) * 1000) h.speed ≤ elapsed =
      rounded_least ((moment - h.from) * 1000) h.speed elapsed (omega (arith, pos)) (moment_due moment h.from (elapsed * h.speed) low) in
      omega (arith, least, order),
)

played_low : (h : Playhead) → h.from ≤ last_moment → played h ≤ last_moment
played_low h low = elim h.is_paused as (λ b. cond b h.from (min (h.from + (h.clock - h.began) * h.speed / 1000) last_moment) ≤ last_moment) [
  | true ↦ low
  | false ↦ omega arith
]

-- what is played at the reading from which on it is counted
at_once : (b : Bool) (from clock speed : ℕ) → from ≤ last_moment → cond b from (min (from + (clock - clock) * speed / 1000) last_moment) ≡ from
at_once true from clock speed low = refl
at_once false from clock speed low =
    let same : clock - clock ≡ 0 = omega arith in
    let none : (clock - clock) * speed ≡ 0 * speed = ap (λ (n : ℕ). n * speed) same in
    omega (arith, none, low)

pub orders_keep : OrdersKeepTheMoment
orders_keep h moment speed low last =
    (refl, at_once false (played h) h.clock h.speed (played_low h low), at_once h.is_paused (played h) h.clock speed (played_low h low), at_once h.is_paused moment h.clock h.speed last)
