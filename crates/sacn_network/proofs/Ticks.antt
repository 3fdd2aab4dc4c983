-- Silence is ticks of the monitor, each at a moment that was handed in or an earlier one.
use Rattle.std.proofs.Common.{◌≡◌, ◌<◌, ◌≤◌, ◌+◌, ◌-◌, ◌^◌, ℕ, zero, suc, min, max, true, false, cond, is_some, List, [], ◌∷◌, slice_get, Option, None, Some, refl, sym, ap, subst, ◌∙◌, arith, ltb-true}
use Rattle.sacn_monitor.specs.declared.stream.Stream.{Stream}
use Rattle.sacn_monitor.specs.Books.{Book, after_tick, silent_place, told_at}
use Rattle.sacn_network.specs.declared.ledger.Ledger.{Ledger}
use Rattle.sacn_network.specs.declared.ledger.TheConstants.{MOST_STEPS}
use Rattle.sacn_network.specs.Contests.{universe_of, with_contest, with_contest_in}
use Rattle.sacn_network.specs.Losses.{after_end, after_loss, at_end, lost_place, next_end, silenced}
use Rattle.sacn_network.specs.declared.light_ends.TheConstants.{MOST_LIGHTS}
use Rattle.sacn_network.specs.LightEnds.{after_ends, after_light, after_outs, comes_by, light_end_of, out_universe}
use Rattle.sacn_network.specs.Networks.{ticked}

-- what is told changes no account
pub contest_keeps : (o : Option ℕ) (n : Ledger) → (with_contest_in o n).monitor ≡ n.monitor
unfolding with_contest
contest_keeps None n = refl
contest_keeps (Some universe) n = refl

loss_keeps : (o : Option ℕ) (n : Ledger) → (after_loss o n).monitor ≡ n.monitor
loss_keeps None n = refl
loss_keeps (Some place) n = contest_keeps (universe_of (slice_get n.monitor.streams place)) n

pub end_keeps : (t : ℕ) (n : Ledger) → (after_end t n).monitor ≡ after_tick (next_end t n) n.monitor
unfolding after_end
end_keeps t n = loss_keeps (lost_place t n) (at_end t n)

outs_keep : (before : ℕ) (ss : List Stream) (n : Ledger) → (after_outs before ss n).monitor ≡ n.monitor
unfolding after_outs
outs_keep before [] n = refl
outs_keep before (s ∷ ss) n =
    let o : Option ℕ = out_universe before n.monitor.moment (Some s) in
    outs_keep before ss (with_contest_in o n) ∙ contest_keeps o n

pub light_keeps : (t : ℕ) (n : Ledger) → (after_light t n).monitor ≡ (silenced MOST_STEPS t n).monitor
unfolding after_light
light_keeps t n = let m : Ledger = silenced MOST_STEPS t n in outs_keep n.monitor.moment m.monitor.streams m

-- it comes by t
pub came : (t x : ℕ) → comes_by t x ≡ true → (x ≤ t) × (x < 2 ^ 64 - 1)
came t x is = let low = ltb-true x (min (t + 1) (2 ^ 64 - 1)) is in (omega (arith, low), omega (arith, low))

-- the clock never goes back
pub silenced_grows : (steps t : ℕ) (n : Ledger) → n.monitor.moment ≤ (silenced steps t n).monitor.moment
unfolding silenced
silenced_grows zero t n = omega arith
silenced_grows (suc steps) t n =
    let m : Ledger = after_end t n in
    let later : m.monitor.moment ≡ max n.monitor.moment (next_end t n) = ap (λ (b : Book). b.moment) (end_keeps t n) in
    let rest = silenced_grows steps t m in
    elim (is_some (lost_place t n)) as (λ more. n.monitor.moment ≤ (cond more (silenced steps t m) m).monitor.moment) [
      | true ↦ omega (arith, later, rest)
      | false ↦ omega (arith, later)
    ]

pub light_grows : (t : ℕ) (n : Ledger) → n.monitor.moment ≤ (after_light t n).monitor.moment
light_grows t n =
    let same = ap (λ (b : Book). b.moment) (light_keeps t n) in
    let grows = silenced_grows MOST_STEPS t n in
    omega (arith, same, grows)

-- a clock that is already later stays
same_tick : (t u : ℕ) (b : Book) → max b.moment t ≡ max b.moment u → after_tick t b ≡ after_tick u b
same_tick t u b same = ap (λ (k : ℕ). let c : Book = record b { streams = told_at (silent_place k b.streams) b.streams; moment = k } in c) same

-- what each such tick keeps
module _ (Keeps : Book → Type 0) (now : ℕ) (tick : (m : ℕ) (b : Book) → m ≤ now → Keeps b → Keeps (after_tick m b)) where
  end_by : (t : ℕ) (n : Ledger) → t ≤ max n.monitor.moment now → Keeps n.monitor → Keeps (after_end t n).monitor
  end_by t n by kept =
      subst Keeps (sym (end_keeps t n ∙ same_tick (next_end t n) (min now (next_end t n)) n.monitor (omega (arith, by))))
      (tick (min now (next_end t n)) n.monitor (omega arith) kept)

  silenced_by : (steps t : ℕ) (n : Ledger) → t ≤ max n.monitor.moment now → Keeps n.monitor → Keeps (silenced steps t n).monitor
  unfolding silenced
  silenced_by zero t n by kept = kept
  silenced_by (suc steps) t n by kept =
      let m : Ledger = after_end t n in
      let later : m.monitor.moment ≡ max n.monitor.moment (next_end t n) = ap (λ (b : Book). b.moment) (end_keeps t n) in
      let next : Keeps m.monitor = end_by t n by kept in
      elim (is_some (lost_place t n)) as (λ more. Keeps (cond more (silenced steps t m) m).monitor) [
        | true ↦ silenced_by steps t m (omega (arith, by, later)) next
        | false ↦ next
      ]

  ends_by : (steps t : ℕ) (n : Ledger) → t ≤ max n.monitor.moment now → Keeps n.monitor → Keeps (after_ends steps t n).monitor
  unfolding after_ends
  ends_by zero t n by kept = silenced_by MOST_STEPS t n by kept
  ends_by (suc steps) t n by kept =
      let at : ℕ = light_end_of n.monitor in
      let m : Ledger = after_light at n in
      elim (comes_by t at) as (λ b. comes_by t at ≡ b → Keeps (cond b (after_ends steps t m) (silenced MOST_STEPS t n)).monitor) [
        | true ↦ λ is.
            let early = (came t at is).0 in
            let grows = light_grows at n in
            ends_by steps t m (omega (arith, by, grows)) (subst Keeps (sym (light_keeps at n)) (silenced_by MOST_STEPS at n (omega (arith, by, early)) kept))
        | false ↦ λ is. silenced_by MOST_STEPS t n by kept
      ] refl

  pub ticked_by : (n : Ledger) → Keeps n.monitor → Keeps (ticked now n).monitor
  ticked_by n kept = ends_by MOST_LIGHTS (max n.monitor.moment now) n (omega arith) kept
