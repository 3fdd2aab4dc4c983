-- What ends by itself, one light after the other.
use Rattle.std.proofs.Common.{◌≡◌, ◌<◌, ◌≤◌, ◌+◌, ◌-◌, ◌^◌, ◌⊎◌, inl, inr, ℕ, zero, suc, nat_lt, Bool, true, false, ◌&&◌, ◌||◌, cond, is_some, List, [], ◌∷◌, ◌++◌, drop, length, slice_get, Option, None, Some, refl, sym, ap, subst, ◌∙◌, arith}
use Rattle.std.proofs.lemmas.Bool.{lt-ltb}
use Rattle.std.proofs.lemmas.List.{drop_all}
use Rattle.sacn_monitor.specs.declared.stream.Stream.{Stream}
use Rattle.sacn_monitor.specs.Books.{Book}
use Rattle.sacn_network.specs.declared.ledger.Ledger.{Ledger}
use Rattle.sacn_network.specs.declared.ledger.TheConstants.{MOST_STEPS}
use Rattle.sacn_network.specs.declared.light_ends.TheConstants.{MOST_LIGHTS}
use Rattle.sacn_network.specs.Contests.{contest_in, with_contest_in}
use Rattle.sacn_network.specs.LightEnds.{after_ends, after_light, after_outs, comes_by, ends_lose, ends_told, light_end_of, light_told, out_universe, outs_told}
use Rattle.sacn_network.specs.Losses.{lost_place, silence_told, silenced}
use Rattle.sacn_network.specs.Telling.{AreTold, Told}
use Rattle.sacn_network.proofs.Lights.{ends_one, ends_quiet, told_one_light, told_quiet}
use Rattle.sacn_network.proofs.Telling.{told_as, told_both, told_nothing}
use Rattle.sacn_network.proofs.Ticks.{contest_keeps}

-- ---- the contests of the universes on which a light went out, stream by stream

module _ (before : ℕ) where
  outs_next : (k : ℕ) (ss : List Stream) (n : Ledger) → k < length ss →
      let o = out_universe before n.monitor.moment (slice_get ss k) in
      (after_outs before (drop k ss) n ≡ after_outs before (drop (suc k) ss) (with_contest_in o n))
      × (outs_told before (drop k ss) n ≡ contest_in o n ++ outs_told before (drop (suc k) ss) (with_contest_in o n))
  unfolding after_outs outs_told
  outs_next k [] n within = absurd (omega (arith, within))
  outs_next zero (s ∷ ss) n within = (refl, refl)
  outs_next (suc k) (s ∷ ss) n within = outs_next k ss n (omega (arith, within))

  outs_done : (k : ℕ) (ss : List Stream) (n : Ledger) → length ss ≤ k → (after_outs before (drop k ss) n ≡ n) × (outs_told before (drop k ss) n ≡ [])
  unfolding after_outs outs_told
  outs_done k ss n past = let none = drop_all k ss past in (ap (λ (zs : List Stream). after_outs before zs n) none, ap (λ (zs : List Stream). outs_told before zs n) none)

-- what is left to tell leads to the whole
pub record OutsOn {O : Type 0} (Notes : O → Told → O → Type 0) (before : ℕ) (first n : Ledger) (start now : O) (count place : ℕ) : Type 0 where
  pub whole : count ≡ length first.monitor.streams
  pub monitor : n.monitor ≡ first.monitor
  pub ledger : after_outs before (drop place first.monitor.streams) n ≡ after_outs before first.monitor.streams first
  pub told : (after : O) → AreTold Notes (outs_told before (drop place first.monitor.streams) n) now after → AreTold Notes (outs_told before first.monitor.streams first) start after

module _ {O : Type 0} (Notes : O → Told → O → Type 0) (before : ℕ) (first : Ledger) (start : O) (count : ℕ) where
  pub outs_begin : count ≡ length first.monitor.streams → OutsOn Notes before first first start start count 0
  outs_begin whole = record { whole = whole; monitor = refl; ledger = refl; told = λ after rest. rest }

  pub one_more_out : (place : ℕ) (universe : Option ℕ) (n m : Ledger) (now later : O) → place < count → universe ≡ out_universe before n.monitor.moment (slice_get n.monitor.streams place) → m ≡ with_contest_in universe n
      → AreTold Notes (contest_in universe n) now later → OutsOn Notes before first n start now count place → OutsOn Notes before first m start later count (place + 1)
  one_more_out place universe n m now later within universe_is is told on =
      let ss : List Stream = first.monitor.streams in
      let streams : n.monitor.streams ≡ ss = ap (λ (b : Book). b.streams) on.monitor in
      let o : Option ℕ = out_universe before n.monitor.moment (slice_get ss place) in
      let named : universe ≡ o = universe_is ∙ ap (λ (zs : List Stream). out_universe before n.monitor.moment (slice_get zs place)) streams in
      let next = outs_next before place ss n (omega (arith, within, on.whole)) in
      let left : m ≡ with_contest_in o n = is ∙ ap (λ (u : Option ℕ). with_contest_in u n) named in
      let one : suc place ≡ place + 1 = omega arith in
      subst (λ (k : ℕ). OutsOn {O = O} Notes before first m start later count k) one (record {
        whole = on.whole;
        monitor = ap (λ (l : Ledger). l.monitor) left ∙ contest_keeps o n ∙ on.monitor;
        ledger = ap (after_outs before (drop (suc place) ss)) left ∙ sym next.0 ∙ on.ledger;
        told = λ after rest.
            on.told after (told_as Notes (contest_in universe n ++ outs_told before (drop (suc place) ss) m) (outs_told before (drop place ss) n) now after
            (ap (λ (u : Option ℕ). contest_in u n ++ outs_told before (drop (suc place) ss) m) named ∙ ap (λ (l : Ledger). contest_in o n ++ outs_told before (drop (suc place) ss) l) left ∙ sym next.1)
            (told_both Notes (contest_in universe n) (outs_told before (drop (suc place) ss) m) now later after told rest));
      })

  pub outs_ledger : (place : ℕ) (n : Ledger) (now : O) → count ≤ place → OutsOn Notes before first n start now count place → n ≡ after_outs before first.monitor.streams first
  outs_ledger place n now past on = sym (outs_done before place first.monitor.streams n (omega (arith, past, on.whole))).0 ∙ on.ledger

  pub outs_all : (place : ℕ) (n : Ledger) (now : O) → count ≤ place → OutsOn Notes before first n start now count place → AreTold Notes (outs_told before first.monitor.streams first) start now
  outs_all place n now past on =
      on.told now (told_as Notes [] (outs_told before (drop place first.monitor.streams) n) now now (sym (outs_done before place first.monitor.streams n (omega (arith, past, on.whole))).1) (told_nothing Notes now))

-- the losses up to the moment at which a light goes out, and then the contests
pub light_both : {O : Type 0} (Notes : O → Told → O → Type 0) (at before : ℕ) (n m : Ledger) (a b c : O) → at ≡ light_end_of n.monitor → before ≡ n.monitor.moment → m ≡ silenced MOST_STEPS at n → AreTold Notes (silence_told MOST_STEPS at n) a b
    → AreTold Notes (outs_told before m.monitor.streams m) b c → AreTold Notes (light_told (light_end_of n.monitor) n) a c
unfolding light_told
light_both Notes at before n m a b c then since is first next =
    let l : Ledger = silenced MOST_STEPS at n in
    told_as Notes (silence_told MOST_STEPS at n ++ outs_told n.monitor.moment l.monitor.streams l) (light_told (light_end_of n.monitor) n) a c (ap (λ (t : ℕ). light_told t n) then)
    (told_both Notes (silence_told MOST_STEPS at n) (outs_told n.monitor.moment l.monitor.streams l) a b c first
    (told_as Notes (outs_told before m.monitor.streams m) (outs_told n.monitor.moment l.monitor.streams l) b c
    (ap (λ (t : ℕ). outs_told t m.monitor.streams m) since ∙ ap (λ (x : Ledger). outs_told n.monitor.moment x.monitor.streams x) is) next))

-- ---- one moment after the other

either_order : (b l r : Bool) → ((b || l) || r) ≡ (l || (b || r))
either_order true true r = refl
either_order true false r = refl
either_order false true r = refl
either_order false false r = refl

swapped : (b l : Bool) → (b || l) ≡ (l || b)
swapped true true = refl
swapped true false = refl
swapped false true = refl
swapped false false = refl

comes_on : (steps : ℕ) (c : Bool) → (nat_lt 0 steps && c) ≡ true → (0 < steps) × (c ≡ true)
comes_on zero c is = absurd (never c is)
  where
    never : (c : Bool) → (nat_lt 0 0 && c) ≡ true → ⊥
    never true is = let bad : ⊥ = cc in bad
    never false is = let bad : ⊥ = cc in bad
comes_on (suc k) c is = (omega arith, sym (ap (λ (b : Bool). b && c) (lt-ltb 0 (suc k) (omega arith))) ∙ is)

comes_no_more : (steps : ℕ) (c : Bool) → (nat_lt 0 steps && c) ≡ false → (steps ≡ 0) ⊎ (c ≡ false)
comes_no_more zero c is = inl refl
comes_no_more (suc k) c is = inr (sym (ap (λ (b : Bool). b && c) (lt-ltb 0 (suc k) (omega arith))) ∙ is)

-- what is left to tell leads to the whole, and a source was lost in all where one was so far or is in the rest
pub record EndsOn {O : Type 0} (Notes : O → Told → O → Type 0) (until : ℕ) (first n : Ledger) (before now : O) (steps : ℕ) (is_lost : Bool) : Type 0 where
  pub ledger : after_ends steps until n ≡ after_ends MOST_LIGHTS until first
  pub told : (after : O) → AreTold Notes (ends_told steps until n) now after → AreTold Notes (ends_told MOST_LIGHTS until first) before after
  pub lost : (is_lost || ends_lose steps until n) ≡ ends_lose MOST_LIGHTS until first

module _ {O : Type 0} (Notes : O → Told → O → Type 0) (until : ℕ) (first : Ledger) (before : O) where
  pub ends_begin : EndsOn Notes until first first before before MOST_LIGHTS false
  ends_begin = record { ledger = refl; told = λ after rest. rest; lost = refl }

  lose_one : (k : ℕ) (n : Ledger) → comes_by until (light_end_of n.monitor) ≡ true
      → ends_lose (suc k) until n ≡ (is_some (lost_place (light_end_of n.monitor) n) || ends_lose k until (after_light (light_end_of n.monitor) n))
  unfolding ends_lose
  lose_one k n is =
      ap (λ (b : Bool). cond b (is_some (lost_place (light_end_of n.monitor) n) || ends_lose k until (after_light (light_end_of n.monitor) n)) (is_some (lost_place until n))) is

  one_more_by : (left : ℕ) (n m : Ledger) (now later : O) (b l : Bool) → comes_by until (light_end_of n.monitor) ≡ true → b ≡ is_some (lost_place (light_end_of n.monitor) n) → m ≡ after_light (light_end_of n.monitor) n
      → AreTold Notes (light_told (light_end_of n.monitor) n) now later → EndsOn Notes until first n before now (suc left) l → EndsOn Notes until first m before later left (b || l)
  one_more_by left n m now later b l comes lost is told on =
      let at : ℕ = light_end_of n.monitor in
      record {
        ledger = ap (after_ends left until) is ∙ sym (ends_one left until n comes) ∙ on.ledger;
        told = λ after rest.
            on.told after (told_as Notes (light_told at n ++ ends_told left until m) (ends_told (suc left) until n) now after
            (ap (λ (x : Ledger). light_told at n ++ ends_told left until x) is ∙ sym (told_one_light left until n comes))
            (told_both Notes (light_told at n) (ends_told left until m) now later after told rest));
        lost = ap (λ (x : Bool). (x || l) || ends_lose left until m) lost
            ∙ ap (λ (x : Ledger). (is_some (lost_place at n) || l) || ends_lose left until x) is
            ∙ either_order (is_some (lost_place at n)) l (ends_lose left until (after_light at n))
            ∙ ap (λ (x : Bool). l || x) (sym (lose_one left n comes))
            ∙ on.lost;
      }

  pub one_more_light : (steps : ℕ) (n m : Ledger) (now later : O) (b l : Bool) → (nat_lt 0 steps && comes_by until (light_end_of n.monitor)) ≡ true → b ≡ is_some (lost_place (light_end_of n.monitor) n)
      → m ≡ after_light (light_end_of n.monitor) n → AreTold Notes (light_told (light_end_of n.monitor) n) now later → EndsOn Notes until first n before now steps l → EndsOn Notes until first m before later (steps - 1) (b || l)
  one_more_light zero n m now later b l comes lost is told on = let some = (comes_on zero (comes_by until (light_end_of n.monitor)) comes).0 in absurd (omega (arith, some))
  one_more_light (suc left) n m now later b l comes lost is told on =
      let fewer : suc left - 1 ≡ left = omega arith in
      rw fewer (one_more_by left n m now later b l (comes_on (suc left) (comes_by until (light_end_of n.monitor)) comes).1 lost is told on)

  -- no light goes out any more: the losses are the rest
  rest_ledger : (steps : ℕ) (n : Ledger) → (steps ≡ 0) ⊎ (comes_by until (light_end_of n.monitor) ≡ false) → after_ends steps until n ≡ silenced MOST_STEPS until n
  unfolding after_ends
  rest_ledger steps n (inl none) = ap (λ (k : ℕ). after_ends k until n) none
  rest_ledger steps n (inr none) = ends_quiet steps until n none

  rest_told : (steps : ℕ) (n : Ledger) → (steps ≡ 0) ⊎ (comes_by until (light_end_of n.monitor) ≡ false) → ends_told steps until n ≡ silence_told MOST_STEPS until n
  unfolding ends_told
  rest_told steps n (inl none) = ap (λ (k : ℕ). ends_told k until n) none
  rest_told steps n (inr none) = told_quiet steps until n none

  lose_quiet : (k : ℕ) (n : Ledger) → comes_by until (light_end_of n.monitor) ≡ false → ends_lose k until n ≡ is_some (lost_place until n)
  unfolding ends_lose
  lose_quiet zero n is = refl
  lose_quiet (suc k) n is =
      ap (λ (b : Bool). cond b (is_some (lost_place (light_end_of n.monitor) n) || ends_lose k until (after_light (light_end_of n.monitor) n)) (is_some (lost_place until n))) is

  rest_lost : (steps : ℕ) (n : Ledger) → (steps ≡ 0) ⊎ (comes_by until (light_end_of n.monitor) ≡ false) → ends_lose steps until n ≡ is_some (lost_place until n)
  unfolding ends_lose
  rest_lost steps n (inl none) = ap (λ (k : ℕ). ends_lose k until n) none
  rest_lost steps n (inr none) = lose_quiet steps n none

  pub all_ledger : (steps : ℕ) (n m : Ledger) (now : O) (l : Bool) → (nat_lt 0 steps && comes_by until (light_end_of n.monitor)) ≡ false → m ≡ silenced MOST_STEPS until n → EndsOn Notes until first n before now steps l
      → m ≡ after_ends MOST_LIGHTS until first
  all_ledger steps n m now l over is on = is ∙ sym (rest_ledger steps n (comes_no_more steps (comes_by until (light_end_of n.monitor)) over)) ∙ on.ledger

  pub all_told : (steps : ℕ) (n : Ledger) (now later : O) (l : Bool) → (nat_lt 0 steps && comes_by until (light_end_of n.monitor)) ≡ false → AreTold Notes (silence_told MOST_STEPS until n) now later
      → EndsOn Notes until first n before now steps l → AreTold Notes (ends_told MOST_LIGHTS until first) before later
  all_told steps n now later l over told on =
      on.told later (told_as Notes (silence_told MOST_STEPS until n) (ends_told steps until n) now later (sym (rest_told steps n (comes_no_more steps (comes_by until (light_end_of n.monitor)) over))) told)

  pub all_lost : (steps : ℕ) (n : Ledger) (now : O) (b l : Bool) → (nat_lt 0 steps && comes_by until (light_end_of n.monitor)) ≡ false → b ≡ is_some (lost_place until n) → EndsOn Notes until first n before now steps l
      → (b || l) ≡ ends_lose MOST_LIGHTS until first
  all_lost steps n now b l over lost on =
      swapped b l ∙ ap (λ (x : Bool). l || x) (lost ∙ sym (rest_lost steps n (comes_no_more steps (comes_by until (light_end_of n.monitor)) over))) ∙ on.lost
