-- What goes out in a turn is what is due.
use Rattle.std.proofs.Common.{◌≡◌, ℕ, ◌<◌, ◌≤◌, nat_lt, max, min, Bool, true, false, not, ◌&&◌, ◌||◌, cond, List, [], ◌∷◌, ◌++◌, Option, None, Some, sym, ap, ◌∙◌, refl, arith}
use Rattle.std.proofs.lemmas.Bool.{lt-ltb, ltb-true}
use Rattle.sacn_replay.specs.declared.head.Playhead.{Playhead}
use Rattle.sacn_replay.specs.declared.replay.ReplayCore.{ReplayCore}
use Rattle.sacn_replay.specs.declared.step.Step.{Step}
use Rattle.sacn_replay.specs.declared.step.Step.TheVariants.{Wait, Send, Skip, Pass, Again, End, Rest}
use Rattle.sacn_replay.specs.Heads.{last_moment, ticked, due, judged}
use Rattle.sacn_replay.specs.Steps.{is_after, end_step, step_at, turn_due, after_step, at_reading, after_pause, after_go, after_speed}
use Rattle.sacn_replay.specs.Playing.{Recorded, HandedOver, Event, Reading, Pause, Go, SetSpeed, answered, asked, handed_by, waits, is_fresh, fate, is_played, due_by, WhatIsDueGoesOut}
use Rattle.sacn_replay.proofs.Dues.{due_rises}

-- a record that goes out at a reading
abbrev this_at : Playhead → Recorded → HandedOver
this_at h r = record { reading = h.clock; recorded = r }

none_or : (b : Bool) (xs : List HandedOver) → xs ≡ [] → cond b xs [] ≡ []
none_or true xs is = is
none_or false xs is = refl

nothing_due : (c : ReplayCore) (g : ℕ) (rs : List Recorded) → due_by [] c g rs ≡ []
nothing_due c g [] = refl
nothing_due c g (r ∷ rs) =
    ap (λ (xs : List HandedOver). xs ++ due_by [] c (max g r.moment) rs) (none_or (is_played c (max g r.moment)) [] refl) ∙ nothing_due c (max g r.moment) rs

-- ---- records whose fates are the same

module _ (es fs : List Event) (c d : ReplayCore) (same : (p : ℕ) (r : Recorded) → cond (is_played c p) (fate es c.head p r) [] ≡ cond (is_played d p) (fate fs d.head p r) []) where
  same_due : (g : ℕ) (rs : List Recorded) → due_by es c g rs ≡ due_by fs d g rs
  same_due g [] = refl
  same_due g (r ∷ rs) = λ i. same (max g r.moment) r i ++ same_due (max g r.moment) rs i

-- a record that waits at a reading has the fate of the events behind it
waiting_fate : (now : ℕ) (es : List Event) (h : Playhead) (p : ℕ) (r : Recorded) → waits p (ticked now h) ≡ true → fate (Reading now ∷ es) h p r ≡ fate es (ticked now h) p r
waiting_fate now es h p r wait =
    ap (λ (b : Bool). cond b (fate es (ticked now h) p r) (cond (is_fresh p (ticked now h)) (this_at (ticked now h) r ∷ []) [])) wait

later_waits_by : (b : Bool) (clock a e : ℕ) → a ≤ e → (b || nat_lt clock a) ≡ true → (b || nat_lt clock e) ≡ true
later_waits_by true clock a e le is = refl
later_waits_by false clock a e le is =
    let below : clock < a = ltb-true clock a is in
    lt-ltb clock e (omega (arith, below, le))

later_waits : (h : Playhead) (p q : ℕ) → p ≤ q → waits p h ≡ true → waits q h ≡ true
later_waits h p q le is = later_waits_by h.is_paused h.clock (due p h) (due q h) (due_rises h p q le) is

-- where the next record waits, all wait
all_wait : (now : ℕ) (es : List Event) (c : ReplayCore) (p g : ℕ) (rs : List Recorded) → waits p (ticked now c.head) ≡ true → p ≤ g
    → due_by (Reading now ∷ es) c g rs ≡ due_by es (at_reading now c) g rs
all_wait now es c p g [] wait le = refl
all_wait now es c p g (r ∷ rs) wait le =
    let q : ℕ = max g r.moment in
    let wait_too : waits q (ticked now c.head) ≡ true = later_waits (ticked now c.head) p q (omega (arith, le)) wait in
    let this : fate (Reading now ∷ es) c.head q r ≡ fate es (ticked now c.head) q r = waiting_fate now es c.head q r wait_too in
    let rest : due_by (Reading now ∷ es) c q rs ≡ due_by es (at_reading now c) q rs = all_wait now es c p q rs wait (omega (arith, le)) in
    λ i. cond (is_played c q) (this i) [] ++ rest i

-- ---- behind the end nothing is due

after_rises : (until : Option ℕ) (p q : ℕ) → p ≤ q → is_after until p ≡ true → is_after until q ≡ true
after_rises None p q le is = is
after_rises (Some last) p q le is =
    let below : last < p = ltb-true last p is in
    lt-ltb last q (omega (arith, below, le))

not_played : (b a : Bool) → a ≡ true → (b && not a) ≡ false
not_played true a is = ap not is
not_played false a is = refl

none_behind : (es : List Event) (c : ReplayCore) (p g : ℕ) (rs : List Recorded) → is_after c.plan.until p ≡ true → p ≤ g → due_by es c g rs ≡ []
none_behind es c p g [] is le = refl
none_behind es c p g (r ∷ rs) is le =
    let q : ℕ = max g r.moment in
    let this : is_played c q ≡ false = not_played (not (nat_lt q c.first)) (is_after c.plan.until q) (after_rises c.plan.until p q (omega (arith, le)) is) in
    ap (λ (b : Bool). cond b (fate es c.head q r) [] ++ due_by es c q rs) this ∙ none_behind es c p q rs is (omega (arith, le))

-- ---- one record at one reading

max_twice : (a n : ℕ) → max (max a n) n ≡ max a n
max_twice a n = omega arith

-- the clock is read again
ticked_twice : (now : ℕ) (h : Playhead) → ticked now (ticked now h) ≡ ticked now h
ticked_twice now h = ap (λ (clock : ℕ). record h { clock = clock }) (max_twice h.clock now)

fate_again : (now : ℕ) (es : List Event) (h : Playhead) (p : ℕ) (r : Recorded) → fate (Reading now ∷ es) (ticked now h) p r ≡ fate (Reading now ∷ es) h p r
fate_again now es h p r =
    ap (λ (k : Playhead). cond (waits p k) (fate es k p r) (cond (is_fresh p k) (this_at k r ∷ []) [])) (ticked_twice now h)

-- the records behind one that was answered, at the same reading
behind_due : (now : ℕ) (es : List Event) (c d : ReplayCore) → d.head ≡ ticked now c.head → d.first ≡ c.first → d.plan ≡ c.plan → (g : ℕ) (rs : List Recorded)
    → due_by (Reading now ∷ es) d g rs ≡ due_by (Reading now ∷ es) c g rs
behind_due now es c d head first plan g rs = same_due (Reading now ∷ es) (Reading now ∷ es) d c same g rs
  where
    fated : (p : ℕ) (r : Recorded) → fate (Reading now ∷ es) d.head p r ≡ fate (Reading now ∷ es) c.head p r
    fated p r = ap (λ (h : Playhead). fate (Reading now ∷ es) h p r) head ∙ fate_again now es c.head p r

    same : (p : ℕ) (r : Recorded) → cond (is_played d p) (fate (Reading now ∷ es) d.head p r) [] ≡ cond (is_played c p) (fate (Reading now ∷ es) c.head p r) []
    same p r = λ i. cond (not (nat_lt p (first i)) && not (is_after (plan i).until p)) (fated p r i) []

-- behind the end none of the records that are left is due
none_left : (es : List Event) (c : ReplayCore) (r : Recorded) (rs : List Recorded) → is_after c.plan.until (max c.greatest r.moment) ≡ true → due_by es c c.greatest (r ∷ rs) ≡ []
none_left es c r rs is =
    let p : ℕ = max c.greatest r.moment in
    let this : is_played c p ≡ false = not_played (not (nat_lt p c.first)) (is_after c.plan.until p) is in
    ap (λ (b : Bool). cond b (fate es c.head p r) [] ++ due_by es c p rs) this ∙ none_behind es c p p rs is (omega arith)

-- what goes out of the records that are left
abbrev IsDue : List Event → Type 0
IsDue es = (c : ReplayCore) (rs : List Recorded) → c.rewinds ≡ false → handed_by es c rs ≡ due_by es c c.greatest rs

module _ (now : ℕ) (es : List Event) (later : IsDue es) (c : ReplayCore) (rewinds : c.rewinds ≡ false) (r : Recorded) (rs : List Recorded) where
  abbrev read : ReplayCore
  read = at_reading now c

  abbrev place : ℕ
  place = max c.greatest r.moment

  -- what a step comes to
  abbrev stepped : Step → List HandedOver
  stepped step =
      answered step (this_at read.head r) (asked now (handed_by es) (after_step step (Some r.moment) read) rs) (handed_by es (after_step step (Some r.moment) read) (r ∷ rs))

  abbrev Behind : Type 0
  Behind = (d : ReplayCore) → d.rewinds ≡ false → asked now (handed_by es) d rs ≡ due_by (Reading now ∷ es) d d.greatest rs

  -- the records behind this one, once it is passed
  on : Behind → (d : ReplayCore) → d.rewinds ≡ c.rewinds → d.greatest ≡ place → d.head ≡ ticked now c.head → d.first ≡ c.first → d.plan ≡ c.plan
      → asked now (handed_by es) d rs ≡ due_by (Reading now ∷ es) c place rs
  on behind d rw greatest head first plan =
      behind d (rw ∙ rewinds) ∙ ap (λ (g : ℕ). due_by (Reading now ∷ es) d g rs) greatest ∙ behind_due now es c d head first plan place rs

  ended : is_after c.plan.until place ≡ true → (b l w : Bool) (d : ℕ) → stepped (cond b Rest (cond l (cond w (Wait d) Again) End)) ≡ []
  ended is true l w d = later read (r ∷ rs) rewinds ∙ none_left es read r rs is
  ended is false true true d = later read (r ∷ rs) rewinds ∙ none_left es read r rs is
  ended is false true false d = refl
  ended is false false w d = refl

  waited : is_played c place ≡ true → waits place read.head ≡ true → handed_by es read (r ∷ rs) ≡ fate es read.head place r ++ due_by (Reading now ∷ es) c place rs
  waited played wait =
      later read (r ∷ rs) rewinds
      ∙ ap (λ (b : Bool). cond b (fate es read.head place r) [] ++ due_by es read place rs) played
      ∙ ap (λ (xs : List HandedOver). fate es read.head place r ++ xs) (sym (all_wait now es c place place rs wait (omega arith)))

  judged_so : Behind → is_played c place ≡ true → (b w f : Bool) (d : ℕ) → (b || w) ≡ waits place read.head
      → stepped (cond b Rest (cond w (Wait d) (cond f Send Skip))) ≡ cond (b || w) (fate es read.head place r) (cond f (this_at read.head r ∷ []) []) ++ due_by (Reading now ∷ es) c place rs
  judged_so behind played true w f d wait = waited played (sym wait)
  judged_so behind played false true f d wait = waited played (sym wait)
  judged_so behind played false false true d wait =
      ap (λ (xs : List HandedOver). this_at read.head r ∷ xs) (on behind (after_step Send (Some r.moment) read) refl refl refl refl refl)
  judged_so behind played false false false d wait = on behind (after_step Skip (Some r.moment) read) refl refl refl refl refl

  by_place : Behind → (b a : Bool) → nat_lt place c.first ≡ b → is_after c.plan.until place ≡ a
      → stepped (cond b Pass (cond a (end_step read) (judged place read.head))) ≡ cond (not b && not a) (fate (Reading now ∷ es) c.head place r) [] ++ due_by (Reading now ∷ es) c place rs
  by_place behind true a first last = on behind (after_step Pass (Some r.moment) read) refl refl refl refl refl
  by_place behind false true first last =
      ended last read.head.is_paused c.plan.is_loop (nat_lt read.head.clock (turn_due read)) (min (turn_due read) last_moment)
      ∙ sym (none_behind (Reading now ∷ es) c place place rs last (omega arith))
  by_place behind false false first last =
      judged_so behind (λ i. not (first i) && not (last i)) read.head.is_paused (nat_lt read.head.clock (due place read.head)) (is_fresh place read.head) (min (due place read.head) last_moment) refl

  one_more : Behind → asked now (handed_by es) c (r ∷ rs) ≡ due_by (Reading now ∷ es) c c.greatest (r ∷ rs)
  one_more behind = ap (λ (b : Bool). stepped (cond b Again (step_at place read))) rewinds ∙ by_place behind (nat_lt place c.first) (is_after c.plan.until place) refl refl

reading : (now : ℕ) (es : List Event) → IsDue es → (rs : List Recorded) (c : ReplayCore) → c.rewinds ≡ false → asked now (handed_by es) c rs ≡ due_by (Reading now ∷ es) c c.greatest rs
reading now es later [] c rewinds = refl
reading now es later (r ∷ rs) c rewinds = one_more now es later c rewinds r rs (reading now es later rs)

pub what_is_due : WhatIsDueGoesOut
what_is_due [] c rs rewinds = sym (nothing_due c c.greatest rs)
what_is_due (Reading now ∷ es) c rs rewinds = reading now es (what_is_due es) rs c rewinds
what_is_due (Pause now ∷ es) c rs rewinds =
    what_is_due es (after_pause (at_reading now c)) rs rewinds ∙ same_due es (Pause now ∷ es) (after_pause (at_reading now c)) c (λ p r. refl) c.greatest rs
what_is_due (Go now ∷ es) c rs rewinds =
    what_is_due es (after_go (at_reading now c)) rs rewinds ∙ same_due es (Go now ∷ es) (after_go (at_reading now c)) c (λ p r. refl) c.greatest rs
what_is_due (SetSpeed now speed ∷ es) c rs rewinds =
    what_is_due es (after_speed speed (at_reading now c)) rs rewinds
    ∙ same_due es (SetSpeed now speed ∷ es) (after_speed speed (at_reading now c)) c (λ p r. refl) c.greatest rs
