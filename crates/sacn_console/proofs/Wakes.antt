-- Wakes of one line, over looks and packets.
use Rattle.std.proofs.Common.{◌≡◌, ℕ, ◌+◌, ◌-◌, ◌%◌, ◌<◌, ◌≤◌, min, Bool, true, false, not, ◌&&◌, ◌||◌, ◌==◌, if◌then◌else◌, nat_lt, nat_le, List, Option, Some, None, refl, arith, sym, ◌∙◌}
use Rattle.std.proofs.lemmas.Bool.Decides.{nat_tests}
use Rattle.sacn_cues.specs.Playing.{StaysAsItIs, is_still}
use Rattle.sacn_console.specs.declared.limits.TheConstants.{MIN_GAP, KEEP_ALIVE}
use Rattle.sacn_console.specs.Lights.{Lights, frame, frame_now}
use Rattle.sacn_console.specs.Lines.{same, has_passed, asks, line_due, line_sent, state_sent, fresh_run, is_stopped}
use Rattle.sacn_console.specs.Wakes.{Finds, FrameStays, IsWake, IsQuiet, last_moment, when_passed, wake_sent}
use Rattle.sacn_console.specs.declared.line.Run.{Run}
use Rattle.sacn_console.specs.declared.line.UniverseLine.{UniverseLine}
use Rattle.sacn_console.specs.declared.line.Look.TheVariants.{Due, Asleep}
use Rattle.sacn_console.specs.declared.line.State.{State}
use Rattle.sacn_console.specs.declared.line.State.TheVariants.{Running, Ending, Stopped}
use Rattle.sacn_console.proofs.Frames.{same_self, now_is, frame_stays}

-- ---- moments

le_true : (a b : ℕ) → a ≤ b → nat_le a b ≡ true
le_true a b h = grind (arith, nat_tests)

le_false : (a b : ℕ) → b < a → nat_le a b ≡ false
le_false a b h = grind (arith, nat_tests)

pub is_le : (a b : ℕ) → nat_le a b ≡ true → a ≤ b
is_le a b h = grind (arith, nat_tests)

pub is_above : (a b : ℕ) → nat_le a b ≡ false → b < a
is_above a b h = grind (arith, nat_tests)

reached : (wait last w m : ℕ) → w ≡ min (m + wait) last → w < last → wait ≤ w - m
reached wait last w m e lt = omega (arith, e, lt)

not_reached : (wait last s m : ℕ) → 0 < wait → s < min (m + wait) last → s - m < wait
not_reached wait last s m some lt = omega (arith, some, lt)

next_first : (wait last t m : ℕ) → t - m < wait → min (t + 1) last ≤ min (m + wait) last
next_first wait last t m lt = omega (arith, lt)

passed_then : (wait w : ℕ) (last : Option ℕ) → w ≡ when_passed wait last → w < last_moment → has_passed wait w last ≡ true
passed_then wait w None e lt = refl
passed_then wait w (Some m) e lt = le_true wait (w - m) (reached wait last_moment w m e lt)

not_passed : (wait s : ℕ) (last : Option ℕ) → 0 < wait → s < when_passed wait last → has_passed wait s last ≡ false
not_passed wait s None some lt = absurd (omega (arith, lt))
not_passed wait s (Some m) some lt = le_false wait (s - m) (not_reached wait last_moment s m some lt)

pub ahead : (wait t : ℕ) (last : Option ℕ) → has_passed wait t last ≡ false → min (t + 1) last_moment ≤ when_passed wait last
ahead wait t None e = absurd (cc)
ahead wait t (Some m) e = next_first wait last_moment t m (is_above wait (t - m) e)

longer_gap : (a b t m : ℕ) → a ≤ b → b ≤ t - m → a ≤ t - m
longer_gap a b t m le h = omega (arith, le, h)

gap_passed : (t : ℕ) (last : Option ℕ) → has_passed KEEP_ALIVE t last ≡ true → has_passed MIN_GAP t last ≡ true
gap_passed t None e = refl
gap_passed t (Some m) e = le_true MIN_GAP (t - m) (longer_gap MIN_GAP KEEP_ALIVE t m (omega arith) (is_le KEEP_ALIVE (t - m) e))

goes_on : (wait t w m : ℕ) → t ≤ w → wait ≤ t - m → wait ≤ w - m
goes_on wait t w m le h = omega (arith, le, h)

still_passed : (wait t w : ℕ) (last : Option ℕ) → t ≤ w → has_passed wait t last ≡ true → has_passed wait w last ≡ true
still_passed wait t w None le e = refl
still_passed wait t w (Some m) le e = le_true wait (w - m) (goes_on wait t w m le (is_le wait (t - m) e))

-- ---- one line

first_false : (a b : Bool) → a ≡ false → (a && b) ≡ false
first_false a b e = rw e refl

second_false : (a b : Bool) → b ≡ false → (a && b) ≡ false
second_false true b e = e
second_false false b e = refl

both_true : (a b : Bool) → a ≡ true → b ≡ true → (a && b) ≡ true
both_true a b e f = rw (e, f) refl

no_wait : (a b b2 c : Bool) → (a || (b || c)) ≡ false → b2 ≡ false → (a || (b2 || c)) ≡ false
no_wait true b b2 c h e = absurd (cc)
no_wait false true b2 c h e = absurd (cc)
no_wait false false b2 c h e = rw e h

more_wait : (a b b2 c : Bool) → (a || (b || c)) ≡ true → (b ≡ true → b2 ≡ true) → (a || (b2 || c)) ≡ true
more_wait true b b2 c h e = refl
more_wait false true b2 c h e = rw (e refl) refl
more_wait false false true c h e = refl
more_wait false false false c h e = h

middle_true : (a b c : Bool) → b ≡ true → (a || (b || c)) ≡ true
middle_true true b c e = refl
middle_true false b c e = rw e refl

stopped_asks : (t : ℕ) (last : Option ℕ) (f : List ℕ) (s : State) → is_stopped s ≡ true → asks t last f s ≡ false
stopped_asks t last f (Running r) e = absurd (cc)
stopped_asks t last f (Ending n) e = absurd (cc)
stopped_asks t last f Stopped e = refl

asks_later : (t s : ℕ) (last : Option ℕ) (f : List ℕ) (st : State) → asks t last f st ≡ false → has_passed KEEP_ALIVE s last ≡ false → asks s last f st ≡ false
asks_later t s last f (Running None) h e = absurd (cc)
asks_later t s last f (Running (Some r)) h e = no_wait (nat_lt 0 r.owed) (has_passed KEEP_ALIVE t last) (has_passed KEEP_ALIVE s last) (not (same r.frame f)) h e
asks_later t s last f (Ending n) h e = absurd (cc)
asks_later t s last f Stopped h e = refl

asks_on : (t s : ℕ) (last : Option ℕ) (f : List ℕ) (st : State) → t ≤ s → asks t last f st ≡ true → asks s last f st ≡ true
asks_on t s last f (Running None) le h = refl
asks_on t s last f (Running (Some r)) le h = more_wait (nat_lt 0 r.owed) (has_passed KEEP_ALIVE t last) (has_passed KEEP_ALIVE s last) (not (same r.frame f)) h (still_passed KEEP_ALIVE t s last le)
asks_on t s last f (Ending n) le h = refl
asks_on t s last f Stopped le h = absurd (cc)

asks_alive : (s : ℕ) (last : Option ℕ) (f : List ℕ) (st : State) → is_stopped st ≡ false → has_passed KEEP_ALIVE s last ≡ true → asks s last f st ≡ true
asks_alive s last f (Running None) go e = refl
asks_alive s last f (Running (Some r)) go e = middle_true (nat_lt 0 r.owed) (has_passed KEEP_ALIVE s last) (not (same r.frame f)) e
asks_alive s last f (Ending n) go e = refl
asks_alive s last f Stopped go e = absurd (cc)

quiet_alive : (t : ℕ) (last : Option ℕ) (f : List ℕ) (st : State) → is_stopped st ≡ false → asks t last f st ≡ false → has_passed KEEP_ALIVE t last ≡ false
quiet_alive t last f st go h = elim (has_passed KEEP_ALIVE t last) as (λ b. has_passed KEEP_ALIVE t last ≡ b → b ≡ false) [
  | true ↦ λ e. absurd (never t last f st go h e)
  | false ↦ λ e. refl
] refl where
  never : (t : ℕ) (last : Option ℕ) (f : List ℕ) (st : State) → is_stopped st ≡ false → asks t last f st ≡ false → has_passed KEEP_ALIVE t last ≡ true → ⊥
  never t last f st go h e = let on : asks t last f st ≡ true = asks_alive t last f st go e in absurd (cc)

stopped_sleeps : (p : Lights) (s : ℕ) (l : UniverseLine) → is_stopped l.state ≡ true → line_due p s l ≡ false
unfolding line_due
stopped_sleeps p s l e = second_false (has_passed MIN_GAP s l.last) _ (stopped_asks s l.last (frame p l.universe s) l.state e)

early_sleeps : (p : Lights) (s : ℕ) (l : UniverseLine) → has_passed MIN_GAP s l.last ≡ false → line_due p s l ≡ false
unfolding line_due
early_sleeps p s l e = first_false (has_passed MIN_GAP s l.last) _ e

asks_sleeps : (p : Lights) (s : ℕ) (l : UniverseLine) (f : List ℕ) → frame p l.universe s ≡ f → asks s l.last f l.state ≡ false → line_due p s l ≡ false
unfolding line_due
asks_sleeps p s l f fe e = second_false (has_passed MIN_GAP s l.last) _ (rw fe e)

asks_due : (p : Lights) (s : ℕ) (l : UniverseLine) (f : List ℕ) → frame p l.universe s ≡ f → has_passed MIN_GAP s l.last ≡ true → asks s l.last f l.state ≡ true → line_due p s l ≡ true
unfolding line_due
asks_due p s l f fe e h = both_true (has_passed MIN_GAP s l.last) _ e (rw fe h)

alive_due : (p : Lights) (s : ℕ) (l : UniverseLine) → is_stopped l.state ≡ false → has_passed KEEP_ALIVE s l.last ≡ true → line_due p s l ≡ true
alive_due p s l go e = asks_due p s l (frame p l.universe s) refl (gap_passed s l.last e) (asks_alive s l.last (frame p l.universe s) l.state go e)

-- ---- looks

pub look_stopped : (p : Lights) (t : ℕ) (l : UniverseLine) (f : List ℕ) (w : ℕ) → is_stopped l.state ≡ true → last_moment ≤ w → Finds p t l f (Asleep w)
look_stopped p t l f w e le = (
  (stopped_sleeps p t l e, omega (arith, le)),
  (λ s from lt. stopped_sleeps p s l e, λ still from lt. absurd (omega (arith, le, lt))),
)

pub both_ways : (b : Bool) → b ≡ true → b ≡ false → ⊥
both_ways true e f = absurd (cc)
both_ways false e f = absurd (cc)

pub look_fading : (p : Lights) (t : ℕ) (l : UniverseLine) (f : List ℕ) (w : ℕ) (b : Bool) → b ≡ is_still p.player → b ≡ false → has_passed MIN_GAP t l.last ≡ false → w ≡ when_passed MIN_GAP l.last → Finds p t l f (Asleep w)
look_fading p t l f w b tells not_still e is = (
  (early_sleeps p t l e, rw is (ahead MIN_GAP t l.last e)),
  (λ s from lt. early_sleeps p s l (not_passed MIN_GAP s l.last (omega arith) (rw is at lt)), λ still from lt. absurd (both_ways b (tells ∙ still) not_still)),
)

pub look_waiting : (p : Lights) (t : ℕ) (l : UniverseLine) (f : List ℕ) (w : ℕ) → p.player.moment ≡ t → StaysAsItIs p.player → f ≡ frame_now p l.universe → has_passed MIN_GAP t l.last ≡ false → asks t l.last f l.state ≡ true → w ≡ when_passed MIN_GAP l.last → Finds p t l f (Asleep w)
look_waiting p t l f w m stays fe e h is = (
  (early_sleeps p t l e, rw is (ahead MIN_GAP t l.last e)),
  (
    λ s from lt. early_sleeps p s l (not_passed MIN_GAP s l.last (omega arith) (rw is at lt)),
    λ still from lt. asks_due p w l f (frame_stays p l.universe w stays ∙ sym fe) (passed_then MIN_GAP w l.last is lt) (asks_on t w l.last f l.state (omega (arith, from)) h),
  ),
)

pub look_due : (p : Lights) (t : ℕ) (l : UniverseLine) (f : List ℕ) → p.player.moment ≡ t → has_passed MIN_GAP t l.last ≡ true → f ≡ frame_now p l.universe → asks t l.last f l.state ≡ true → Finds p t l f Due
look_due p t l f m e fe h =
    let is : frame p l.universe t ≡ f = now_is p l.universe t m ∙ sym fe in
    (asks_due p t l f is e h, sym is)

pub look_quiet : (p : Lights) (t : ℕ) (l : UniverseLine) (f : List ℕ) (w : ℕ) → p.player.moment ≡ t → StaysAsItIs p.player → is_stopped l.state ≡ false → f ≡ frame_now p l.universe → asks t l.last f l.state ≡ false → w ≡ when_passed KEEP_ALIVE l.last → Finds p t l f (Asleep w)
look_quiet p t l f w m stays go fe e is =
    let now : frame p l.universe t ≡ f = now_is p l.universe t m ∙ sym fe in (
      (asks_sleeps p t l f now e, rw is (ahead KEEP_ALIVE t l.last (quiet_alive t l.last f l.state go e))),
      (
        λ s from lt. asks_sleeps p s l f (frame_stays p l.universe s stays ∙ sym fe) (asks_later t s l.last f l.state e (not_passed KEEP_ALIVE s l.last (omega arith) (rw is at lt))),
        λ still from lt. alive_due p w l go (passed_then KEEP_ALIVE w l.last is lt),
      ),
    )

no_later : (t s w last : ℕ) → w ≡ min (t + 1) last → t ≤ s → s < w → s ≡ t
no_later t s w last e le lt = omega (arith, e, le, lt)

pub look_awake : (p : Lights) (t : ℕ) (l : UniverseLine) (f : List ℕ) (w : ℕ) (b : Bool) → b ≡ is_still p.player → b ≡ false → p.player.moment ≡ t → f ≡ frame_now p l.universe → asks t l.last f l.state ≡ false → w ≡ min (t + 1) last_moment → Finds p t l f (Asleep w)
look_awake p t l f w b tells not_still m fe e is =
    let now : frame p l.universe t ≡ f = now_is p l.universe t m ∙ sym fe in
    let quiet : line_due p t l ≡ false = asks_sleeps p t l f now e in (
      (quiet, omega (arith, is)),
      (λ s from lt. rw (no_later t s w last_moment is from lt) quiet, λ still from lt. absurd (both_ways b (tells ∙ still) not_still)),
    )

-- none of the universe's own channels fades, others do
pub look_resting : (p : Lights) (t : ℕ) (l : UniverseLine) (f : List ℕ) (w : ℕ) (b : Bool) → b ≡ is_still p.player → b ≡ false → p.player.moment ≡ t → FrameStays p l.universe → is_stopped l.state ≡ false → f ≡ frame_now p l.universe → asks t l.last f l.state ≡ false → w ≡ when_passed KEEP_ALIVE l.last → Finds p t l f (Asleep w)
look_resting p t l f w b tells not_still m stays go fe e is =
    let now : frame p l.universe t ≡ f = now_is p l.universe t m ∙ sym fe in (
      (asks_sleeps p t l f now e, rw is (ahead KEEP_ALIVE t l.last (quiet_alive t l.last f l.state go e))),
      (
        λ s from lt. asks_sleeps p s l f (stays s ∙ sym fe) (asks_later t s l.last f l.state e (not_passed KEEP_ALIVE s l.last (omega arith) (rw is at lt))),
        λ still from lt. absurd (both_ways b (tells ∙ still) not_still),
      ),
    )

-- ---- after a packet

-- the frame of a run's latest packet
abbrev pub ShowsFrame : List ℕ → State → Type 0
ShowsFrame f (Running None) = Unit {0}
ShowsFrame f (Running (Some r)) = r.frame ≡ f
ShowsFrame f (Ending n) = Unit {0}
ShowsFrame f Stopped = Unit {0}

shows_if : (b : Bool) (f : List ℕ) (x y : Run) → x.frame ≡ f → y.frame ≡ f → ShowsFrame f (if b then Running (Some x) else Running (Some y))
shows_if true f x y e h = e
shows_if false f x y e h = h

ends_if : (b : Bool) (f : List ℕ) (n : ℕ) → ShowsFrame f (if b then Stopped else Ending n)
ends_if true f n = tt
ends_if false f n = tt

shows_sent : (f : List ℕ) (s : State) → ShowsFrame f (state_sent f s)
unfolding state_sent
shows_sent f (Running None) = refl
shows_sent f (Running (Some r)) = shows_if (same r.frame f) f (record { frame = f; owed = r.owed - 1 }) (fresh_run f) refl refl
shows_sent f (Ending n) = ends_if (nat_lt n 2) f (n - 1)
shows_sent f Stopped = tt

zero_if : (b : Bool) (n : ℕ) → (b && n == 0) ≡ true → n ≡ 0
zero_if true n e = grind (arith, nat_tests)
zero_if false n e = absurd (cc)

still_if : (b : Bool) (n : ℕ) → (b && n == 0) ≡ true → b ≡ true
still_if true n e = refl
still_if false n e = absurd (cc)

owed_if : (b : Bool) (n : ℕ) → (b && n == 0) ≡ false → b ≡ true → nat_lt 0 n ≡ true
owed_if true n e t = grind (arith, nat_tests)
owed_if false n e t = absurd (cc)

none_owed : (n : ℕ) (a b : Bool) → n ≡ 0 → a ≡ false → b ≡ true → (nat_lt 0 n || (a || not b)) ≡ false
none_owed n a b z e f = rw (z, e, f) refl

owed_asks : (n : ℕ) (c : Bool) → nat_lt 0 n ≡ true → (nat_lt 0 n || c) ≡ true
owed_asks n c e = rw e refl

before_gap : (t last : ℕ) → min (t + 1) last ≤ min (t + 25) last
before_gap t last = omega arith

before_keep : (t last : ℕ) → min (t + 1) last ≤ min (t + 900) last
before_keep t last = omega arith

gap_starts : (t : ℕ) → nat_le MIN_GAP (t - t) ≡ false
gap_starts t = le_false MIN_GAP (t - t) (omega arith)

-- what holds of a line right after its packet: f is its frame
abbrev pub SentAt : Lights → ℕ → List ℕ → UniverseLine → Type 0
SentAt p t f l = (l.last ≡ Some t) × ShowsFrame f l.state × (f ≡ frame p l.universe t)

frame_of : (p : Lights) (t s : ℕ) (u : ℕ) (f : List ℕ) → p.player.moment ≡ t → StaysAsItIs p.player → f ≡ frame p u t → frame p u s ≡ f
frame_of p t s u f m stays fe = frame_stays p u s stays ∙ sym (now_is p u t m) ∙ sym fe

same_as : (f g : List ℕ) → f ≡ g → same f g ≡ true
same_as f g e = rw e (same_self g)

-- a state that asks at each moment: the next packet comes with the least gap
gap_wake : (p : Lights) (t : ℕ) (l : UniverseLine) → l.last ≡ Some t → (is_still p.player ≡ true → (s : ℕ) (f : List ℕ) → asks s l.last f l.state ≡ true) → IsQuiet p t (when_passed MIN_GAP l.last) l × IsWake p t (when_passed MIN_GAP l.last) l
gap_wake p t l e h =
    let early : has_passed MIN_GAP t l.last ≡ false = rw e (gap_starts t) in (
      (early_sleeps p t l early, ahead MIN_GAP t l.last early),
      (
        λ s from lt. early_sleeps p s l (not_passed MIN_GAP s l.last (omega arith) lt),
        λ still from lt. asks_due p (when_passed MIN_GAP l.last) l (frame p l.universe (when_passed MIN_GAP l.last)) refl (passed_then MIN_GAP (when_passed MIN_GAP l.last) l.last refl lt) (h still (when_passed MIN_GAP l.last) (frame p l.universe (when_passed MIN_GAP l.last))),
      ),
    )

-- nothing is owed, and no fade runs: a keep-alive packet comes next
keep_wake : (p : Lights) (t : ℕ) (l : UniverseLine) (r : Run) (f : List ℕ) → l.last ≡ Some t → l.state ≡ Running (Some r) → r.owed ≡ 0 → r.frame ≡ f → ((s : ℕ) → frame p l.universe s ≡ f) → IsQuiet p t (when_passed KEEP_ALIVE l.last) l × IsWake p t (when_passed KEEP_ALIVE l.last) l
keep_wake p t l r f e st owed fr stays =
    let early : has_passed MIN_GAP t l.last ≡ false = rw e (gap_starts t) in
    let first : min (t + 1) last_moment ≤ when_passed KEEP_ALIVE l.last = rw e (before_keep t last_moment) in (
      (early_sleeps p t l early, first),
      (
        λ s from lt. asks_sleeps p s l f (stays s) (rw st (none_owed r.owed (has_passed KEEP_ALIVE s l.last) (same r.frame f) owed (not_passed KEEP_ALIVE s l.last (omega arith) lt) (same_as r.frame f fr))),
        λ still from lt. alive_due p (when_passed KEEP_ALIVE l.last) l (rw st refl) (passed_then KEEP_ALIVE (when_passed KEEP_ALIVE l.last) l.last refl lt),
      ),
    )

run_wake : (p : Lights) (t : ℕ) (l : UniverseLine) (r : Run) (f : List ℕ) (still b : Bool) → (still && r.owed == 0) ≡ b → l.last ≡ Some t → l.state ≡ Running (Some r) → r.frame ≡ f → f ≡ frame p l.universe t → p.player.moment ≡ t → still ≡ is_still p.player → (still ≡ true → StaysAsItIs p.player) →
    IsQuiet p t (if b then when_passed KEEP_ALIVE l.last else when_passed MIN_GAP l.last) l × IsWake p t (if b then when_passed KEEP_ALIVE l.last else when_passed MIN_GAP l.last) l
run_wake p t l r f still true is e st fr fe m tells stays = keep_wake p t l r f e st (zero_if still r.owed is) fr (λ s. frame_of p t s l.universe f m (stays (still_if still r.owed is)) fe)
run_wake p t l r f still false is e st fr fe m tells stays = gap_wake p t l e (λ yes s g. rw st (owed_asks r.owed (has_passed KEEP_ALIVE s l.last || not (same r.frame g)) (owed_if still r.owed is (tells ∙ yes))))

state_wake : (p : Lights) (t : ℕ) (l : UniverseLine) (f : List ℕ) (still : Bool) (s : State) → l.state ≡ s → l.last ≡ Some t → ShowsFrame f s → f ≡ frame p l.universe t → p.player.moment ≡ t → still ≡ is_still p.player → (still ≡ true → StaysAsItIs p.player) →
    IsQuiet p t (wake_sent still l.last s) l × IsWake p t (wake_sent still l.last s) l
state_wake p t l f still (Running None) st e shows fe m tells stays = gap_wake p t l e (λ yes s g. rw st refl)
state_wake p t l f still (Running (Some r)) st e shows fe m tells stays = run_wake p t l r f still (still && r.owed == 0) refl e st shows fe m tells stays
state_wake p t l f still (Ending n) st e shows fe m tells stays = gap_wake p t l e (λ yes s g. rw st refl)
state_wake p t l f still Stopped st e shows fe m tells stays =
    let go : is_stopped l.state ≡ true = rw st refl in (
      (stopped_sleeps p t l go, omega arith),
      (λ s from lt. stopped_sleeps p s l go, λ yes from lt. absurd (omega (arith, lt))),
    )

-- the line after its packet with the frame f
pub sent_wakes : (p : Lights) (t : ℕ) (l y : UniverseLine) (f : List ℕ) (still : Bool) → y ≡ line_sent t f l → f ≡ frame p l.universe t → p.player.moment ≡ t → still ≡ is_still p.player → (still ≡ true → StaysAsItIs p.player) →
    IsQuiet p t (wake_sent still y.last y.state) y × IsWake p t (wake_sent still y.last y.state) y
unfolding line_sent
sent_wakes p t l y f still e fe m tells stays =
    rw e (state_wake p t (record { universe = l.universe; state = state_sent f l.state; sequence_number = (l.sequence_number + 1) % 256; last = Some t }) f still (state_sent f l.state) refl refl (shows_sent f l.state) fe m tells stays)
