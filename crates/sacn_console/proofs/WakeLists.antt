-- Wakes of all lines.
use Rattle.std.proofs.Common.{◌≡◌, ℕ, ◌+◌, ◌<◌, ◌≤◌, min, Bool, true, false, ◌&&◌, ◌==◌, ◌≢◌, if◌then◌else◌, List, [], ◌∷◌, length, get_or, slice_index_or, slice_set, replicate, find, Some, None, suc, zero, refl, arith, ap, sym, ◌∙◌}
use Rattle.std.proofs.lemmas.Bool.Decides.{nat_tests}
use Rattle.std.proofs.lemmas.List.{length-set, length-replicate, get_or-set_other, get_or_read}
use Rattle.std.proofs.lemmas.Grind.{get_or-set_at}
use Rattle.sacn_cues.specs.Playing.{is_still}
use Rattle.sacn_console.specs.declared.limits.TheConstants.{MIN_GAP}
use Rattle.sacn_console.specs.Lights.{Lights, lights_at, frame}
use Rattle.sacn_console.specs.Lines.{same, has_passed, asks, line_due}
use Rattle.sacn_console.specs.Core.{Core, no_line}
use Rattle.sacn_console.specs.Wakes.{IsWake, IsQuiet, QuietBefore, IsLeast, Waking, WakesOk, last_moment, passed_over}
use Rattle.sacn_console.specs.declared.line.UniverseLine.{UniverseLine}
use Rattle.sacn_console.proofs.Frames.{frame_later}

-- ---- lists of lines

equal_at : (i j : ℕ) → (i == j) ≡ true → j ≡ i
equal_at i j h = grind arith

other_at : (i j : ℕ) → (i == j) ≡ false → j ≢ i
other_at i j h = λ e. absurd (grind arith)

-- a property of each wake with its line stays where one place is written in both lists
set_by : (P : ℕ → UniverseLine → Type 0) (wakes : List ℕ) (lines : List UniverseLine) (n i w : ℕ) (y : UniverseLine) → length wakes ≡ length lines →
    ((j : ℕ) (d : UniverseLine) → j < n → j < length lines → P (get_or wakes j 0) (get_or lines j d)) → i < length lines → P w y →
    (j : ℕ) (d : UniverseLine) → j < n → j < length lines → (b : Bool) → (i == j) ≡ b → P (get_or (slice_set wakes i w) j 0) (get_or (slice_set lines i y) j d)
set_by P wakes lines n i w y same all lt h j d before jlt true is =
    let k : j ≡ i = equal_at i j is in
    rw (get_or-set_at lines i j y d k lt, get_or-set_at wakes i j w 0 k (omega (arith, same, lt))) h
set_by P wakes lines n i w y same all lt h j d before jlt false is =
    let k : j ≢ i = other_at i j is in
    rw (get_or-set_other lines i j y d k, get_or-set_other wakes i j w 0 k) (all j d before jlt)

wake_by : (P : ℕ → UniverseLine → Type 0) (wakes : List ℕ) (lines : List UniverseLine) (n i w : ℕ) (x : UniverseLine) → length wakes ≡ length lines →
    ((j : ℕ) (d : UniverseLine) → j < n → j < length lines → P (get_or wakes j 0) (get_or lines j d)) → i < length lines → x ≡ get_or lines i x → P w x →
    (j : ℕ) (d : UniverseLine) → j < n → j < length lines → (b : Bool) → (i == j) ≡ b → P (get_or (slice_set wakes i w) j 0) (get_or lines j d)
wake_by P wakes lines n i w x same all lt here h j d before jlt true is =
    let k : j ≡ i = equal_at i j is in
    let same_line : x ≡ get_or lines i d = get_or_read lines i x lt here d in
    rw (get_or-set_at wakes i j w 0 k (omega (arith, same, lt)), k, ← same_line) h
wake_by P wakes lines n i w x same all lt here h j d before jlt false is =
    let k : j ≢ i = other_at i j is in
    rw (get_or-set_other wakes i j w 0 k) (all j d before jlt)

past_or_here : (i j from : ℕ) → j < (if from == i then i + 1 else from) → (i == j) ≡ false → j < from
past_or_here i j from lt other = elim (from == i) as (λ b. (from == i) ≡ b → j < (if b then i + 1 else from) → j < from) [
  | true ↦ λ e within. absurd_or e within
  | false ↦ λ e within. within
] refl lt where
  absurd_or : (from == i) ≡ true → j < i + 1 → j < from
  absurd_or e within = grind (arith, nat_tests, other)

quiet_set : (p : Lights) (t : ℕ) (wakes : List ℕ) (lines : List UniverseLine) (from i w : ℕ) (y : UniverseLine) → length wakes ≡ length lines → QuietBefore wakes p t lines from → i < length lines → IsQuiet p t w y →
    (j : ℕ) (d : UniverseLine) → j < passed_over i from → j < length lines → (b : Bool) → (i == j) ≡ b → IsQuiet p t (get_or (slice_set wakes i w) j 0) (get_or (slice_set lines i y) j d)
quiet_set p t wakes lines from i w y same quiet lt h j d before jlt true is =
    let k : j ≡ i = equal_at i j is in
    rw (get_or-set_at lines i j y d k lt, get_or-set_at wakes i j w 0 k (omega (arith, same, lt))) h
quiet_set p t wakes lines from i w y same quiet lt h j d before jlt false is = set_by (IsQuiet p t) wakes lines from i w y same quiet lt h j d (past_or_here i j from before is) jlt false is

-- a packet was sent on the line at place i
pub wakes_sent : (w : Waking) (p : Lights) (t : ℕ) (lines : List UniverseLine) (i wake least : ℕ) (y : UniverseLine) → WakesOk w p t lines → i < length lines → IsQuiet p t wake y × IsWake p t wake y → WakesOk (record { each = slice_set w.each i wake; least = least; from = passed_over i w.from }) p t (slice_set lines i y)
wakes_sent w p t lines i wake least y ok lt h = record {
  counted = length-set w.each i wake ∙ ok.counted ∙ sym (length-set lines i y);
  woken = λ j d jlt. set_by (IsWake p t) w.each lines (length lines) i wake y ok.counted (λ k e before klt. ok.woken k e klt) lt h.1 j d (rw (length-set lines i y) at jlt) (rw (length-set lines i y) at jlt) (i == j) refl;
  quiet = λ j d before jlt. quiet_set p t w.each lines w.from i wake y ok.counted ok.quiet lt h.0 j d before (rw (length-set lines i y) at jlt) (i == j) refl;
}

-- the line at place i has to be looked at
pub wakes_ordered : (w : Waking) (p : Lights) (t : ℕ) (lines : List UniverseLine) (i least : ℕ) (y : UniverseLine) → WakesOk w p t lines → i < length lines → WakesOk (record { each = slice_set w.each i 0; least = least; from = 0 }) p t (slice_set lines i y)
wakes_ordered w p t lines i least y ok lt = record {
  counted = length-set w.each i 0 ∙ ok.counted ∙ sym (length-set lines i y);
  woken = λ j d jlt. set_by (IsWake p t) w.each lines (length lines) i 0 y ok.counted (λ k e before klt. ok.woken k e klt) lt (λ s from early. absurd (omega (arith, early)), λ still early last. absurd (omega (arith, early))) j d (rw (length-set lines i y) at jlt) (rw (length-set lines i y) at jlt) (i == j) refl;
  quiet = λ j d before jlt. absurd (omega (arith, before));
}

-- the line at place i, which was looked at, has a new wake
pub wakes_looked : (w : Waking) (p : Lights) (t : ℕ) (lines : List UniverseLine) (i wake least : ℕ) (x : UniverseLine) → WakesOk w p t lines → i < length lines → x ≡ slice_index_or lines i x → IsQuiet p t wake x × IsWake p t wake x → WakesOk (record { each = slice_set w.each i wake; least = least; from = w.from }) p t lines
wakes_looked w p t lines i wake least x ok lt here h = record {
  counted = length-set w.each i wake ∙ ok.counted;
  woken = λ j d jlt. wake_by (IsWake p t) w.each lines (length lines) i wake x ok.counted (λ k e before klt. ok.woken k e klt) lt here h.1 j d jlt jlt (i == j) refl;
  quiet = λ j d before jlt. wake_by (IsQuiet p t) w.each lines w.from i wake x ok.counted ok.quiet lt here h.0 j d before jlt (i == j) refl;
}

same_or_before : (i j : ℕ) → j < i + 1 → (i == j) ≡ false → j < i
same_or_before i j lt other = grind (arith, nat_tests, other)

quiet_by : (p : Lights) (t : ℕ) (wakes : List ℕ) (lines : List UniverseLine) (i w : ℕ) (x : UniverseLine) → length wakes ≡ length lines → QuietBefore wakes p t lines i → i < length lines → x ≡ get_or lines i x → IsQuiet p t w x →
    (j : ℕ) (d : UniverseLine) → j < i + 1 → j < length lines → (b : Bool) → (i == j) ≡ b → IsQuiet p t (get_or (slice_set wakes i w) j 0) (get_or lines j d)
quiet_by p t wakes lines i w x same quiet lt here h j d before jlt true is =
    let k : j ≡ i = equal_at i j is in
    let same_line : x ≡ get_or lines i d = get_or_read lines i x lt here d in
    rw (get_or-set_at wakes i j w 0 k (omega (arith, same, lt)), k, ← same_line) h
quiet_by p t wakes lines i w x same quiet lt here h j d before jlt false is =
    let k : j ≢ i = other_at i j is in
    rw (get_or-set_other wakes i j w 0 k) (quiet j d (same_or_before i j before is) jlt)

pub quiet_looked : (w : Waking) (p : Lights) (t : ℕ) (lines : List UniverseLine) (i wake : ℕ) (x : UniverseLine) → WakesOk w p t lines → QuietBefore w.each p t lines i → i < length lines → x ≡ slice_index_or lines i x → IsQuiet p t wake x → QuietBefore (slice_set w.each i wake) p t lines (i + 1)
quiet_looked w p t lines i wake x ok quiet lt here h = λ j d before jlt. quiet_by p t w.each lines i wake x ok.counted quiet lt here h j d before jlt (i == j) refl

-- a line before whose wake a moment is isn't due
quiet_asleep : (w : Waking) (p : Lights) (t : ℕ) (lines : List UniverseLine) (i : ℕ) (d : UniverseLine) → WakesOk w p t lines → i < length lines → t < get_or w.each i 0 → IsQuiet p t (get_or w.each i 0) (get_or lines i d)
quiet_asleep w p t lines i d ok lt before = ((ok.woken i d lt).0 t (omega arith) before, omega (arith, before))

quiet_more_by : (w : Waking) (p : Lights) (t : ℕ) (lines : List UniverseLine) (i : ℕ) → WakesOk w p t lines → QuietBefore w.each p t lines i → i < length lines → t < get_or w.each i 0 →
    (j : ℕ) (d : UniverseLine) → j < i + 1 → j < length lines → (b : Bool) → (i == j) ≡ b → IsQuiet p t (get_or w.each j 0) (get_or lines j d)
quiet_more_by w p t lines i ok quiet lt before j d within jlt true is = rw (equal_at i j is) (quiet_asleep w p t lines i d ok lt before)
quiet_more_by w p t lines i ok quiet lt before j d within jlt false is = quiet j d (same_or_before i j within is) jlt

-- the line at place i sleeps
pub quiet_more : (w : Waking) (p : Lights) (t : ℕ) (lines : List UniverseLine) (i : ℕ) → WakesOk w p t lines → QuietBefore w.each p t lines i → i < length lines → t < get_or w.each i 0 → QuietBefore w.each p t lines (i + 1)
quiet_more w p t lines i ok quiet lt before = λ j d within jlt. quiet_more_by w p t lines i ok quiet lt before j d within jlt (i == j) refl

-- the search begins at a place before which all is quiet
pub wakes_from : (w : Waking) (p : Lights) (t : ℕ) (lines : List UniverseLine) (least i : ℕ) → WakesOk w p t lines → QuietBefore w.each p t lines i → WakesOk (record { each = w.each; least = least; from = i }) p t lines
wakes_from w p t lines least i ok quiet = record { counted = ok.counted; woken = ok.woken; quiet = quiet }

none_before : (P : List ℕ) (p : Lights) (t : ℕ) (lines : List UniverseLine) → QuietBefore P p t lines 0
none_before each p t lines = λ j d before jlt. absurd (omega (arith, before))

all_zero : (n j : ℕ) → ◌≡◌ {A = ℕ} (get_or {A = ℕ} (replicate n 0) j 0) 0
all_zero zero j = refl
all_zero (suc n) zero = refl
all_zero (suc n) (suc j) = all_zero n j

not_before : (s w : ℕ) → w ≡ 0 → s < w → ⊥
not_before s w e lt = absurd (omega (arith, e, lt))

-- every line is to be looked at
pub wakes_cleared : (w new : Waking) (p q : Lights) (t s : ℕ) (lines : List UniverseLine) → WakesOk w p t lines → new ≡ record { each = replicate (length w.each) 0; least = 0; from = 0 } → WakesOk new q s lines
wakes_cleared w new p q t s lines ok is = rw is (record {
  counted = length-replicate (length w.each) 0 ∙ ok.counted;
  woken = λ j d jlt. (
    λ r le lt. absurd (not_before r (get_or {A = ℕ} (replicate (length w.each) 0) j 0) (all_zero (length w.each) j) lt),
    λ still lt last. absurd (not_before s (get_or {A = ℕ} (replicate (length w.each) 0) j 0) (all_zero (length w.each) j) lt),
  );
  quiet = none_before (replicate (length w.each) 0) q s lines;
})

pub line_later : (p : Lights) (t s : ℕ) (l : UniverseLine) → t ≤ s → line_due (lights_at t p) s l ≡ line_due p s l
unfolding line_due
line_later p t s l le = ap (λ (f : List ℕ). has_passed MIN_GAP s l.last && asks s l.last f l.state) (frame_later p l.universe t s le)

-- the clock moves on, and the fades run or rest as before
pub wakes_later : (w : Waking) (p : Lights) (t now s from : ℕ) (lines : List UniverseLine) → WakesOk w p t lines → t ≤ s → now ≤ s → (is_still (lights_at now p).player ≡ true → is_still p.player ≡ true) →
    QuietBefore w.each (lights_at now p) s lines from → WakesOk (record { each = w.each; least = w.least; from = from }) (lights_at now p) s lines
wakes_later w p t now s from lines ok le le2 rests quiet = record {
  counted = ok.counted;
  woken = λ j d jlt. (
    λ r rle lt. line_later p now r (get_or lines j d) (omega (arith, rle, le2)) ∙ (ok.woken j d jlt).0 r (omega (arith, le, rle)) lt,
    λ still lt last. line_later p now (get_or w.each j 0) (get_or lines j d) (omega (arith, lt, le2)) ∙ (ok.woken j d jlt).1 (rests still) (omega (arith, le, lt)) last,
  );
  quiet = quiet;
}

-- at the same moment
pub quiet_stays : (w : Waking) (p : Lights) (t now s : ℕ) (lines : List UniverseLine) → WakesOk w p t lines → s ≡ t → now ≤ s → QuietBefore w.each (lights_at now p) s lines w.from
quiet_stays w p t now s lines ok e le = λ j d before jlt. rw e (
  line_later p now t (get_or lines j d) (omega (arith, e, le)) ∙ (ok.quiet j d before jlt).0,
  (ok.quiet j d before jlt).1,
)

pub quiet_none : (w : Waking) (p : Lights) (s : ℕ) (lines : List UniverseLine) → QuietBefore w.each p s lines 0
quiet_none w p s lines = none_before w.each p s lines

pub place_in : (v c : Core) (i : ℕ) → v ≡ c → i < length c.lines → i < length v.lines
place_in v c i e lt = rw e lt

-- ---- searches

find_first : {X : Type 0} (f : X → Bool) (xs : List X) (i : ℕ) (d : X) → ((j : ℕ) (e : X) → j < i → j < length xs → f (get_or xs j e) ≡ false) → i < length xs → f (get_or xs i d) ≡ true → find f xs ≡ Some (get_or xs i d)
find_first f [] i d quiet lt e = absurd (omega arith)
find_first f (x ∷ xs) zero d quiet lt e = rw e refl
find_first f (x ∷ xs) (suc i) d quiet lt e = rw (quiet 0 d (omega arith) (omega arith)) (find_first f xs i d (λ j a before within. quiet (suc j) a (omega (arith, before)) (omega (arith, within))) (omega (arith, lt)) e)

pub find_nothing : {X : Type 0} (f : X → Bool) (xs : List X) → ((j : ℕ) (e : X) → j < length xs → f (get_or xs j e) ≡ false) → find f xs ≡ None
find_nothing f [] quiet = refl
find_nothing f (x ∷ xs) quiet = rw (quiet 0 x (omega arith)) (find_nothing f xs (λ j a within. quiet (suc j) a (omega (arith, within))))

-- the first due line
pub first_found : (wakes : List ℕ) (p : Lights) (t : ℕ) (lines : List UniverseLine) (i : ℕ) (x : UniverseLine) (f : List ℕ) → QuietBefore wakes p t lines i → i < length lines → x ≡ slice_index_or lines i x → (line_due p t x ≡ true) × (f ≡ frame p x.universe t) →
    (d : UniverseLine) → (find (line_due p t) lines ≡ Some (slice_index_or lines i d)) × (f ≡ frame p (slice_index_or lines i d).universe t)
first_found wakes p t lines i x f quiet lt here h d =
    let same_line : x ≡ get_or lines i d = get_or_read lines i x lt here d in (
      find_first (line_due p t) lines i d (λ j e before within. (quiet j e before within).0) lt (rw same_line at h.0),
      rw same_line at h.1,
    )

-- no line is due
pub none_found : (wakes : List ℕ) (p : Lights) (t : ℕ) (lines : List UniverseLine) (n : ℕ) → QuietBefore wakes p t lines n → length lines ≤ n → find (line_due p t) lines ≡ None
none_found wakes p t lines n quiet le = find_nothing (line_due p t) lines (λ j e within. (quiet j e (omega (arith, le, within)) within).0)

pub all_ahead : (w : Waking) (p : Lights) (t : ℕ) (lines : List UniverseLine) (n : ℕ) → WakesOk w p t lines → QuietBefore w.each p t lines n → length lines ≤ n → IsLeast w.each (min (t + 1) last_moment)
all_ahead w p t lines n ok quiet le = λ j jlt. (quiet j no_line (omega (arith, le, jlt, ok.counted)) (omega (arith, jlt, ok.counted))).1

-- the same wakes and place, whatever the least is noted to be
pub wakes_as : (w new : Waking) (p : Lights) (t : ℕ) (lines : List UniverseLine) → WakesOk w p t lines → new.each ≡ w.each → new.from ≡ w.from → WakesOk new p t lines
wakes_as w new p t lines ok e f = record {
  counted = ap length e ∙ ok.counted;
  woken = rw e ok.woken;
  quiet = rw (e, f) ok.quiet;
}

pub ahead_as : (each new : List ℕ) (m : ℕ) → IsLeast each m → new ≡ each → IsLeast new m
ahead_as each new m h e = rw e h
