-- When a core has something due.
use Rattle.std.proofs.Common.{◌≡◌, ℕ, ◌+◌, ◌<◌, ◌≤◌, max, min, Bool, true, false, not, if◌then◌else◌, nat_le, List, [], ◌∷◌, length, get_or, slice_index_or, find, Option, Some, None, is_some, suc, zero, refl, arith, ap, sym, ◌∙◌}
use mathlib.Core.Bool.{beq}
use Rattle.std.proofs.lemmas.Bool.Decides.{nat_tests}
use Rattle.sacn_cues.specs.Playing.{is_still}
use Rattle.sacn_console.specs.Lights.{Lights}
use Rattle.sacn_console.specs.Lines.{Page, Paged, same, line_due}
use Rattle.std.specs.Option.{option_map}
use Rattle.sacn_console.specs.Core.{Core, at, line_found, page_due, due, due_by, no_line}
use Rattle.sacn_console.specs.Wakes.{IsLeast, Waking, WakesOk, last_moment}
use Rattle.sacn_console.specs.declared.line.UniverseLine.{UniverseLine}
use Rattle.sacn_console.proofs.Wakes.{is_le, is_above, ahead, both_ways}
use Rattle.sacn_console.proofs.WakeLists.{line_later, find_nothing}

-- ---- the core

-- before the least of its wakes no line of the core is due: v is what c is seen to be
pub none_due : (v c : Core) (w : Waking) (least : ℕ) → v ≡ c → WakesOk w v.lights v.moment v.lines → IsLeast w.each least → v.moment < least → line_found c ≡ None
unfolding line_found
none_due v c w least e ok below before = rw (← e) (find_nothing (line_due v.lights v.moment) v.lines (λ j d within.
    (ok.woken j d within).0 v.moment (omega arith) (omega (arith, before, below j (omega (arith, within, ok.counted))))))

pub here_at : {X : Type 0} (xs : List X) (i : ℕ) (d : X) → get_or xs i d ≡ get_or xs i (get_or xs i d)
here_at [] i d = refl
here_at (x ∷ xs) zero d = refl
here_at (x ∷ xs) (suc i) d = here_at xs i d

-- the line that is found at t, by the lights before the clock moved
found_at : (v : Core) (t : ℕ) → line_found (at t v) ≡ find (line_due v.lights (max v.moment t)) v.lines
unfolding line_found
found_at v t = ap (λ (f : UniverseLine → Bool). find f v.lines) (λ i l. line_later v.lights t (max v.moment t) l (omega arith) i)

greater : (m t : ℕ) → m < t → max m t ≡ t
greater m t lt = omega (arith, lt)

smaller : (m t : ℕ) → t ≤ m → max m t ≡ m
smaller m t le = omega (arith, le)

quiet_until_by : (v : Core) (w : Waking) (first t : ℕ) → WakesOk w v.lights v.moment v.lines → find (line_due v.lights v.moment) v.lines ≡ None → IsLeast w.each first → t < first → (b : Bool) → nat_le t v.moment ≡ b → find (line_due v.lights (max v.moment t)) v.lines ≡ None
quiet_until_by v w first t ok none below before true is = rw (smaller v.moment t (is_le t v.moment is)) none
quiet_until_by v w first t ok none below before false is =
    let later : v.moment < t = is_above t v.moment is in
    rw (greater v.moment t later) (find_nothing (line_due v.lights t) v.lines (λ j d within.
    (ok.woken j d within).0 t (omega (arith, later)) (omega (arith, before, below j (omega (arith, within, ok.counted))))))

-- before the first of its wakes no line of the core is due
pub quiet_until : (v c : Core) (p : Lights) (ls : List UniverseLine) (w : Waking) (first t : ℕ) → v ≡ c → p ≡ v.lights → ls ≡ v.lines → WakesOk w p v.moment ls → find (line_due p v.moment) ls ≡ None → IsLeast w.each first → t < first → line_found (at t c) ≡ None
quiet_until v c p ls w first t e pe le ok none below before =
    rw (← e) (found_at v t ∙ quiet_until_by v w first t (rw (pe, le) at ok) (rw (pe, le) at none) below before (nat_le t v.moment) refl)

some_or : {X : Type 0} (b : Bool) (x : X) (o : Option X) → is_some o ≡ true → is_some (if b then Some x else o) ≡ true
some_or true x o e = refl
some_or false x o e = e

find_some : {X : Type 0} (f : X → Bool) (xs : List X) (i : ℕ) (d : X) → i < length xs → f (get_or xs i d) ≡ true → is_some (find f xs) ≡ true
find_some f [] i d lt e = absurd (omega arith)
find_some f (x ∷ xs) zero d lt e = rw e refl
find_some f (x ∷ xs) (suc i) d lt e = some_or (f x) x (find f xs) (find_some f xs i d (omega (arith, lt)) e)

lies_later : (t last w : ℕ) → min (t + 1) last ≤ w → w < last → t < w
lies_later t last w le lt = omega (arith, le, lt)

-- at the first of its wakes a line of the core is due, while no fade runs
pub due_then : (v c : Core) (p : Lights) (ls : List UniverseLine) (w : Waking) (first : ℕ) → v ≡ c → p ≡ v.lights → ls ≡ v.lines → WakesOk w p v.moment ls → IsLeast w.each (min (v.moment + 1) last_moment) → is_still c.lights.player ≡ true → first < last_moment →
    (i : ℕ) × (i < length w.each) × (slice_index_or w.each i 0 ≡ first) → is_some (line_found (at first c)) ≡ true
due_then v c p ls w first e pe le ok ahead still lt (i, within, is) =
    let k : i < length v.lines = omega (arith, within, ok.counted, ap length le) in
    let ok2 : WakesOk w v.lights v.moment v.lines = rw (pe, le) at ok in
    let on : min (v.moment + 1) last_moment ≤ first = rw is at (ahead i within) in
    let later : v.moment < first = lies_later v.moment last_moment first on lt in
    let still2 : is_still v.lights.player ≡ true = rw e still in
    let timely = (ok2.woken i no_line k).1 in
    let due_there : line_due v.lights first (get_or v.lines i no_line) ≡ true = (rw is at timely) still2 later lt in
    rw (← e) (ap is_some (found_at v first) ∙ rw (greater v.moment first later) (find_some (line_due v.lights first) v.lines i no_line k due_there))

-- a line is due now
pub due_now : (v c : Core) (p : Lights) (ls : List UniverseLine) (x : UniverseLine) → v ≡ c → p ≡ v.lights → ls ≡ v.lines → find (line_due p v.moment) ls ≡ Some x → is_some (line_found (at 0 c)) ≡ true
due_now v c p ls x e pe le some = rw (← e) (ap is_some (found_at v 0) ∙ rw (smaller v.moment 0 (omega arith)) (ap is_some (rw (pe, le) at some)))

-- ---- datagrams

pub nothing_due : (c : Core) → line_found c ≡ None → page_due c ≡ None → due c ≡ None
unfolding due
nothing_due c e f = rw (e, f) refl

some_paged : (o : Option Page) → is_some o ≡ true → is_some (option_map Paged o) ≡ true
some_paged None e = absurd (cc)
some_paged (Some p) e = refl

line_or_page : (c : Core) (o : Option UniverseLine) → is_some o ≡ true → is_some (due_by c o) ≡ true
line_or_page c None e = absurd (cc)
line_or_page c (Some l) e = refl

page_or_line : (c : Core) (o : Option UniverseLine) → is_some (page_due c) ≡ true → is_some (due_by c o) ≡ true
page_or_line c None e = some_paged (page_due c) e
page_or_line c (Some l) e = refl

line_is_due : (c : Core) → is_some (line_found c) ≡ true → is_some (due c) ≡ true
unfolding due
line_is_due c e = line_or_page c (line_found c) e

page_is_due : (c : Core) → is_some (page_due c) ≡ true → is_some (due c) ≡ true
unfolding due
page_is_due c e = page_or_line c (line_found c) e

first_of : (a b : ℕ) → nat_le a b ≡ true → min a b ≡ a
first_of a b e = grind (arith, nat_tests)

second_of : (a b : ℕ) → nat_le a b ≡ false → min a b ≡ b
second_of a b e = grind (arith, nat_tests)

exact_by : (c : Core) (a b last : ℕ) → (a < last → is_some (line_found (at a c)) ≡ true) → (b < last → is_some (page_due (at b c)) ≡ true) → (t : Bool) → nat_le a b ≡ t → min a b < last → is_some (due (at (min a b) c)) ≡ true
exact_by c a b last ha hb true is lt = rw (first_of a b is) (line_is_due (at a c) (ha (rw (first_of a b is) at lt)))
exact_by c a b last ha hb false is lt = rw (second_of a b is) (page_is_due (at b c) (hb (rw (second_of a b is) at lt)))

-- the earlier of a line's and a page's moments
pub exact_first : (c : Core) (w a b last : ℕ) → w ≡ min a b → (a < last → is_some (line_found (at a c)) ≡ true) → (b < last → is_some (page_due (at b c)) ≡ true) → w < last → is_some (due (at w c)) ≡ true
exact_first c w a b last e ha hb lt = rw e (exact_by c a b last ha hb (nat_le a b) refl (rw e at lt))

-- whether the fades rest is as before
pub rests_as : (a b x y : Bool) → not (beq a b) ≡ false → a ≡ x → b ≡ y → x ≡ true → y ≡ true
rests_as true true x y same e f is = sym f
rests_as true false x y same e f is = absurd (cc)
rests_as false b x y same e f is = absurd (both_ways x is (sym e))

reaches_by : (each : List ℕ) (first m last : ℕ) → IsLeast each m → m ≤ last → (first < last → (i : ℕ) × (i < length each) × (slice_index_or each i 0 ≡ first)) → (b : Bool) → nat_le last first ≡ b → m ≤ first
reaches_by each first m last below le attained true is = omega (arith, le, is_le last first is)
reaches_by each first m last below le attained false is = one (attained (is_above last first is)) where
  one : (i : ℕ) × (i < length each) × (slice_index_or each i 0 ≡ first) → m ≤ first
  one (i, within, e) = rw e at (below i within)

no_further : (t last : ℕ) → min (t + 1) last ≤ last
no_further t last = omega arith

-- the first of the wakes lies ahead where all of them do: v is what c is seen to be
pub lies_ahead : (v c : Core) (w : Waking) (first : ℕ) → v ≡ c → IsLeast w.each (min (v.moment + 1) last_moment) → (first < last_moment → (i : ℕ) × (i < length w.each) × (slice_index_or w.each i 0 ≡ first)) → min (c.moment + 1) last_moment ≤ first
lies_ahead v c w first e below attained = rw (← e) (reaches_by w.each first (min (v.moment + 1) last_moment) last_moment below (no_further v.moment last_moment) attained (nat_le last_moment first) refl)
