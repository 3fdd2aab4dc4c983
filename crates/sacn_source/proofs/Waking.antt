-- When a source has something due.
use Rattle.std.proofs.Common.{◌≡◌, ℕ, ◌+◌, ◌-◌, ◌<◌, ◌≤◌, max, min, Bool, true, false, not, ◌&&◌, ◌||◌, if◌then◌else◌, nat_lt, nat_le, List, [], ◌∷◌, length, get_or, drop, find, Option, MatchOption, ◌==◌, Some, None, is_some, suc, zero, slice_set, ◌≢◌, refl, arith, ap, sym, ◌∙◌}
use Rattle.std.specs.Option.{option_map}
use Rattle.std.proofs.lemmas.Bool.Decides.{nat_tests}
use Rattle.std.proofs.lemmas.List.{length-map, get_or-map, length-set, get_or-set_same, get_or-set_other}
use Rattle.sacn_console.proofs.Plain.{same_number}
use Rattle.sacn_console.specs.declared.limits.TheConstants.{MIN_GAP, KEEP_ALIVE}
use Rattle.sacn_console.specs.Lines.{Page, Paged, same, has_passed, asks, line_sent}
use Rattle.sacn_console.specs.Wakes.{last_moment, when_passed, passed_over}
use Rattle.sacn_console.specs.declared.line.Begun.{Begun}
use Rattle.sacn_console.specs.declared.line.State.{State}
use Rattle.sacn_console.specs.declared.line.State.TheVariants.{Running, Ending, Stopped}
use Rattle.sacn_source.specs.declared.source_universe.SourceUniverse.{SourceUniverse}
use Rattle.sacn_source.specs.declared.looks.Looks.{Looks}
use Rattle.sacn_source.specs.Rows.{row_due, row_sent}
use Rattle.sacn_source.specs.Table.{Table, no_row, row_at, on, changed}
use Rattle.sacn_source.specs.Source.{Source, at, row_found, page_due, due, due_by}
use Rattle.sacn_source.specs.Wakes.{wake_by, row_wake, IsFirst, IsReached, QuietBefore, IsLooked}

le_true : (a b : ℕ) → a ≤ b → nat_le a b ≡ true
le_true a b h = grind (arith, nat_tests)

le_false : (a b : ℕ) → b < a → nat_le a b ≡ false
le_false a b h = grind (arith, nat_tests)

is_le : (a b : ℕ) → nat_le a b ≡ true → a ≤ b
is_le a b h = grind (arith, nat_tests)

is_above : (a b : ℕ) → nat_le a b ≡ false → b < a
is_above a b h = grind (arith, nat_tests)

reached : (wait last t m : ℕ) → min (m + wait) last ≤ t → min (m + wait) last < last → wait ≤ t - m
reached wait last t m le lt = omega (arith, le, lt)

not_reached : (wait last s m : ℕ) → 0 < wait → s < min (m + wait) last → s - m < wait
not_reached wait last s m some lt = omega (arith, some, lt)

passed_by : (wait t : ℕ) (last : Option ℕ) → when_passed wait last ≤ t → when_passed wait last < last_moment → has_passed wait t last ≡ true
passed_by wait t None le lt = refl
passed_by wait t (Some m) le lt = le_true wait (t - m) (reached wait last_moment t m le lt)

not_passed : (wait s : ℕ) (last : Option ℕ) → 0 < wait → s < when_passed wait last → has_passed wait s last ≡ false
not_passed wait s None some lt = absurd (omega (arith, lt))
not_passed wait s (Some m) some lt = le_false wait (s - m) (not_reached wait last_moment s m some lt)

longer_gap : (a b t m : ℕ) → a ≤ b → b ≤ t - m → a ≤ t - m
longer_gap a b t m le h = omega (arith, le, h)

gap_passed : (t : ℕ) (last : Option ℕ) → has_passed KEEP_ALIVE t last ≡ true → has_passed MIN_GAP t last ≡ true
gap_passed t None e = refl
gap_passed t (Some m) e = le_true MIN_GAP (t - m) (longer_gap MIN_GAP KEEP_ALIVE t m (omega arith) (is_le KEEP_ALIVE (t - m) e))

first_false : (a b : Bool) → a ≡ false → (a && b) ≡ false
first_false a b e = rw e refl

second_false : (a b : Bool) → b ≡ false → (a && b) ≡ false
second_false true b e = e
second_false false b e = refl

both_true : (a b : Bool) → a ≡ true → b ≡ true → (a && b) ≡ true
both_true a b e f = rw (e, f) refl

none_asks : (a b c : Bool) → (a || c) ≡ false → b ≡ false → (a || (b || c)) ≡ false
none_asks true b c e f = absurd (cc)
none_asks false b c e f = rw f e

one_asks : (a b c : Bool) → (a || c) ≡ true → (a || (b || c)) ≡ true
one_asks true b c e = refl
one_asks false true c e = refl
one_asks false false c e = e

alive_asks : (a b c : Bool) → b ≡ true → (a || (b || c)) ≡ true
alive_asks true b c e = refl
alive_asks false b c e = rw e refl

module _ (t : ℕ) (last : Option ℕ) (a c : Bool) where
  run_asleep : (x : Bool) → (a || c) ≡ x → t < (if x then when_passed MIN_GAP last else when_passed KEEP_ALIVE last) → (has_passed MIN_GAP t last && (a || (has_passed KEEP_ALIVE t last || c))) ≡ false
  run_asleep true e lt = first_false _ _ (not_passed MIN_GAP t last (omega arith) lt)
  run_asleep false e lt = second_false (has_passed MIN_GAP t last) _ (none_asks a (has_passed KEEP_ALIVE t last) c e (not_passed KEEP_ALIVE t last (omega arith) lt))

  run_due : (x : Bool) → (a || c) ≡ x → (if x then when_passed MIN_GAP last else when_passed KEEP_ALIVE last) ≤ t → (if x then when_passed MIN_GAP last else when_passed KEEP_ALIVE last) < last_moment → (has_passed MIN_GAP t last && (a || (has_passed KEEP_ALIVE t last || c))) ≡ true
  run_due true e le lt = both_true _ _ (passed_by MIN_GAP t last le lt) (one_asks a (has_passed KEEP_ALIVE t last) c e)
  run_due false e le lt =
      let alive : has_passed KEEP_ALIVE t last ≡ true = passed_by KEEP_ALIVE t last le lt in
      both_true _ _ (gap_passed t last alive) (alive_asks a (has_passed KEEP_ALIVE t last) c alive)

asleep_in : (t : ℕ) (f : List ℕ) (last : Option ℕ) (s : State) → t < wake_by f last s → (has_passed MIN_GAP t last && asks t last f s) ≡ false
asleep_in t f last (Running None) lt = first_false _ _ (not_passed MIN_GAP t last (omega arith) lt)
asleep_in t f last (Running (Some r)) lt = run_asleep t last (nat_lt 0 r.owed) (not (same r.frame f)) (nat_lt 0 r.owed || not (same r.frame f)) refl lt
asleep_in t f last (Ending n) lt = first_false _ _ (not_passed MIN_GAP t last (omega arith) lt)
asleep_in t f last Stopped lt = second_false (has_passed MIN_GAP t last) _ refl

due_in : (t : ℕ) (f : List ℕ) (last : Option ℕ) (s : State) → wake_by f last s ≤ t → wake_by f last s < last_moment → (has_passed MIN_GAP t last && asks t last f s) ≡ true
due_in t f last (Running None) le lt = both_true _ _ (passed_by MIN_GAP t last le lt) refl
due_in t f last (Running (Some r)) le lt = run_due t last (nat_lt 0 r.owed) (not (same r.frame f)) (nat_lt 0 r.owed || not (same r.frame f)) refl le lt
due_in t f last (Ending n) le lt = both_true _ _ (passed_by MIN_GAP t last le lt) refl
due_in t f last Stopped le lt = absurd (omega (arith, lt))

-- before its wake a row isn't due, from it on it is
pub asleep : (t : ℕ) (r : SourceUniverse) → t < row_wake r → row_due t r ≡ false
unfolding row_due row_wake
asleep t r lt = asleep_in t r.levels r.line.last r.line.state lt

pub timely : (t : ℕ) (r : SourceUniverse) → row_wake r ≤ t → row_wake r < last_moment → row_due t r ≡ true
unfolding row_due row_wake
timely t r le lt = due_in t r.levels r.line.last r.line.state le lt

-- ---- all rows

find_nothing : {X : Type 0} (f : X → Bool) (xs : List X) → ((j : ℕ) (e : X) → j < length xs → f (get_or xs j e) ≡ false) → find f xs ≡ None
find_nothing f [] quiet = refl
find_nothing f (x ∷ xs) quiet = rw (quiet 0 x (omega arith)) (find_nothing f xs (λ j a within. quiet (suc j) a (omega (arith, within))))

some_or : {X : Type 0} (b : Bool) (x : X) (o : Option X) → is_some o ≡ true → is_some (if b then Some x else o) ≡ true
some_or true x o e = refl
some_or false x o e = e

find_some : {X : Type 0} (f : X → Bool) (xs : List X) (i : ℕ) (d : X) → i < length xs → f (get_or xs i d) ≡ true → is_some (find f xs) ≡ true
find_some f [] i d lt e = absurd (omega arith)
find_some f (x ∷ xs) zero d lt e = rw e refl
find_some f (x ∷ xs) (suc i) d lt e = some_or (f x) x (find f xs) (find_some f xs i d (omega (arith, lt)) e)

not_some : {X : Type 0} (o : Option X) → o ≡ None → is_some o ≡ true → ⊥
not_some None e f = absurd (cc)
not_some (Some x) e f = absurd (cc)

greater : (m t : ℕ) → m < t → max m t ≡ t
greater m t lt = omega (arith, lt)

smaller : (m t : ℕ) → t ≤ m → max m t ≡ m
smaller m t le = omega (arith, le)

no_further : (t last first : ℕ) → last ≤ first → min (t + 1) last ≤ first
no_further t last first le = omega (arith, le)

next_first : (t last first : ℕ) → t < first → min (t + 1) last ≤ first
next_first t last first lt = omega (arith, lt)

module _ (rows : List SourceUniverse) (m first : ℕ) (none : find (row_due m) rows ≡ None) where
  quiet_by : (t : ℕ) → IsFirst rows first → t < first → (b : Bool) → nat_le t m ≡ b → find (row_due (max m t)) rows ≡ None
  quiet_by t below before true is = rw (smaller m t (is_le t m is)) none
  quiet_by t below before false is =
      rw (greater m t (is_above t m is)) (find_nothing (row_due t) rows (λ j d within. asleep t (get_or rows j d) (let le = below j d within in omega (arith, le, before))))

  -- a row that is due at a moment isn't due yet at the clock's
  later_by : (i : ℕ) → i < length rows → row_wake (get_or rows i no_row) ≡ first → first < last_moment → (b : Bool) → nat_le first m ≡ b → m < first
  later_by i within e lt true is =
      let now : row_due m (get_or rows i no_row) ≡ true = timely m (get_or rows i no_row) (rw e (is_le first m is)) (rw e lt) in
      absurd (not_some (find (row_due m) rows) none (find_some (row_due m) rows i no_row within now))
  later_by i within e lt false is = is_above first m is

  exact_by : IsReached rows first → first < last_moment → is_some (find (row_due (max m first)) rows) ≡ true
  exact_by reaches lt = one (reaches lt) where
    one : (i : ℕ) × (i < length rows) × ((d : SourceUniverse) → row_wake (get_or rows i d) ≡ first) → is_some (find (row_due (max m first)) rows) ≡ true
    one (i, within, e) =
        let later : m < first = later_by i within (e no_row) lt (nat_le first m) refl in
        rw (greater m first later) (find_some (row_due first) rows i no_row within (timely first (get_or rows i no_row) (rw (e no_row) (omega arith)) (rw (e no_row) lt)))

  ahead_by : IsReached rows first → (b : Bool) → nat_le last_moment first ≡ b → min (m + 1) last_moment ≤ first
  ahead_by reaches true is = no_further m last_moment first (is_le last_moment first is)
  ahead_by reaches false is = one (reaches (is_above last_moment first is)) where
    one : (i : ℕ) × (i < length rows) × ((d : SourceUniverse) → row_wake (get_or rows i d) ≡ first) → min (m + 1) last_moment ≤ first
    one (i, within, e) = next_first m last_moment first (later_by i within (e no_row) (is_above last_moment first is) (nat_le first m) refl)

-- ---- the core: v is what c is seen to be

pub rows_quiet : (v c : Source) (first t : ℕ) → v ≡ c → find (row_due v.moment) v.table.rows ≡ None → IsFirst v.table.rows first → t < first → row_found (at t c) ≡ None
unfolding row_found
rows_quiet v c first t e none below before = rw (← e) (quiet_by v.table.rows v.moment first none t below before (nat_le t v.moment) refl)

pub rows_exact : (v c : Source) (first : ℕ) → v ≡ c → find (row_due v.moment) v.table.rows ≡ None → IsReached v.table.rows first → first < last_moment → is_some (row_found (at first c)) ≡ true
unfolding row_found
rows_exact v c first e none reaches lt = rw (← e) (exact_by v.table.rows v.moment first none reaches lt)

pub rows_ahead : (v c : Source) (first : ℕ) → v ≡ c → find (row_due v.moment) v.table.rows ≡ None → IsReached v.table.rows first → min (c.moment + 1) last_moment ≤ first
rows_ahead v c first e none reaches = rw (← e) (ahead_by v.table.rows v.moment first none reaches (nat_le last_moment first) refl)

pub rows_now : (v c : Source) (r : SourceUniverse) → v ≡ c → find (row_due v.moment) v.table.rows ≡ Some r → is_some (row_found (at 0 c)) ≡ true
unfolding row_found
rows_now v c r e some = rw (← e) (rw (smaller v.moment 0 (omega arith)) (ap is_some some))

-- ---- datagrams

pub nothing_due : (c : Source) → row_found c ≡ None → page_due c ≡ None → due c ≡ None
unfolding due
nothing_due c e f = rw (e, f) refl

some_paged : (o : Option Page) → is_some o ≡ true → is_some (option_map Paged o) ≡ true
some_paged None e = absurd (cc)
some_paged (Some p) e = refl

row_or_page : (c : Source) (o : Option SourceUniverse) → is_some o ≡ true → is_some (due_by c o) ≡ true
row_or_page c None e = absurd (cc)
row_or_page c (Some r) e = refl

page_or_row : (c : Source) (o : Option SourceUniverse) → is_some (page_due c) ≡ true → is_some (due_by c o) ≡ true
page_or_row c None e = some_paged (page_due c) e
page_or_row c (Some r) e = refl

row_is_due : (c : Source) → is_some (row_found c) ≡ true → is_some (due c) ≡ true
unfolding due
row_is_due c e = row_or_page c (row_found c) e

page_is_due : (c : Source) → is_some (page_due c) ≡ true → is_some (due c) ≡ true
unfolding due
page_is_due c e = page_or_row c (row_found c) e

first_of : (a b : ℕ) → nat_le a b ≡ true → min a b ≡ a
first_of a b e = grind (arith, nat_tests)

second_of : (a b : ℕ) → nat_le a b ≡ false → min a b ≡ b
second_of a b e = grind (arith, nat_tests)

earlier_by : (c : Source) (a b last : ℕ) → (a < last → is_some (row_found (at a c)) ≡ true) → (b < last → is_some (page_due (at b c)) ≡ true) → (t : Bool) → nat_le a b ≡ t → min a b < last → is_some (due (at (min a b) c)) ≡ true
earlier_by c a b last ha hb true is lt = rw (first_of a b is) (row_is_due (at a c) (ha (rw (first_of a b is) at lt)))
earlier_by c a b last ha hb false is lt = rw (second_of a b is) (page_is_due (at b c) (hb (rw (second_of a b is) at lt)))

-- the earlier of a row's and a page's moments
pub exact_first : (c : Source) (w a b last : ℕ) → w ≡ min a b → (a < last → is_some (row_found (at a c)) ≡ true) → (b < last → is_some (page_due (at b c)) ≡ true) → w < last → is_some (due (at w c)) ≡ true
exact_first c w a b last e ha hb lt = rw e (earlier_by c a b last ha hb (nat_le a b) refl (rw e at lt))

-- ---- what spares looking

-- every row is looked at
pub looked_anew : (l : Looks) (c : Source) → l ≡ record { least = 0; is_exact = false; from = 0 } → IsLooked l c
looked_anew l c e = rw e (record { first = λ i d within. omega arith; exact = λ is. absurd (cc); quiet = λ i d before within. absurd (omega (arith, before)) })

looked_by : (m now from i : ℕ) (b : Bool) → nat_lt m now ≡ b → i < (if b then 0 else from) → (i < from) × (max m now ≡ m)
looked_by m now from i true is before = absurd (omega (arith, before))
looked_by m now from i false is before = (before, grind (arith, nat_tests, is))

-- the clock moves
pub looked_moved : (l new : Looks) (v : Source) (now m : ℕ) → IsLooked l v → new ≡ record { least = l.least; is_exact = l.is_exact; from = if nat_lt v.moment now then 0 else l.from } → m ≡ max v.moment now → IsLooked new (record v { moment = m })
looked_moved l new v now m ok e is = rw (e, is) (record {
  first = ok.first;
  exact = ok.exact;
  quiet = λ i d before within.
      let here = looked_by v.moment now l.from i (nat_lt v.moment now) refl before in
      ap (λ (t : ℕ). row_due t (get_or v.table.rows i d)) here.1 ∙ ok.quiet i d here.0 within;
})

-- a page was given
pub looked_kept : (l : Looks) (v : Source) (cycle : Option Begun) (listed : List ℕ) → IsLooked l v → IsLooked l (record v { cycle = cycle; listed = listed })
looked_kept l v cycle listed ok = record { first = ok.first; exact = ok.exact; quiet = ok.quiet }

-- none was found due
pub looked_none : (l : Looks) (v : Source) (least : ℕ) → IsLooked l v → IsFirst v.table.rows least → IsReached v.table.rows least → IsLooked (record l { least = least; is_exact = true }) v
looked_none l v least ok first reached = record { first = first; exact = λ is. reached; quiet = ok.quiet }

gap_begins : (t : ℕ) → nat_le MIN_GAP (t - t) ≡ false
gap_begins t = le_false MIN_GAP (t - t) (omega arith)

sent_quiet : (t : ℕ) (r : SourceUniverse) → row_due t (row_sent t r) ≡ false
unfolding row_due row_sent line_sent
sent_quiet t r = first_false _ _ (gap_begins t)

on_quiet : (t : ℕ) (r : SourceUniverse) (b : Bool) → (b ≡ false → row_due t r ≡ false) → row_due t (if b then row_sent t r else r) ≡ false
on_quiet t r true h = sent_quiet t r
on_quiet t r false h = h refl

-- the place where a packet was sent is passed over
passed_by_place : (place from i : ℕ) (b : Bool) → (from == place) ≡ b → i < (if b then place + 1 else from) → (i == place) ≡ false → i < from
passed_by_place place from i true is before other = grind (arith, nat_tests, is, before, other)
passed_by_place place from i false is before other = before

sent_by : (rows : List SourceUniverse) (t place from i : ℕ) (d : SourceUniverse) → QuietBefore rows t from → i < length rows → i < passed_over place from → (b : Bool) → (i == place) ≡ b →
    row_due t (on (get_or rows place no_row).line.universe (row_sent t) (get_or rows i no_row)) ≡ false
sent_by rows t place from i d quiet within before true is =
    let here : i ≡ place = same_number i place is in
    on_quiet t (get_or rows i no_row) ((get_or rows i no_row).line.universe == (get_or rows place no_row).line.universe) (λ differs. absurd (itself (get_or rows i no_row).line.universe (get_or rows place no_row).line.universe (ap (λ (k : ℕ). (get_or rows k no_row).line.universe) here) differs)) where
      itself : (a b : ℕ) → a ≡ b → (a == b) ≡ false → ⊥
      itself a b e f = absurd (grind (arith, nat_tests))
sent_by rows t place from i d quiet within before false is =
    on_quiet t (get_or rows i no_row) ((get_or rows i no_row).line.universe == (get_or rows place no_row).line.universe)
    (λ differs. quiet i no_row (passed_by_place place from i (from == place) refl before is) within)

-- a packet was sent
pub looked_sent : (l new : Looks) (v : Source) (place : ℕ) (table : Table) → IsLooked l v → new.least ≡ 0 → new.is_exact ≡ false → new.from ≤ passed_over place l.from → table ≡ changed place (row_sent v.moment) v.table → IsLooked new (record v { table = table })
looked_sent l new v place table ok least loose from e = rw e (record {
  first = λ i d within. rw least (omega arith);
  exact = λ is. let bad : false ≡ true = sym loose ∙ is in absurd (cc);
  quiet = λ i d before within.
      let there : i < length v.table.rows = rw length-map at within in
      ap (row_due v.moment) (get_or-map (on (row_at v.table place).line.universe (row_sent v.moment)) v.table.rows i no_row d there)
      ∙ sent_by v.table.rows v.moment place l.from i no_row ok.quiet there (let f = from in omega (arith, before, f)) (i == place) refl;
})

quiet_dropped : (f : SourceUniverse → Bool) (rows : List SourceUniverse) (from : ℕ) → ((i : ℕ) (d : SourceUniverse) → i < from → i < length rows → f (get_or rows i d) ≡ false) → find f (drop from rows) ≡ find f rows
quiet_dropped f rows zero quiet = refl
quiet_dropped f [] (suc from) quiet = refl
quiet_dropped f (r ∷ rs) (suc from) quiet =
    rw (quiet 0 r (omega arith) (omega arith)) (quiet_dropped f rs from (λ i d before within. quiet (suc i) d (omega (arith, before)) (omega (arith, within))))

-- what is found from the place on
pub place_from : (v c : Source) (l : Looks) (r : Option ℕ) → v ≡ c → IsLooked l v →
    MatchOption r (find (row_due v.moment) (drop l.from v.table.rows) ≡ None) (λ i. (i < length v.table.rows) × (find (row_due v.moment) (drop l.from v.table.rows) ≡ Some (row_at v.table i))) →
    MatchOption r (row_found c ≡ None) (λ i. (i < length c.table.rows) × (row_found c ≡ Some (row_at c.table i)))
unfolding row_found
place_from v c l None e ok h = rw (← e) (sym (quiet_dropped (row_due v.moment) v.table.rows l.from ok.quiet) ∙ h)
place_from v c l (Some i) e ok h = rw (← e) (h.0, sym (quiet_dropped (row_due v.moment) v.table.rows l.from ok.quiet) ∙ h.1)

is_lt : (a b : ℕ) → nat_lt a b ≡ true → a < b
is_lt a b h = grind (arith, nat_tests)

-- before the least moment none is due
pub none_before : (v c : Source) (l : Looks) (b : Bool) → v ≡ c → IsLooked l v → b ≡ nat_lt v.moment l.least → b ≡ true → row_found c ≡ None
unfolding row_found
none_before v c l b e ok tells h =
    let before : v.moment < l.least = is_lt v.moment l.least (sym tells ∙ h) in
    rw (← e) (find_nothing (row_due v.moment) v.table.rows (λ j d within. asleep v.moment (get_or v.table.rows j d) (let le = ok.first j d within in omega (arith, le, before))))

-- what is found from the place on is the first of all
pub none_from : (v : Source) (l : Looks) → IsLooked l v → find (row_due v.moment) (drop l.from v.table.rows) ≡ None → find (row_due v.moment) v.table.rows ≡ None
none_from v l ok h = sym (quiet_dropped (row_due v.moment) v.table.rows l.from ok.quiet) ∙ h

pub some_from : (v : Source) (l : Looks) (r : SourceUniverse) → IsLooked l v → find (row_due v.moment) (drop l.from v.table.rows) ≡ Some r → find (row_due v.moment) v.table.rows ≡ Some r
some_from v l r ok h = sym (quiet_dropped (row_due v.moment) v.table.rows l.from ok.quiet) ∙ h

-- ---- other levels of the universe at a place: its row is written, and no other one changes

differs : (i place : ℕ) → (i == place) ≡ false → i ≢ place
differs i place h e = absurd (grind (arith, nat_tests, h, e))

lower : (a b : ℕ) → min a b ≤ b
lower a b = omega arith

lower_first : (a b : ℕ) → min a b ≤ a
lower_first a b = omega arith

at_or_other : (P : SourceUniverse → Type 0) (rows : List SourceUniverse) (place i : ℕ) (x d : SourceUniverse) → i < length rows → P x → ((i == place) ≡ false → P (get_or rows i d)) → (b : Bool) → (i == place) ≡ b → P (get_or (slice_set rows place x) i d)
at_or_other P rows place i x d within here there true is =
    let same : place ≡ i = sym (same_number i place is) in
    rw (same, get_or-set_same rows i x d within) here
at_or_other P rows place i x d within here there false is = rw (get_or-set_other rows place i x d (differs i place is)) (there is)

before_both : (i from place : ℕ) → i < min from place → (i < from) × ((i == place) ≡ false)
before_both i from place h = (omega (arith, h), grind (arith, nat_tests, h))

pub looked_stirred : (l new : Looks) (v : Source) (place wake : ℕ) (table : Table) (x : SourceUniverse) → IsLooked l v → place < length v.table.rows → table ≡ record { room = v.table.room; rows = slice_set v.table.rows place x } → wake ≡ row_wake x →
    new ≡ record { least = min l.least wake; is_exact = nat_le wake l.least; from = min l.from place } → IsLooked new (record v { table = table })
looked_stirred l new v place wake table x ok there set next e = rw (e, set) (record {
  first = λ i d within.
      let inside : i < length v.table.rows = rw length-set at within in
      at_or_other (λ r. min l.least wake ≤ row_wake r) v.table.rows place i x d inside (rw (← next) (lower l.least wake)) (λ other. let le = ok.first i d inside in (let low = lower_first l.least wake in omega (arith, le, low))) (i == place) refl;
  exact = λ is before. (place, rw (length-set v.table.rows place x) there, λ d. rw (get_or-set_same v.table.rows place x d there, ← next) (least_is l.least wake is));
  quiet = λ i d before within.
      let inside : i < length v.table.rows = rw length-set at within in
      let both = before_both i l.from place before in
      rw (get_or-set_other v.table.rows place i x d (differs i place both.1)) (ok.quiet i d both.0 inside);
})
  where
    least_is : (a b : ℕ) → nat_le b a ≡ true → b ≡ min a b
    least_is a b h = grind (arith, nat_tests, h)

-- a call was refused
pub looked_same : (l : Looks) (v : Source) (table : Table) → IsLooked l v → table ≡ v.table → IsLooked l (record v { table = table })
looked_same l v table ok e = rw e ok

pub found_none : (c : Source) → row_found c ≡ None → find (row_due c.moment) c.table.rows ≡ None
unfolding row_found
found_none c e = e

pub written_at : (t table : Table) (place : ℕ) (x : SourceUniverse) → place < length t.rows → table ≡ record { room = t.room; rows = slice_set t.rows place x } → row_at table place ≡ x
written_at t table place x there e = rw e (get_or-set_same t.rows place x no_row there)
