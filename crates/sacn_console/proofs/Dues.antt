-- Which datagram is due, by cases.
use Rattle.std.proofs.Common.{◌≡◌, ℕ, ◌+◌, ◌-◌, ◌/◌, ◌<◌, ◌≤◌, true, false, ◌==◌, List, length, slice_index_or, find, Option, Some, None, MatchOption, is_some, min, max, suc, zero, refl, ap, arith, nat_lt, nat_le}
use Rattle.std.specs.Option.{option_map}
use Rattle.std.proofs.lemmas.Option.{same_Some}
use Rattle.sacn_console.specs.Lines.{Datagram, Page, Packet, Paged, line_due}
use Rattle.sacn_console.specs.Core.{Core, at, is_of, packet_at, line_at, no_line, line_found, page_due, standing, due, size, due_datagram, page_of_length}
use Rattle.sacn_console.specs.declared.console.DueDatagram.{DueDatagram}
use Rattle.sacn_console.specs.Lights.{Lights, frame}
use Rattle.sacn_discovery.specs.Pages.{page_count}
use Rattle.sacn_console.specs.Wakes.{last_moment}
use Rattle.sacn_console.specs.declared.limits.TheConstants.{DISCOVERY_INTERVAL}
use Rattle.sacn_console.specs.declared.line.UniverseLine.{UniverseLine}
use Rattle.sacn_console.specs.declared.line.Begun.{Begun}

counted : (n : ℕ) → 0 < n → 0 < (n + 511) / 512
counted n lt = omega arith

not_zero : (n : ℕ) → 0 < n → (n == 0) ≡ false
not_zero n lt = grind arith

pub page_counted : (n : ℕ) → 0 < page_count n
page_counted zero = counted 1 (omega arith)
page_counted (suc n) = rw (not_zero (suc n) (omega arith)) (counted (suc n) (omega arith))

-- where the program finds a due line: p is what the lights of v are at its moment, f the frame that it made
pub place_found : (v c : Core) (p : Lights) (ls : List UniverseLine) (f : List ℕ) (r : Option ℕ) → v ≡ c → p ≡ v.lights → ls ≡ v.lines →
    MatchOption r (find (line_due p v.moment) ls ≡ None) (λ i. (i < length ls) × ((d : UniverseLine) → (find (line_due p v.moment) ls ≡ Some (slice_index_or ls i d)) × (f ≡ frame p (slice_index_or ls i d).universe v.moment))) →
    MatchOption r (line_found c ≡ None) (λ i. (i < length c.lines) × (line_found c ≡ Some (line_at c i)) × (f ≡ frame c.lights (line_at c i).universe c.moment))
unfolding line_found
place_found v c p ls f None e pe le h = rw (← e, ← le, ← pe) h
place_found v c p ls f (Some i) e pe le h = rw (← e, ← le, ← pe) (h.0, (h.1 no_line).0, (h.1 no_line).1)

pub due_packet : (c : Core) (i : ℕ) → line_found c ≡ Some (line_at c i) → due c ≡ Some (Packet (packet_at c i))
unfolding due
due_packet c i e = rw e refl

pub due_page : (c : Core) → line_found c ≡ None → due c ≡ option_map Paged (page_due c)
unfolding due
due_page c e = rw e refl

pub page_first : (v c : Core) → v ≡ c → v.cycle ≡ None → page_due c ≡ Some (record { list = standing c.lines; page = 0 })
unfolding page_due
page_first v c e is = rw (← e, is) refl

lt_true : (a b : ℕ) → a < b → nat_lt a b ≡ true
lt_true a b h = grind arith

lt_false : (a b : ℕ) → b ≤ a → nat_lt a b ≡ false
lt_false a b h = grind arith

le_true : (a b : ℕ) → a ≤ b → nat_le a b ≡ true
le_true a b h = grind arith

le_false : (a b : ℕ) → b < a → nat_le a b ≡ false
le_false a b h = grind arith

pub page_next : (c : Core) (b : Begun) → c.cycle ≡ Some b → b.next < page_count (length c.listed) → page_due c ≡ Some (record { list = c.listed; page = b.next })
unfolding page_due
page_next c b is lt = rw (is, lt_true b.next (page_count (length c.listed)) lt) refl

pub page_waits : (c : Core) (b : Begun) → c.cycle ≡ Some b → page_count (length c.listed) ≤ b.next → c.moment - b.moment < DISCOVERY_INTERVAL → page_due c ≡ None
unfolding page_due
page_waits c b is le lt = rw (is, lt_false b.next (page_count (length c.listed)) le, le_false DISCOVERY_INTERVAL (c.moment - b.moment) lt) refl

pub page_again : (c : Core) (b : Begun) → c.cycle ≡ Some b → page_count (length c.listed) ≤ b.next → DISCOVERY_INTERVAL ≤ c.moment - b.moment → page_due c ≡ Some (record { list = standing c.lines; page = 0 })
unfolding page_due
page_again c b is le lt = rw (is, lt_false b.next (page_count (length c.listed)) le, le_true DISCOVERY_INTERVAL (c.moment - b.moment) lt) refl

-- the same, over what the program reads: v is what c is seen to be, len the length of its list, count the pages of that

pub page_still : (v c : Core) (b : Begun) (len count : ℕ) → v ≡ c → c.cycle ≡ Some b → len ≡ length v.listed → count ≡ page_count len → b.next < count → page_due c ≡ Some (record { list = c.listed; page = b.next })
page_still v c b len count e is le ce lt =
    let f : count ≡ page_count (length c.listed) = rw (← e, ← le) ce in
    page_next c b is (rw f at lt)

pub page_over : (v c : Core) (b : Begun) (len count : ℕ) → v ≡ c → c.cycle ≡ Some b → len ≡ length v.listed → count ≡ page_count len → count ≤ b.next → v.moment - b.moment < DISCOVERY_INTERVAL → page_due c ≡ None
page_over v c b len count e is le ce done lt =
    let f : count ≡ page_count (length c.listed) = rw (← e, ← le) ce in
    page_waits c b is (rw f at done) (rw e at lt)

pub page_more : (v c : Core) (b : Begun) (len count : ℕ) → v ≡ c → c.cycle ≡ Some b → len ≡ length v.listed → count ≡ page_count len → count ≤ b.next → DISCOVERY_INTERVAL ≤ v.moment - b.moment → page_due c ≡ Some (record { list = standing c.lines; page = 0 })
page_more v c b len count e is le ce done lt =
    let f : count ≡ page_count (length c.listed) = rw (← e, ← le) ce in
    page_again c b is (rw f at done) (rw e at lt)

pub universe_found : (v c : Core) (ls : List UniverseLine) (u : ℕ) (r : Option ℕ) → v ≡ c → ls ≡ v.lines →
    MatchOption r (find (is_of u) ls ≡ None) (λ i. (i < length ls) × ((d : UniverseLine) → (find (is_of u) ls ≡ Some (slice_index_or ls i d)) × ((slice_index_or ls i d).universe ≡ u))) →
    MatchOption r (find (is_of u) c.lines ≡ None) (λ i. (i < length c.lines) × (find (is_of u) c.lines ≡ Some (line_at c i)) × ((line_at c i).universe ≡ u))
universe_found v c ls u None e le h = rw (← e, ← le) h
universe_found v c ls u (Some i) e le h = rw (← e, ← le) (h.0, (h.1 no_line).0, (h.1 no_line).1)

-- ---- when a page comes

pub pages_begin : (v c : Core) (t : ℕ) → v ≡ c → v.cycle ≡ None → is_some (page_due (at t c)) ≡ true
unfolding page_due
pages_begin v c t e is = rw (← e, is) refl

pub pages_go_on : (v c : Core) (t : ℕ) (b : Begun) (len count : ℕ) → v ≡ c → v.cycle ≡ Some b → len ≡ length v.listed → count ≡ page_count len → b.next < count → is_some (page_due (at t c)) ≡ true
unfolding page_due
pages_go_on v c t b len count e is le ce lt =
    let f : count ≡ page_count (length v.listed) = rw (← le) ce in
    rw (← e, is, lt_true b.next (page_count (length v.listed)) (rw f at lt)) refl

over_at : (m t b : ℕ) → DISCOVERY_INTERVAL ≤ m - b → DISCOVERY_INTERVAL ≤ max m t - b
over_at m t b le = omega (arith, le)

waits_at : (m t b last : ℕ) → m - b < DISCOVERY_INTERVAL → t < min (b + DISCOVERY_INTERVAL) last → max m t - b < DISCOVERY_INTERVAL
waits_at m t b last lt before = omega (arith, lt, before)

comes_at : (m w b last : ℕ) → w ≡ min (b + DISCOVERY_INTERVAL) last → w < last → DISCOVERY_INTERVAL ≤ max m w - b
comes_at m w b last e lt = omega (arith, e, lt)

again_at : (v : Core) (t : ℕ) (b : Begun) → v.cycle ≡ Some b → page_count (length v.listed) ≤ b.next → DISCOVERY_INTERVAL ≤ max v.moment t - b.moment → is_some (page_due (at t v)) ≡ true
unfolding page_due
again_at v t b is done le = rw (is, lt_false b.next (page_count (length v.listed)) done, le_true DISCOVERY_INTERVAL (max v.moment t - b.moment) le) refl

pub pages_over : (v c : Core) (t : ℕ) (b : Begun) (len count : ℕ) → v ≡ c → v.cycle ≡ Some b → len ≡ length v.listed → count ≡ page_count len → count ≤ b.next → DISCOVERY_INTERVAL ≤ v.moment - b.moment → is_some (page_due (at t c)) ≡ true
pages_over v c t b len count e is le ce done lt =
    let f : count ≡ page_count (length v.listed) = rw (← le) ce in
    rw (← e) (again_at v t b is (rw f at done) (over_at v.moment t b.moment lt))

pub pages_again : (v c : Core) (w : ℕ) (b : Begun) (len count : ℕ) → v ≡ c → v.cycle ≡ Some b → len ≡ length v.listed → count ≡ page_count len → count ≤ b.next → w ≡ min (b.moment + DISCOVERY_INTERVAL) last_moment → w < last_moment → is_some (page_due (at w c)) ≡ true
pages_again v c w b len count e is le ce done we lt =
    let f : count ≡ page_count (length v.listed) = rw (← le) ce in
    rw (← e) (again_at v w b is (rw f at done) (comes_at v.moment w b.moment last_moment we lt))

rests_at : (v : Core) (t : ℕ) (b : Begun) → v.cycle ≡ Some b → page_count (length v.listed) ≤ b.next → max v.moment t - b.moment < DISCOVERY_INTERVAL → page_due (at t v) ≡ None
unfolding page_due
rests_at v t b is done lt = rw (is, lt_false b.next (page_count (length v.listed)) done, le_false DISCOVERY_INTERVAL (max v.moment t - b.moment) lt) refl

pub pages_rest : (v c : Core) (t w : ℕ) (b : Begun) (len count : ℕ) → v ≡ c → v.cycle ≡ Some b → len ≡ length v.listed → count ≡ page_count len → count ≤ b.next → v.moment - b.moment < DISCOVERY_INTERVAL → w ≡ min (b.moment + DISCOVERY_INTERVAL) last_moment → t < w → page_due (at t c) ≡ None
pages_rest v c t w b len count e is le ce done lt we before =
    let f : count ≡ page_count (length v.listed) = rw (← le) ce in
    rw (← e) (rests_at v t b is (rw f at done) (waits_at v.moment t b.moment last_moment lt (rw we at before)))

comes_later : (m b w last : ℕ) → m - b < DISCOVERY_INTERVAL → w ≡ min (b + DISCOVERY_INTERVAL) last → min (m + 1) last ≤ w
comes_later m b w last lt e = omega (arith, lt, e)

pub pages_ahead : (v c : Core) (w : ℕ) (b : Begun) → v ≡ c → v.moment - b.moment < DISCOVERY_INTERVAL → w ≡ min (b.moment + DISCOVERY_INTERVAL) last_moment → min (c.moment + 1) last_moment ≤ w
pages_ahead v c w b e lt we = rw (← e) (comes_later v.moment b.moment w last_moment lt we)

-- ---- what is said of a datagram

pub len_told : (o : Option Datagram) (t : DueDatagram) → Some t ≡ option_map due_datagram o → Some t.len ≡ option_map size o
len_told None t e = absurd (cc)
len_told (Some d) t e = ap (λ (s : DueDatagram). Some s.len) (same_Some t (due_datagram d) e)

pub none_told : (o : Option Datagram) → None ≡ option_map due_datagram o → None ≡ option_map size o
none_told None e = refl
none_told (Some d) e = absurd (cc)

pub page_told : (o : Option Page) → option_map page_of_length (option_map size (option_map Paged o)) ≡ option_map due_datagram (option_map Paged o)
page_told None = refl
page_told (Some p) = refl
