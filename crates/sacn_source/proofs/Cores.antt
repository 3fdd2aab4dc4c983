-- The core after a datagram.
use Rattle.std.proofs.Common.{◌≡◌, ℕ, ◌+◌, ◌-◌, ◌<◌, ◌≤◌, true, false, ◌==◌, nat_lt, nat_le, List, ◌++◌, length, drop, find, Option, Some, None, MatchOption, is_some, min, max, refl, arith, ap, sym, ◌∙◌}
use Rattle.std.specs.Option.{option_map}
use Rattle.std.proofs.lemmas.Bool.Decides.{nat_tests}
use Rattle.sacn_packets.specs.Universe.{Rising}
use Rattle.sacn_discovery.specs.Pages.{page_count}
use Rattle.sacn_console.specs.Lines.{Page, Packet, Paged}
use Rattle.sacn_console.specs.Core.{packet_text, packet_with, over, size, due_datagram, page_of_length}
use Rattle.sacn_console.specs.Wakes.{last_moment}
use Rattle.sacn_console.specs.declared.limits.TheConstants.{DISCOVERY_INTERVAL}
use Rattle.sacn_console.specs.declared.console.DueDatagram.{DueDatagram}
use Rattle.sacn_console.specs.declared.line.Begun.{Begun}
use Rattle.sacn_console.specs.declared.sender.Sender.{Sender}
use Rattle.sacn_source.specs.declared.source_universe.SourceUniverse.{SourceUniverse}
use Rattle.sacn_source.specs.Rows.{row_due, row_sent}
use Rattle.sacn_source.specs.Table.{Table, EndAll, RowOk, standing, row_at, changed, rows_after, answer}
use Rattle.sacn_source.specs.Source.{Source, SourceOk, packet_of, packet_at, row_found, page_due, due, at, sent, after_order}

-- ---- packets

pub packet_len : (sender : Sender) (r : SourceUniverse) → RowOk r → size (Packet (packet_of sender r)) ≡ 638
unfolding packet_of packet_with
packet_len sender r ok = ap (λ (n : ℕ). 126 + n) ok.levels

packet_universe : (sender : Sender) (r : SourceUniverse) → (packet_of sender r).universe ≡ r.line.universe
unfolding packet_of packet_with
packet_universe sender r = refl

pub packet_told : (sender : Sender) (r : SourceUniverse) (u len : ℕ) → RowOk r → u ≡ r.line.universe → len ≡ 638 → ◌≡◌ {A = DueDatagram} (record { len = len; universe = Some u }) (due_datagram (Packet (packet_of sender r)))
packet_told sender r u len ok ue l =
    let its : u ≡ (packet_of sender r).universe = ue ∙ sym (packet_universe sender r) in
    let long : len ≡ size (Packet (packet_of sender r)) = l ∙ sym (packet_len sender r ok) in
    λ j. record { len = long j; universe = Some (its j) }

pub packet_over : (sender : Sender) (r : SourceUniverse) (out new : List ℕ) → RowOk r → new ≡ packet_text (packet_of sender r) ++ drop 638 out → new ≡ over sender (Some (Packet (packet_of sender r))) out
packet_over sender r out new ok e = rw (packet_len sender r ok) e

pub core_given : (v c : Source) (i : ℕ) (table : Table) → v ≡ c → table ≡ changed i (row_sent v.moment) v.table → record v { table = table } ≡ sent c.moment (Packet (packet_at c i)) c
unfolding sent packet_of packet_with
core_given v c i table e is = rw (← e, is) refl

pub core_ended : (v c : Source) (table : Table) → v ≡ c → table ≡ record { room = v.table.room; rows = rows_after v.first v.sender.priority EndAll v.table.rows } → record v { table = table } ≡ after_order EndAll c
unfolding answer
core_ended v c table e is = rw (← e, is) refl

pub ok_given : (v : Source) (table : Table) → SourceOk v → SourceOk (record v { table = table })
ok_given v table ok = record { listed = ok.listed; priority = ok.priority; later = ok.later }

pub ok_moved : (v : Source) (m : ℕ) → SourceOk v → SourceOk (record v { moment = m })
ok_moved v m ok = record { listed = ok.listed; priority = ok.priority; later = ok.later }

-- ---- pages

first_later : (t : ℕ) (b : Begun) → Some (record { moment = t; next = 1 }) ≡ Some b → 0 < b.next
first_later t b e =
    let f : record { moment = t; next = 1 } ≡ b = cc in
    let g : 1 ≡ b.next = ap (λ (x : Begun). x.next) f in
    omega arith

next_later : (m n : ℕ) (b : Begun) → Some (record { moment = m; next = n + 1 }) ≡ Some b → 0 < b.next
next_later m n b e =
    let f : record { moment = m; next = n + 1 } ≡ b = cc in
    let g : n + 1 ≡ b.next = ap (λ (x : Begun). x.next) f in
    omega arith

pub core_first : (v c : Source) (listed : List ℕ) → v ≡ c → listed ≡ standing v.table.rows → record v { cycle = Some (record { moment = v.moment; next = 1 }); listed = listed } ≡ sent c.moment (Paged (record { list = standing c.table.rows; page = 0 })) c
unfolding sent
core_first v c listed e is = rw (← e, is) refl

pub ok_first : (v : Source) (listed : List ℕ) → SourceOk v → Rising (standing v.table.rows) → listed ≡ standing v.table.rows → SourceOk (record v { cycle = Some (record { moment = v.moment; next = 1 }); listed = listed })
ok_first v listed ok rising is = record { listed = rw is rising; priority = ok.priority; later = λ b e. first_later v.moment b e }

is_later : (n : ℕ) → 0 < n → (n == 0) ≡ false
is_later n lt = grind (arith, nat_tests)

pub core_next : (v c : Source) (b : Begun) → v ≡ c → SourceOk v → c.cycle ≡ Some b → record v { cycle = Some (record { moment = b.moment; next = b.next + 1 }) } ≡ sent c.moment (Paged (record { list = c.listed; page = b.next })) c
unfolding sent
core_next v c b e ok is =
    let is2 : v.cycle ≡ Some b = rw e is in
    rw (← e, is_later b.next (ok.later b is2), is2) refl

pub ok_next : (v : Source) (b : Begun) → SourceOk v → SourceOk (record v { cycle = Some (record { moment = b.moment; next = b.next + 1 }) })
ok_next v b ok = record { listed = ok.listed; priority = ok.priority; later = λ d e. next_later b.moment b.next d e }

-- ---- which datagram is due

pub due_packet : (c : Source) (i : ℕ) → row_found c ≡ Some (row_at c.table i) → due c ≡ Some (Packet (packet_at c i))
unfolding due
due_packet c i e = rw e refl

pub due_page : (c : Source) → row_found c ≡ None → due c ≡ option_map Paged (page_due c)
unfolding due
due_page c e = rw e refl

pub place_found : (v c : Source) (r : Option ℕ) → v ≡ c →
    MatchOption r (find (row_due v.moment) v.table.rows ≡ None) (λ i. (i < length v.table.rows) × (find (row_due v.moment) v.table.rows ≡ Some (row_at v.table i))) →
    MatchOption r (row_found c ≡ None) (λ i. (i < length c.table.rows) × (row_found c ≡ Some (row_at c.table i)))
unfolding row_found
place_found v c None e h = rw (← e) h
place_found v c (Some i) e h = rw (← e) h

lt_true : (a b : ℕ) → a < b → nat_lt a b ≡ true
lt_true a b h = grind (arith, nat_tests)

lt_false : (a b : ℕ) → b ≤ a → nat_lt a b ≡ false
lt_false a b h = grind (arith, nat_tests)

le_true : (a b : ℕ) → a ≤ b → nat_le a b ≡ true
le_true a b h = grind (arith, nat_tests)

le_false : (a b : ℕ) → b < a → nat_le a b ≡ false
le_false a b h = grind (arith, nat_tests)

pub page_first : (v c : Source) → v ≡ c → v.cycle ≡ None → page_due c ≡ Some (record { list = standing c.table.rows; page = 0 })
unfolding page_due
page_first v c e is = rw (← e, is) refl

page_next : (c : Source) (b : Begun) → c.cycle ≡ Some b → b.next < page_count (length c.listed) → page_due c ≡ Some (record { list = c.listed; page = b.next })
unfolding page_due
page_next c b is lt = rw (is, lt_true b.next (page_count (length c.listed)) lt) refl

page_waits : (c : Source) (b : Begun) → c.cycle ≡ Some b → page_count (length c.listed) ≤ b.next → c.moment - b.moment < DISCOVERY_INTERVAL → page_due c ≡ None
unfolding page_due
page_waits c b is le lt = rw (is, lt_false b.next (page_count (length c.listed)) le, le_false DISCOVERY_INTERVAL (c.moment - b.moment) lt) refl

page_again : (c : Source) (b : Begun) → c.cycle ≡ Some b → page_count (length c.listed) ≤ b.next → DISCOVERY_INTERVAL ≤ c.moment - b.moment → page_due c ≡ Some (record { list = standing c.table.rows; page = 0 })
unfolding page_due
page_again c b is le lt = rw (is, lt_false b.next (page_count (length c.listed)) le, le_true DISCOVERY_INTERVAL (c.moment - b.moment) lt) refl

-- the same, over what the program reads: v is what c is seen to be, len the length of its list, count the pages of that

pub page_still : (v c : Source) (b : Begun) (len count : ℕ) → v ≡ c → c.cycle ≡ Some b → len ≡ length v.listed → count ≡ page_count len → b.next < count → page_due c ≡ Some (record { list = c.listed; page = b.next })
page_still v c b len count e is le ce lt =
    let f : count ≡ page_count (length c.listed) = rw (← e, ← le) ce in
    page_next c b is (rw f at lt)

pub page_over : (v c : Source) (b : Begun) (len count : ℕ) → v ≡ c → c.cycle ≡ Some b → len ≡ length v.listed → count ≡ page_count len → count ≤ b.next → v.moment - b.moment < DISCOVERY_INTERVAL → page_due c ≡ None
page_over v c b len count e is le ce done lt =
    let f : count ≡ page_count (length c.listed) = rw (← e, ← le) ce in
    page_waits c b is (rw f at done) (rw e at lt)

pub page_more : (v c : Source) (b : Begun) (len count : ℕ) → v ≡ c → c.cycle ≡ Some b → len ≡ length v.listed → count ≡ page_count len → count ≤ b.next → DISCOVERY_INTERVAL ≤ v.moment - b.moment → page_due c ≡ Some (record { list = standing c.table.rows; page = 0 })
page_more v c b len count e is le ce done lt =
    let f : count ≡ page_count (length c.listed) = rw (← e, ← le) ce in
    page_again c b is (rw f at done) (rw e at lt)

pub page_told : (o : Option Page) → option_map page_of_length (option_map size (option_map Paged o)) ≡ option_map due_datagram (option_map Paged o)
page_told None = refl
page_told (Some p) = refl

-- ---- when a page comes

pub pages_begin : (v c : Source) (t : ℕ) → v ≡ c → v.cycle ≡ None → is_some (page_due (at t c)) ≡ true
unfolding page_due
pages_begin v c t e is = rw (← e, is) refl

pub pages_go_on : (v c : Source) (t : ℕ) (b : Begun) (len count : ℕ) → v ≡ c → v.cycle ≡ Some b → len ≡ length v.listed → count ≡ page_count len → b.next < count → is_some (page_due (at t c)) ≡ true
unfolding page_due
pages_go_on v c t b len count e is le ce lt =
    let f : count ≡ page_count (length v.listed) = rw (← le) ce in
    rw (← e, is, lt_true b.next (page_count (length v.listed)) (rw f at lt)) refl

over_at : (m t b : ℕ) → DISCOVERY_INTERVAL ≤ m - b → DISCOVERY_INTERVAL ≤ max m t - b
over_at m t b le = omega (arith, le)

waits_at : (m t b last : ℕ) → m - b < DISCOVERY_INTERVAL → t < min (b + DISCOVERY_INTERVAL) last → max m t - b < DISCOVERY_INTERVAL
waits_at m t b last lt before = omega (arith, lt, before)

comes_at : (m w b last : ℕ) → w ≡ min (b + DISCOVERY_INTERVAL) last → w < last → DISCOVERY_INTERVAL ≤ max m w - b
comes_at m w b last e lt = omega (arith, e, lt)

again_at : (v : Source) (t : ℕ) (b : Begun) → v.cycle ≡ Some b → page_count (length v.listed) ≤ b.next → DISCOVERY_INTERVAL ≤ max v.moment t - b.moment → is_some (page_due (at t v)) ≡ true
unfolding page_due
again_at v t b is done le = rw (is, lt_false b.next (page_count (length v.listed)) done, le_true DISCOVERY_INTERVAL (max v.moment t - b.moment) le) refl

pub pages_over : (v c : Source) (t : ℕ) (b : Begun) (len count : ℕ) → v ≡ c → v.cycle ≡ Some b → len ≡ length v.listed → count ≡ page_count len → count ≤ b.next → DISCOVERY_INTERVAL ≤ v.moment - b.moment → is_some (page_due (at t c)) ≡ true
pages_over v c t b len count e is le ce done lt =
    let f : count ≡ page_count (length v.listed) = rw (← le) ce in
    rw (← e) (again_at v t b is (rw f at done) (over_at v.moment t b.moment lt))

pub pages_again : (v c : Source) (w : ℕ) (b : Begun) (len count : ℕ) → v ≡ c → v.cycle ≡ Some b → len ≡ length v.listed → count ≡ page_count len → count ≤ b.next → w ≡ min (b.moment + DISCOVERY_INTERVAL) last_moment → w < last_moment → is_some (page_due (at w c)) ≡ true
pages_again v c w b len count e is le ce done we lt =
    let f : count ≡ page_count (length v.listed) = rw (← le) ce in
    rw (← e) (again_at v w b is (rw f at done) (comes_at v.moment w b.moment last_moment we lt))

rests_at : (v : Source) (t : ℕ) (b : Begun) → v.cycle ≡ Some b → page_count (length v.listed) ≤ b.next → max v.moment t - b.moment < DISCOVERY_INTERVAL → page_due (at t v) ≡ None
unfolding page_due
rests_at v t b is done lt = rw (is, lt_false b.next (page_count (length v.listed)) done, le_false DISCOVERY_INTERVAL (max v.moment t - b.moment) lt) refl

pub pages_rest : (v c : Source) (t w : ℕ) (b : Begun) (len count : ℕ) → v ≡ c → v.cycle ≡ Some b → len ≡ length v.listed → count ≡ page_count len → count ≤ b.next → v.moment - b.moment < DISCOVERY_INTERVAL → w ≡ min (b.moment + DISCOVERY_INTERVAL) last_moment → t < w → page_due (at t c) ≡ None
pages_rest v c t w b len count e is le ce done lt we before =
    let f : count ≡ page_count (length v.listed) = rw (← le) ce in
    rw (← e) (rests_at v t b is (rw f at done) (waits_at v.moment t b.moment last_moment lt (rw we at before)))

comes_later : (m b w last : ℕ) → m - b < DISCOVERY_INTERVAL → w ≡ min (b + DISCOVERY_INTERVAL) last → min (m + 1) last ≤ w
comes_later m b w last lt e = omega (arith, lt, e)

pub pages_ahead : (v c : Source) (w : ℕ) (b : Begun) → v ≡ c → v.moment - b.moment < DISCOVERY_INTERVAL → w ≡ min (b.moment + DISCOVERY_INTERVAL) last_moment → min (c.moment + 1) last_moment ≤ w
pages_ahead v c w b e lt we = rw (← e) (comes_later v.moment b.moment w last_moment lt we)
