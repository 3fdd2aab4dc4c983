-- A source keeps what is asked of the list of deeds, and its steps keep it so.
use Rattle.std.proofs.Common.{◌≡◌, ℕ, ◌+◌, ◌-◌, ◌<◌, max, min, Bool, true, false, ◌&&◌, ◌==◌, cond, nat_lt, nat_le, if◌then◌else◌, List, [], ◌∷◌, length, map, find, Option, Some, None, Result, Ok, Err, refl, arith, ap, sym, ◌∙◌}
use Rattle.std.specs.Option.{option_map}
use Rattle.std.specs.List.{AllByRecursion}
use Rattle.std.proofs.lemmas.List.{length-map}
use Rattle.std.proofs.lemmas.Bool.Decides.{nat_tests}
use Rattle.sacn_packets.specs.Data.{Data}
use Rattle.sacn_packets.specs.Universe.{Rising}
use Rattle.sacn_discovery.specs.Pages.{page_count}
use Rattle.sacn_console.specs.declared.limits.TheConstants.{CONSOLE_UNIVERSES, TERMINATIONS, DISCOVERY_INTERVAL}
use Rattle.sacn_console.specs.declared.line.Begun.{Begun}
use Rattle.sacn_console.specs.declared.line.State.TheVariants.{Ending, Stopped}
use Rattle.sacn_console.specs.Lines.{Page, Datagram, Packet, Paged}
use Rattle.sacn_console.specs.Core.{page_by}
use Rattle.sacn_console.specs.Due.{Sent, Ends, Stops, terminations, mode_by}
use Rattle.sacn_console.specs.Runs.{state_by}
use Rattle.sacn_console.proofs.Plain.{same_number, some_same, option_paged}
use Rattle.sacn_source.specs.declared.source_universe.SourceUniverse.{SourceUniverse}
use Rattle.sacn_source.specs.declared.fault.SourceFault.{SourceFault}
use Rattle.sacn_source.specs.declared.fault.SourceFault.TheVariants as fault
use Rattle.sacn_source.specs.Rows.{row_in, row_ended, row_showing, row_prior, slots_of, dark, end_answer, add_answer}
use Rattle.sacn_source.specs.Table.{Table, Order, Add, SetLevels, SetPriority, End, EndAll, is_of, on, rows_after, for_row, add_by, unless, answer, taken}
use Rattle.sacn_source.specs.Source.{Source, due, sent, at, given, after_poll, after_order, new_source}
use Rattle.sacn_source.specs.Calls.{Deed, Accepted, Gave, Life, packets, levels_by, priority_by, is_ended, packets_since, mode, universe_due, packet_by, with_number, universes, standing_by, list_by, cycle_by, due_with, due_by_list, end_in, add_in, if_there, add_or, room_in, known, answer_by_list, row_by, source_by, Call, Ask, Poll, Asked, Polled, answers, with_order, with_datagram, answers_by_list, StepsAreTheList}
use Rattle.sacn_source.proofs.Steps.{is_lt, is_above, due_same, IsProper, source_with, source_gave, level_row, prior_row, end_row, all_row, rows_by, IsFresh, rows_with}

-- ---- what holds of each list of deeds

record Known (life : Life) (ds : List Deed) : Type 0 where
  rising : Rising (universes ds)
  fresh : (u : ℕ) → known u ds ≡ None → IsFresh life u ds

abbrev put : ℕ → ℕ → List ℕ → List ℕ → Bool → Bool → List ℕ
put u v vs rest b c = if b then v ∷ vs else (if c then u ∷ v ∷ vs else v ∷ rest)

above_all : (a b : ℕ) (xs : List ℕ) → a < b → AllByRecursion (λ y. b < y) xs → AllByRecursion (λ y. a < y) xs
above_all a b [] lt all = tt
above_all a b (x ∷ xs) lt all = (let h = all.0 in omega (arith, lt, h), above_all a b xs lt all.1)

above_by : (x u v : ℕ) (vs rest : List ℕ) (b c : Bool) → x < u → AllByRecursion (λ y. x < y) (v ∷ vs) → AllByRecursion (λ y. x < y) rest → AllByRecursion (λ y. x < y) (put u v vs rest b c)
above_by x u v vs rest true c lt all more = all
above_by x u v vs rest false true lt all more = (lt, all)
above_by x u v vs rest false false lt all more = (all.0, more)

above_with : (x u : ℕ) (us : List ℕ) → x < u → AllByRecursion (λ y. x < y) us → AllByRecursion (λ y. x < y) (with_number u us)
above_with x u [] lt all = (lt, tt)
above_with x u (v ∷ vs) lt all = above_by x u v vs (with_number u vs) (u == v) (nat_lt u v) lt all (above_with x u vs lt all.1)

rising_by : (u v : ℕ) (vs rest : List ℕ) (b c : Bool) → (u == v) ≡ b → nat_lt u v ≡ c → Rising (v ∷ vs) → Rising rest → (v < u → AllByRecursion (λ y. v < y) rest) → Rising (put u v vs rest b c)
rising_by u v vs rest true c e f rising more above = rising
rising_by u v vs rest false true e f rising more above = ((is_lt u v f, above_all u v vs (is_lt u v f) rising.0), rising)
rising_by u v vs rest false false e f rising more above = (above (is_above u v e f), more)

rising_with : (u : ℕ) (us : List ℕ) → Rising us → Rising (with_number u us)
rising_with u [] rising = (tt, tt)
rising_with u (v ∷ vs) rising = rising_by u v vs (with_number u vs) (u == v) (nat_lt u v) refl refl rising (rising_with u vs rising.1) (λ lt. above_with v u vs lt rising.0)

passed_over : (b : Bool) (x : ℕ) (o : Option ℕ) → (if b then Some x else o) ≡ None → o ≡ None
passed_over true x o e = absurd (cc)
passed_over false x o e = e

none_by : (b : Bool) (x : ℕ) (o p : Option ℕ) → (if b then Some x else o) ≡ None → (o ≡ None → p ≡ None) → (if b then Some x else p) ≡ None
none_by true x o p e h = absurd (cc)
none_by false x o p e h = h e

less_by : (u w v : ℕ) (vs rest : List ℕ) (b c : Bool) → find (λ x. x == u) (put w v vs rest b c) ≡ None → (find (λ x. x == u) rest ≡ None → find (λ x. x == u) vs ≡ None) → find (λ x. x == u) (v ∷ vs) ≡ None
less_by u w v vs rest true c e h = e
less_by u w v vs rest false true e h = passed_over (w == u) w (find (λ x. x == u) (v ∷ vs)) e
less_by u w v vs rest false false e h = none_by (v == u) v (find (λ x. x == u) rest) (find (λ x. x == u) vs) e h

-- what isn't among more isn't among fewer
less_known : (u w : ℕ) (us : List ℕ) → find (λ x. x == u) (with_number w us) ≡ None → find (λ x. x == u) us ≡ None
less_known u w [] e = refl
less_known u w (v ∷ vs) e = less_by u w v vs (with_number w vs) (w == v) (nat_lt w v) e (less_known u w vs)

refused : (o : Option ℕ) (r : Result (Unit {0}) SourceFault) (x : Unit {0}) → o ≡ None → Ok x ≡ if_there o r → ⊥
refused None r x is e = absurd (cc)
refused (Some u) r x is e = absurd (cc)

pick : {X : Type 0} (b : Bool) (x y z : X) → b ≡ false → y ≡ z → (if b then x else y) ≡ z
pick true x y z e h = absurd (cc)
pick false x y z e h = h

-- an accepted order on a universe speaks of no unknown one
other_known : (u v : ℕ) (ds : List Deed) (r : Result (Unit {0}) SourceFault) (x : Unit {0}) → Ok x ≡ if_there (known v ds) r → known u ds ≡ None → (b : Bool) → (u == v) ≡ b → b ≡ false
other_known u v ds r x e none true is = absurd (refused (known v ds) r x (rw (sym (same_number u v is)) none) e)
other_known u v ds r x e none false is = refl

known_after : (life : Life) (o : Order) (ds : List Deed) (x : Unit {0}) → Ok x ≡ answer_by_list life o ds → Known life ds → Known life (Accepted o ∷ ds)
unfolding answer_by_list
known_after life (Add v) ds x e k = record { rising = rising_with v (universes ds) k.rising; fresh = λ u none. k.fresh u (less_known u v (universes ds) none) }
known_after life (SetLevels v levels) ds x e k = record {
  rising = k.rising;
  fresh = λ u none.
      let h = k.fresh u none in
      let other : (u == v) ≡ false = other_known u v ds _ x e none (u == v) refl in
      (h.0, pick (u == v) (slots_of levels) (levels_by u ds) dark other h.1, h.2);
}
known_after life (SetPriority v p) ds x e k = record {
  rising = k.rising;
  fresh = λ u none.
      let h = k.fresh u none in
      let other : (u == v) ≡ false = other_known u v ds _ x e none (u == v) refl in
      (h.0, h.1, pick (u == v) p (priority_by life u ds) life.sender.priority other h.2);
}
known_after life (End v) ds x e k = record { rising = k.rising; fresh = k.fresh }
known_after life EndAll ds x e k = record { rising = k.rising; fresh = k.fresh }

known_order : (life : Life) (o : Order) (ds : List Deed) (r : Result (Unit {0}) SourceFault) → r ≡ answer_by_list life o ds → Known life ds → Known life (with_order o r ds)
known_order life o ds (Ok x) e k = known_after life o ds x e k
known_order life o ds (Err x) e k = k

sent_known : (u t : ℕ) (d : Data) (ds : List Deed) → (known d.universe ds ≡ None → ⊥) → known u ds ≡ None → (b : Bool) → (u == d.universe) ≡ b → packets u ds ≡ [] → (if b then record { moment = t; data_sent = d } ∷ packets u ds else packets u ds) ≡ []
sent_known u t d ds there none true is e = absurd (there (rw (sym (same_number u d.universe is)) none))
sent_known u t d ds there none false is e = e

known_gave : (life : Life) (t : ℕ) (g : Datagram) (ds : List Deed) → IsProper life ds g → Known life ds → Known life (Gave t g ∷ ds)
known_gave life t (Packet d) ds h k = record {
  rising = k.rising;
  fresh = λ u none. let f = k.fresh u none in (sent_known u t d ds h.2 none (u == d.universe) refl f.0, f.1, f.2);
}
known_gave life t (Paged p) ds h k = record { rising = k.rising; fresh = k.fresh }

-- ---- what is due is proper

one_later : (t : ℕ) (b : Begun) → record { moment = t; next = 1 } ≡ b → 0 < b.next
one_later t b e = let f : 1 ≡ b.next = ap (λ (x : Begun). x.next) e in omega arith

more_later : (m n : ℕ) (b : Begun) → record { moment = m; next = n + 1 } ≡ b → 0 < b.next
more_later m n b e = let f : n + 1 ≡ b.next = ap (λ (x : Begun). x.next) e in omega arith

paged_later : (t : ℕ) (p : Page) (z : Bool) (o : Option Begun) (b : Begun) →
    (if z then Some (record { moment = t; next = 1 }) else option_map (λ b. record { moment = b.moment; next = p.page + 1 }) o) ≡ Some b → 0 < b.next
paged_later t p true o b h = one_later t b (some_same _ _ h)
paged_later t p false None b h = absurd (cc)
paged_later t p false (Some a) b h = more_later a.moment p.page b (some_same _ _ h)

cycle_later : (ds : List Deed) (b : Begun) → cycle_by ds ≡ Some b → 0 < b.next
cycle_later [] b h = absurd (cc)
cycle_later (Gave t (Packet d) ∷ ds) b h = cycle_later ds b h
cycle_later (Accepted o ∷ ds) b h = cycle_later ds b h
cycle_later (Gave t (Paged p) ∷ ds) b h = paged_later t p (p.page == 0) (cycle_by ds) b h

not_first : (n : ℕ) → 0 < n → (n == 0) ≡ true → ⊥
not_first n lt e = absurd (grind (arith, nat_tests))

page_cases : (all listed : List ℕ) (b : Begun) (p : Page) → 0 < b.next → (x y : Bool) →
    (if x then Some (record { list = listed; page = b.next }) else (if y then Some (record { list = all; page = 0 }) else None)) ≡ Some p → (p.page == 0) ≡ true → p.list ≡ all
page_cases all listed b p lt true y e =
    let n : b.next ≡ p.page = ap (λ (x : Page). x.page) (some_same (record { list = listed; page = b.next }) p e) in
    λ z. absurd (not_first p.page (rw n at lt) z)
page_cases all listed b p lt false true e = λ z. sym (ap (λ (x : Page). x.list) (some_same (record { list = all; page = 0 }) p e))
page_cases all listed b p lt false false e = absurd (cc)

page_proper : (t : ℕ) (all listed : List ℕ) (o : Option Begun) (p : Page) → ((b : Begun) → o ≡ Some b → 0 < b.next) → page_by t all listed o ≡ Some p → (p.page == 0) ≡ true → p.list ≡ all
page_proper t all listed None p later e = λ z. sym (ap (λ (x : Page). x.list) (some_same (record { list = all; page = 0 }) p e))
page_proper t all listed (Some b) p later e = page_cases all listed b p (later b refl) (nat_lt b.next (page_count (length listed))) (nat_le DISCOVERY_INTERVAL (t - b.moment)) e

found_by : (f : ℕ → Bool) (x : ℕ) (xs : List ℕ) (u : ℕ) (b c : Bool) → (x == u) ≡ c → (if b then Some x else find f xs) ≡ Some u → (if c then Some x else find (λ v. v == u) xs) ≡ None → (find f xs ≡ Some u → find (λ v. v == u) xs ≡ None → ⊥) → ⊥
found_by f x xs u true c is e none more = same_not x u c (some_same x u e) is none where
  same_not : (x u : ℕ) (c : Bool) → x ≡ u → (x == u) ≡ c → (if c then Some x else find (λ v. v == u) xs) ≡ None → ⊥
  same_not x u true s is none = absurd (cc)
  same_not x u false s is none = absurd (grind (arith, nat_tests))
found_by f x xs u false true is e none more = absurd (cc)
found_by f x xs u false false is e none more = more e none

found_known : (f : ℕ → Bool) (us : List ℕ) (u : ℕ) → find f us ≡ Some u → find (λ v. v == u) us ≡ None → ⊥
found_known f [] u e none = absurd (cc)
found_known f (x ∷ xs) u e none = found_by f x xs u (f x) (x == u) refl e none (found_known f xs u)

packet_proper : (life : Life) (ds : List Deed) (u : ℕ) → (known u ds ≡ None → ⊥) → IsProper life ds (Packet (packet_by life ds u))
unfolding packet_by
packet_proper life ds u there = (refl, refl, there)

due_proper : (life : Life) (t : ℕ) (ds : List Deed) (o : Option ℕ) (g : Datagram) → find (universe_due life t ds) (universes ds) ≡ o → due_with life t ds o ≡ Some g → IsProper life ds g
due_proper life t ds (Some u) g is e = rw (← some_same _ _ e) (packet_proper life ds u (found_known (universe_due life t ds) (universes ds) u is))
due_proper life t ds None g is e =
    let w = option_paged _ g e in
    rw w.2 (page_proper t (standing_by life ds) (list_by life ds) (cycle_by ds) w.0 (cycle_later ds) w.1)

due_list_proper : (life : Life) (t : ℕ) (ds : List Deed) (g : Datagram) → due_by_list life t ds ≡ Some g → IsProper life ds g
unfolding due_by_list
due_list_proper life t ds g e = due_proper life t ds (find (universe_due life t ds) (universes ds)) g refl e

-- ---- a poll

moment_of : (life : Life) (t : ℕ) (ds : List Deed) → (source_by life t ds).moment ≡ t
unfolding source_by
moment_of life t ds = refl

given_step : (life : Life) (t : ℕ) (ds : List Deed) (o : Option Datagram) → ((g : Datagram) → o ≡ Some g → IsProper life ds g) → given o (source_by life t ds) ≡ source_by life t (with_datagram t o ds)
given_step life t ds None h = refl
given_step life t ds (Some g) h = ap (λ (m : ℕ). sent m g (source_by life t ds)) (moment_of life t ds) ∙ source_gave life t g ds (h g refl)

moved : (life : Life) (t now : ℕ) (ds : List Deed) → at now (source_by life t ds) ≡ source_by life (max t now) ds
unfolding source_by
moved life t now ds = refl

poll_step : (life : Life) (t now : ℕ) (ds : List Deed) → after_poll now (source_by life t ds) ≡ source_by life (max t now) (with_datagram (max t now) (due_by_list life (max t now) ds) ds)
poll_step life t now ds =
    let m : ℕ = max t now in
    ap (λ (c : Source). given (due c) c) (moved life t now ds) ∙ ap (λ (o : Option Datagram). given o (source_by life m ds)) (due_same life m ds) ∙ given_step life m ds (due_by_list life m ds) (due_list_proper life m ds)

known_poll : (life : Life) (t : ℕ) (ds : List Deed) (o : Option Datagram) → ((g : Datagram) → o ≡ Some g → IsProper life ds g) → Known life ds → Known life (with_datagram t o ds)
known_poll life t ds None h k = k
known_poll life t ds (Some g) h k = known_gave life t g ds (h g refl) k

-- ---- an order

find_rows : (life : Life) (ds : List Deed) (u : ℕ) (us : List ℕ) → find (is_of u) (map (row_by life ds) us) ≡ option_map (row_by life ds) (find (λ v. v == u) us)
find_rows life ds u [] = refl
find_rows life ds u (v ∷ vs) =
    elim (v == u) as (λ b. cond b (Some (row_by life ds v)) (find (is_of u) (map (row_by life ds) vs)) ≡ option_map (row_by life ds) (cond b (Some v) (find (λ w. w == u) vs)))
    [ true ↦ refl | false ↦ find_rows life ds u vs ]

is_by : (v u w : ℕ) (o : Option ℕ) (b : Bool) → (v == u) ≡ b → (if b then Some v else o) ≡ Some w → (o ≡ Some w → w ≡ u) → w ≡ u
is_by v u w o true is e more = sym (some_same v w e) ∙ same_number v u is
is_by v u w o false is e more = more e

known_is : (u w : ℕ) (us : List ℕ) → find (λ v. v == u) us ≡ Some w → w ≡ u
known_is u w [] e = absurd (cc)
known_is u w (v ∷ vs) e = is_by v u w (find (λ x. x == u) vs) (v == u) refl e (known_is u w vs)

end_answered : (e : Bool) (ss : List Sent) → end_answer (state_by e ss) ≡ end_in (mode_by e (terminations ss))
end_answered true ss =
    elim (nat_lt (terminations ss) TERMINATIONS) as (λ b. end_answer (cond b (Ending (TERMINATIONS - terminations ss)) Stopped) ≡ end_in (cond b Ends Stops)) [ true ↦ refl | false ↦ refl ]
end_answered false [] = refl
end_answered false (a ∷ ss) = refl

add_answered : (e : Bool) (ss : List Sent) → add_answer (state_by e ss) ≡ add_in (mode_by e (terminations ss))
add_answered true ss =
    elim (nat_lt (terminations ss) TERMINATIONS) as (λ b. add_answer (cond b (Ending (TERMINATIONS - terminations ss)) Stopped) ≡ add_in (cond b Ends Stops)) [ true ↦ refl | false ↦ refl ]
add_answered false [] = refl
add_answered false (a ∷ ss) = refl

abbrev table_by : Life → List Deed → Table
table_by life ds = record { room = min life.room CONSOLE_UNIVERSES; rows = map (row_by life ds) (universes ds) }

add_found : (life : Life) (ds : List Deed) (u : ℕ) (o : Option ℕ) → known u ds ≡ o → add_by (table_by life ds) (option_map (row_by life ds) o) ≡ add_or o (room_in life ds) (add_in (mode life u ds))
unfolding mode
add_found life ds u None is = rw length-map refl
add_found life ds u (Some w) is = rw (known_is u w (universes ds) is) (add_answered (is_ended u ds) (packets_since life u ds))

end_found : (life : Life) (ds : List Deed) (u : ℕ) (o : Option ℕ) → known u ds ≡ o → for_row (λ (r : SourceUniverse). end_answer r.line.state) (option_map (row_by life ds) o) ≡ if_there o (end_in (mode life u ds))
unfolding mode
end_found life ds u None is = refl
end_found life ds u (Some w) is = rw (known_is u w (universes ds) is) (end_answered (is_ended u ds) (packets_since life u ds))

there_found : (life : Life) (ds : List Deed) (r : Result (Unit {0}) SourceFault) (o : Option ℕ) → for_row (λ (x : SourceUniverse). r) (option_map (row_by life ds) o) ≡ if_there o r
there_found life ds r None = refl
there_found life ds r (Some w) = refl

answered : (life : Life) (o : Order) (ds : List Deed) → answer o (table_by life ds) ≡ answer_by_list life o ds
unfolding answer answer_by_list
answered life (Add u) ds =
    ap (λ (r : Result (Unit {0}) SourceFault). if nat_le 1 u && nat_le u 63999 then r else Err fault.BadUniverse)
    (ap (add_by (table_by life ds)) (find_rows life ds u (universes ds)) ∙ add_found life ds u (known u ds) refl)
answered life (SetLevels u levels) ds =
    ap (for_row (λ (x : SourceUniverse). unless (nat_lt 512 (length levels)) fault.TooMany)) (find_rows life ds u (universes ds)) ∙ there_found life ds (unless (nat_lt 512 (length levels)) fault.TooMany) (known u ds)
answered life (SetPriority u p) ds =
    ap (for_row (λ (x : SourceUniverse). unless (nat_lt 200 p) fault.BadPriority)) (find_rows life ds u (universes ds)) ∙ there_found life ds (unless (nat_lt 200 p) fault.BadPriority) (known u ds)
answered life (End u) ds = ap (for_row (λ (r : SourceUniverse). end_answer r.line.state)) (find_rows life ds u (universes ds)) ∙ end_found life ds u (known u ds) refl
answered life EndAll ds = refl

answer_same : (life : Life) (t : ℕ) (o : Order) (ds : List Deed) → answer o (source_by life t ds).table ≡ answer_by_list life o ds
unfolding source_by
answer_same life t o ds = answered life o ds

rows_asked : (life : Life) (o : Order) (ds : List Deed) → life.first < 256 → Known life ds → rows_after life.first life.sender.priority o (map (row_by life ds) (universes ds)) ≡ map (row_by life (Accepted o ∷ ds)) (universes (Accepted o ∷ ds))
rows_asked life (Add u) ds small k = rows_with life u ds small (universes ds) k.rising (k.fresh u)
rows_asked life (SetLevels u levels) ds small k = rows_by (on u (row_showing (slots_of levels))) (row_by life ds) (row_by life (Accepted (SetLevels u levels) ∷ ds)) (level_row life u levels ds) (universes ds)
rows_asked life (SetPriority u p) ds small k = rows_by (on u (row_prior p)) (row_by life ds) (row_by life (Accepted (SetPriority u p) ∷ ds)) (prior_row life u p ds) (universes ds)
rows_asked life (End u) ds small k = rows_by (on u (row_in (Ending TERMINATIONS))) (row_by life ds) (row_by life (Accepted (End u) ∷ ds)) (end_row life u ds) (universes ds)
rows_asked life EndAll ds small k = rows_by row_ended (row_by life ds) (row_by life (Accepted EndAll ∷ ds)) (all_row life ds) (universes ds)

ordered : (life : Life) (t : ℕ) (o : Order) (ds : List Deed) (r : Result (Unit {0}) SourceFault) → life.first < 256 → Known life ds →
    (let c : Source = record { sender = life.sender; first = life.first; table = taken life.first life.sender.priority o r (table_by life ds); cycle = cycle_by ds; listed = list_by life ds; moment = t } in c) ≡ source_by life t (with_order o r ds)
unfolding source_by
ordered life t o ds (Ok x) small k = ap (λ (rows : List SourceUniverse). source_with life t rows (cycle_by ds) (list_by life ds)) (rows_asked life o ds small k)
ordered life t o ds (Err e) small k = refl

asked : (life : Life) (t : ℕ) (o : Order) (ds : List Deed) → after_order o (source_by life t ds) ≡ (let c : Source = record { sender = life.sender; first = life.first; table = taken life.first life.sender.priority o (answer_by_list life o ds) (table_by life ds); cycle = cycle_by ds; listed = list_by life ds; moment = t } in c)
unfolding source_by
asked life t o ds = ap (λ (r : Result (Unit {0}) SourceFault). let c : Source = record { sender = life.sender; first = life.first; table = taken life.first life.sender.priority o r (table_by life ds); cycle = cycle_by ds; listed = list_by life ds; moment = t } in c) (answered life o ds)

ask_step : (life : Life) (t : ℕ) (o : Order) (ds : List Deed) → life.first < 256 → Known life ds → after_order o (source_by life t ds) ≡ source_by life t (with_order o (answer_by_list life o ds) ds)
ask_step life t o ds small k = asked life t o ds ∙ ordered life t o ds (answer_by_list life o ds) small k

-- ---- runs

runs_same : (life : Life) → life.first < 256 → (calls : List Call) (t : ℕ) (ds : List Deed) → Known life ds → answers (source_by life t ds) calls ≡ answers_by_list life t ds calls
runs_same life small [] t ds k = refl
runs_same life small (Ask o ∷ calls) t ds k =
    ap (λ (r : Result (Unit {0}) SourceFault). Asked r ∷ answers (after_order o (source_by life t ds)) calls) (answer_same life t o ds)
    ∙ ap (λ (c : Source). Asked (answer_by_list life o ds) ∷ answers c calls) (ask_step life t o ds small k)
    ∙ ap (λ rest. Asked (answer_by_list life o ds) ∷ rest) (runs_same life small calls t (with_order o (answer_by_list life o ds) ds) (known_order life o ds (answer_by_list life o ds) refl k))
runs_same life small (Poll now ∷ calls) t ds k =
    let m : ℕ = max t now in
    ap (λ (d : Option Datagram). Polled d ∷ answers (after_poll now (source_by life t ds)) calls) (ap due (moved life t now ds) ∙ due_same life m ds)
    ∙ ap (λ (c : Source). Polled (due_by_list life m ds) ∷ answers c calls) (poll_step life t now ds)
    ∙ ap (λ rest. Polled (due_by_list life m ds) ∷ rest) (runs_same life small calls m (with_datagram m (due_by_list life m ds) ds) (known_poll life m ds (due_by_list life m ds) (due_list_proper life m ds) k))

begun : (life : Life) → new_source life.sender life.room life.first ≡ source_by life 0 []
unfolding source_by
begun life = refl

pub steps_are_the_list : StepsAreTheList
steps_are_the_list life calls small = ap (λ (c : Source). answers c calls) (begun life) ∙ runs_same life small calls 0 [] (record { rising = tt; fresh = λ u none. (refl, refl, refl) })
