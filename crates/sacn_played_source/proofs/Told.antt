-- What a played source keeps of a list of calls.
use Rattle.std.proofs.Common.{◌≡◌, ℕ, ◌<◌, ◌||◌, ◌==◌, Bool, true, false, cond, nat_lt, nat_eq, List, [], ◌∷◌, length, map, find, get_or, set, Option, Some, None, Result, Ok, Err, refl, arith, ap, sym, ◌∙◌}
use Rattle.std.specs.List.{list_any, position_or_len}
use Rattle.std.specs.Option.{option_map}
use Rattle.std.proofs.lemmas.Bool.{lt-ltb, ltb-true}
use Rattle.std.proofs.lemmas.Bool.Decides.{nat_tests}
use Rattle.std.proofs.lemmas.List.FromFn.{length-map-range_with_len}
use Rattle.sacn_packets.specs.Data.{Data}
use Rattle.sacn_packets.specs.PacketReading.{Reading, reading_packet}
use Rattle.sacn_packets.specs.declared.framing.packet.Packet.TheVariants.{DataPacket, PagePacket, SyncPacket}
use Rattle.sacn_sources.specs.Merge.{Shown, merge, merged_level}
use Rattle.sacn_sources.specs.Packets.{packet_of}
use Rattle.sacn_sources.specs.Rows.{Row, layers, slots_of}
use Rattle.sacn_sources.specs.Calls as table
use Rattle.sacn_sources.specs.Calls.{Take, Merge}
use Rattle.sacn_console.specs.declared.sender.Sender.{Sender}
use Rattle.sacn_source.specs.Rows.{dark}
use Rattle.sacn_source.specs.Table.{SetLevels}
use Rattle.sacn_source.specs.Source.{Source, new_source, after_order}
use Rattle.sacn_played_source.specs.declared.played_universe.PlayedUniverse.{PlayedUniverse}
use Rattle.sacn_played_source.specs.Universes.{is_of, new_universe, rewound, taken, merged, sent_from, all_sent}
use Rattle.sacn_played_source.specs.Played.{Played, add_all, new_played, taken_at, taken_by, after_reading}
use Rattle.sacn_played_source.specs.Calls.{Call, Hear, Advance, Rewind, Poll, EndAll, after_calls, told_by, told, begun, is_own, held_or, levels_sent}
use Rattle.sacn_played_source.specs.Laws.{levels_on, SendsWhatTheListSays, SendsWhatIsHeld}
use Rattle.sacn_played_source.proofs.SourceLevels.{polled, ended, set_here, set_elsewhere}
use Rattle.sacn_played_source.proofs.Adding.{Once, named_once, dark_first}
use Rattle.sacn_played_source.proofs.Places.{found_at, passes_at, found_anew, found_elsewhere, found_changed, none_found, same_values, same_changed}

abbrev number : PlayedUniverse → ℕ
number o = o.universe

-- ---- what sending makes of the levels of a universe

whole : (members : List Shown) → length (merge members) ≡ 512
unfolding merge
whole members = length-map-range_with_len (merged_level members) 0 512

abbrev levels_of : PlayedUniverse → List ℕ → List ℕ
levels_of o old = cond o.is_own (slots_of o.table.table.rows) old

sends_one : (u : ℕ) (o : PlayedUniverse) (c : Source) (old : List ℕ) → o.universe ≡ u → levels_on u c ≡ Some old → levels_on u (sent_from o c) ≡ Some (levels_of o old)
sends_one u o c old e is = by o.is_own
  where
    by : (b : Bool) → levels_on u (cond b (after_order (SetLevels o.universe (slots_of o.table.table.rows)) c) c) ≡ Some (cond b (slots_of o.table.table.rows) old)
    by true = rw e (set_here u (slots_of o.table.table.rows) c old (whole (layers o.table.table.rows)) is)
    by false = is

sends_other : (u : ℕ) (o : PlayedUniverse) (c : Source) → (o.universe == u) ≡ false → levels_on u (sent_from o c) ≡ levels_on u c
sends_other u o c other = by o.is_own
  where
    by : (b : Bool) → levels_on u (cond b (after_order (SetLevels o.universe (slots_of o.table.table.rows)) c) c) ≡ levels_on u c
    by true = set_elsewhere u o.universe (slots_of o.table.table.rows) c other
    by false = refl

neither : (a b : Bool) → (a || b) ≡ false → (a ≡ false) × (b ≡ false)
neither true b e = absurd (cc)
neither false b e = (refl, e)

same_number : (a b : ℕ) → (a == b) ≡ true → a ≡ b
same_number a b e = grind arith

some_same : {X : Type 0} (a b : X) → Some a ≡ Some b → a ≡ b
some_same a b e = cc

all_other : (os : List PlayedUniverse) (u : ℕ) (c : Source) → list_any (λ v. v == u) (map number os) ≡ false → levels_on u (all_sent os c) ≡ levels_on u c
all_other [] u c none = refl
all_other (o ∷ os) u c none =
    let both = neither (o.universe == u) (list_any (λ v. v == u) (map number os)) none in
    all_other os u (sent_from o c) both.1 ∙ sends_other u o c both.0

all_sends : (os : List PlayedUniverse) (u : ℕ) (o : PlayedUniverse) (c : Source) (old : List ℕ) → Once (map number os) → find (is_of u) os ≡ Some o → levels_on u c ≡ Some old
    → levels_on u (all_sent os c) ≡ Some (levels_of o old)
all_sends [] u o c old once found is = absurd (cc)
all_sends (x ∷ os) u o c old once found is =
    elim (x.universe == u) as (λ b. (x.universe == u) ≡ b → cond b (Some x) (find (is_of u) os) ≡ Some o → levels_on u (all_sent os (sent_from x c)) ≡ Some (levels_of o old)) [
      | true ↦ λ e f.
          let here : x.universe ≡ u = same_number x.universe u e in
          let none : list_any (λ v. v == u) (map number os) ≡ false = rw (sym here) once.0 in
          all_other os u (sent_from x c) none ∙ sends_one u x c old here is ∙ ap (λ (y : PlayedUniverse). Some (levels_of y old)) (some_same x o f)
      | false ↦ λ e f. all_sends os u o (sent_from x c) old once.1 f (sends_other u x c e ∙ is)
    ] refl found

-- ---- what is kept

abbrev universe_by : ℕ → List table.Call → PlayedUniverse
universe_by u t = record { universe = u; begun = begun t; is_own = is_own t; table = table.after_calls t }

-- of a universe whose table was told these calls, and whose levels are these
record Keeps (u : ℕ) (us : List ℕ) (t : List table.Call) (levels : List ℕ) (p : Played) : Type 0 where
  held : find (is_of u) p.universes ≡ Some (universe_by u t)
  sent : levels_on u p.source ≡ Some levels
  numbers : map number p.universes ≡ us

twice : (t : List table.Call) (levels : List ℕ) → held_or t (held_or t levels) ≡ held_or t levels
twice t levels = by (is_own t) (slots_of (table.after_calls t).table.rows)
  where
    by : (b : Bool) (l : List ℕ) → cond b l (cond b l levels) ≡ cond b l levels
    by true l = refl
    by false l = refl

-- where a packet renewed a source, the levels are those of the table
settled : (u : ℕ) (calls : List Call) → held_or (told u calls) (levels_sent u calls) ≡ levels_sent u calls
settled u [] = refl
settled u (Hear moment octets ∷ earlier) = twice (told u (Hear moment octets ∷ earlier)) (levels_sent u earlier)
settled u (Advance moment ∷ earlier) = twice (told u (Advance moment ∷ earlier)) (levels_sent u earlier)
settled u (Rewind ∷ earlier) = refl
settled u (Poll now ∷ earlier) = settled u earlier
settled u (EndAll ∷ earlier) = settled u earlier

-- ---- a datagram

module _ (us : List ℕ) (t : List table.Call) (levels : List ℕ) (p : Played) (moment : ℕ) where
  abbrev more : Data → List table.Call
  more d = Merge moment ∷ Take moment (packet_of d) ∷ t

  unchanged : (u : ℕ) → held_or t levels ≡ levels → Keeps u us t levels p → Keeps u us t (held_or t levels) p
  unchanged u same k = record { held = k.held; sent = k.sent ∙ ap (λ (l : List ℕ). Some l) (sym same); numbers = k.numbers }

  module _ (d : Data) where
    abbrev at : ℕ
    at = position_or_len (is_of d.universe) p.universes

    abbrev there : PlayedUniverse
    there = get_or p.universes at (new_universe d.universe)

    abbrev changed : PlayedUniverse → PlayedUniverse
    changed o = merged moment (taken moment (packet_of d) o)

    taken_numbers : at < length p.universes → map number p.universes ≡ us → map number (set p.universes at (changed there)) ≡ us
    taken_numbers lt numbers = same_values number p.universes at (new_universe d.universe) (changed there) lt refl ∙ numbers

    -- of its own universe
    taken_here : at < length p.universes → Keeps d.universe us t levels p → Keeps d.universe us (more d) (held_or (more d) levels) (taken_at moment d at p)
    taken_here lt k =
        let passes : (there.universe == d.universe) ≡ true = passes_at (is_of d.universe) p.universes (new_universe d.universe) lt in
        let is : there ≡ universe_by d.universe t = some_same there (universe_by d.universe t) (sym (found_at (is_of d.universe) p.universes (new_universe d.universe) lt) ∙ k.held) in
        let is_changed : changed there ≡ universe_by d.universe (more d) = ap changed is in
        record {
          held = found_anew (is_of d.universe) p.universes (changed there) passes lt ∙ ap (λ (o : PlayedUniverse). Some o) is_changed;
          sent = sends_one d.universe (changed there) p.source levels (same_number there.universe d.universe passes) k.sent ∙ ap (λ (o : PlayedUniverse). Some (levels_of o levels)) is_changed;
          numbers = taken_numbers lt k.numbers;
        }

    not_of : (a b u : ℕ) → (a == b) ≡ true → (b == u) ≡ false → (a == u) ≡ false
    not_of a b u e f = grind (arith, nat_tests)

    -- of another
    taken_elsewhere : (u : ℕ) → (d.universe == u) ≡ false → at < length p.universes → held_or t levels ≡ levels → Keeps u us t levels p → Keeps u us t (held_or t levels) (taken_at moment d at p)
    taken_elsewhere u other lt same k =
        let not : (there.universe == u) ≡ false = not_of there.universe d.universe u (passes_at (is_of d.universe) p.universes (new_universe d.universe) lt) other in
        record {
          held = found_elsewhere (is_of u) p.universes at (new_universe d.universe) (changed there) lt not not ∙ k.held;
          sent = sends_other u (changed there) p.source not ∙ k.sent ∙ ap (λ (l : List ℕ). Some l) (sym same);
          numbers = taken_numbers lt k.numbers;
        }

    there_taken : (u : ℕ) → at < length p.universes → held_or t levels ≡ levels → Keeps u us t levels p
        → Keeps u us (told_by u moment (Ok (DataPacket d)) t) (held_or (told_by u moment (Ok (DataPacket d)) t) levels) (taken_at moment d at p)
    there_taken u lt same k =
        elim (d.universe == u) as (λ b. (d.universe == u) ≡ b → Keeps u us (cond b (more d) t) (held_or (cond b (more d) t) levels) (taken_at moment d at p)) [
          | true ↦ λ e.
              let here : d.universe ≡ u = same_number d.universe u e in
              let own : Keeps d.universe us t levels p = rw here k in
              rw (sym here) (taken_here lt own)
          | false ↦ λ e. taken_elsewhere u e lt same k
        ] refl

    none_there : (u : ℕ) → find (is_of d.universe) p.universes ≡ None → held_or t levels ≡ levels → Keeps u us t levels p
        → Keeps u us (told_by u moment (Ok (DataPacket d)) t) (held_or (told_by u moment (Ok (DataPacket d)) t) levels) p
    none_there u none same k =
        elim (d.universe == u) as (λ b. (d.universe == u) ≡ b → Keeps u us (cond b (more d) t) (held_or (cond b (more d) t) levels) p) [
          | true ↦ λ e.
              let here : d.universe ≡ u = same_number d.universe u e in
              let no : find (is_of u) p.universes ≡ None = rw (sym here) none in
              absurd (let yes = k.held in cc)
          | false ↦ λ e. unchanged u same k
        ] refl

    packet_taken : (u : ℕ) → held_or t levels ≡ levels → Keeps u us t levels p
        → Keeps u us (told_by u moment (Ok (DataPacket d)) t) (held_or (told_by u moment (Ok (DataPacket d)) t) levels) (after_reading moment (Ok (DataPacket d)) p)
    packet_taken u same k =
        elim (nat_lt at (length p.universes)) as (λ b. nat_lt at (length p.universes) ≡ b
        → Keeps u us (told_by u moment (Ok (DataPacket d)) t) (held_or (told_by u moment (Ok (DataPacket d)) t) levels) (taken_by moment d (cond b (Some at) None) p)) [
          | true ↦ λ e. there_taken u (ltb-true at (length p.universes) e) same k
          | false ↦ λ e. none_there u (none_found (is_of d.universe) p.universes (nat_lt at (length p.universes)) (λ lt. lt-ltb at (length p.universes) lt) e) same k
        ] refl

  reading_taken : (u : ℕ) (reading : Reading) → held_or t levels ≡ levels → Keeps u us t levels p
      → Keeps u us (told_by u moment reading t) (held_or (told_by u moment reading t) levels) (after_reading moment reading p)
  reading_taken u (Ok (DataPacket d)) same k = packet_taken d u same k
  reading_taken u (Ok (PagePacket page)) same k = unchanged u same k
  reading_taken u (Ok SyncPacket) same k = unchanged u same k
  reading_taken u (Err fault) same k = unchanged u same k

-- ---- all calls

new_found : (us : List ℕ) (u : ℕ) → list_any (λ v. v == u) us ≡ true → find (is_of u) (map new_universe us) ≡ Some (new_universe u)
new_found [] u named = absurd (cc)
new_found (v ∷ us) u named =
    elim (v == u) as (λ b. (v == u) ≡ b → (b || list_any (λ v. v == u) us) ≡ true → cond b (Some (new_universe v)) (find (is_of u) (map new_universe us)) ≡ Some (new_universe u)) [
      | true ↦ λ e h. ap (λ (w : ℕ). Some (new_universe w)) (same_number v u e)
      | false ↦ λ e h. new_found us u h
    ] refl named

new_numbers : (us : List ℕ) → map number (map new_universe us) ≡ us
new_numbers [] = refl
new_numbers (u ∷ us) = ap (λ (l : List ℕ). u ∷ l) (new_numbers us)

module _ (sender : Sender) (us : List ℕ) (first u : ℕ) (added : add_all us (new_source sender (length us) first) ≡ Ok tt) (named : list_any (λ v. v == u) us ≡ true) where
  once : Once us
  once = named_once us (new_source sender (length us) first) tt added

  keeps : (calls : List Call) → Keeps u us (told u calls) (levels_sent u calls) (after_calls sender us first calls)
  keeps [] = record {
    held = new_found us u named;
    sent = dark_first us u (new_source sender (length us) first) tt added named;
    numbers = new_numbers us;
  }
  keeps (Hear moment octets ∷ earlier) = reading_taken us (told u earlier) (levels_sent u earlier) (after_calls sender us first earlier) moment u (reading_packet octets) (settled u earlier) (keeps earlier)
  keeps (Advance moment ∷ earlier) =
      let k = keeps earlier in
      let p = after_calls sender us first earlier in
      let held_now : find (is_of u) (map (merged moment) p.universes) ≡ Some (universe_by u (Merge moment ∷ told u earlier)) = found_changed (is_of u) (merged moment) (λ o. refl) p.universes ∙ ap (λ (o : Option PlayedUniverse). option_map (merged moment) o) k.held in
      let same : map number (map (merged moment) p.universes) ≡ us = same_changed number (merged moment) (λ o. refl) p.universes ∙ k.numbers in
      record {
        held = held_now;
        sent = all_sends (map (merged moment) p.universes) u (universe_by u (Merge moment ∷ told u earlier)) p.source (levels_sent u earlier) (rw same once) held_now k.sent;
        numbers = same;
      }
  keeps (Rewind ∷ earlier) =
      let k = keeps earlier in
      let p = after_calls sender us first earlier in
      record {
        held = found_changed (is_of u) rewound (λ o. refl) p.universes ∙ ap (λ (o : Option PlayedUniverse). option_map rewound o) k.held;
        sent = k.sent;
        numbers = same_changed number rewound (λ o. refl) p.universes ∙ k.numbers;
      }
  keeps (Poll now ∷ earlier) = let k = keeps earlier in record { held = k.held; sent = polled u now (after_calls sender us first earlier).source ∙ k.sent; numbers = k.numbers }
  keeps (EndAll ∷ earlier) = let k = keeps earlier in record { held = k.held; sent = ended u (after_calls sender us first earlier).source ∙ k.sent; numbers = k.numbers }

pub sends_what_the_list_says : SendsWhatTheListSays
sends_what_the_list_says sender us first calls u added named = (keeps sender us first u added named calls).sent

pub sends_what_is_held : SendsWhatIsHeld
sends_what_is_held sender us first calls u added named is =
    (keeps sender us first u added named calls).sent
    ∙ ap (λ (l : List ℕ). Some l) (sym (settled u calls))
    ∙ ap (λ (b : Bool). Some (cond b (slots_of (table.after_calls (told u calls)).table.rows) (levels_sent u calls))) is
