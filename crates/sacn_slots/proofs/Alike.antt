-- A table that keeps slot priorities beside a table of sources.
use Rattle.std.proofs.Common.{◌≡◌, ℕ, max, Bool, true, false, cond, ◌||◌, List, [], ◌∷◌, map, filter, Option, Some, None, refl, sym, ap, ◌∙◌, arith}
use Rattle.std.specs.List.{list_any, filter_map}
use Rattle.std.specs.Option.{option_map}
use Rattle.std.proofs.lemmas.Bool.{or_parts}
use Rattle.sacn_packets.specs.Data.{Data}
use Rattle.sacn_sources.specs.Packets.{packet_of}
use Rattle.sacn_sources.specs.declared.answer.Taken.{Taken}
use Rattle.sacn_sources.specs.declared.answer.Taken.TheVariants.{Held, Observed, EndedNow, OutOfSequence, SourcesExceeded, UnknownIgnored}
use Rattle.sacn_sources.specs.Merge.{Shown}
use Rattle.sacn_sources.specs.Rows.{Row, Table, Packet, answer, row_renewed, rows_kept, taken, take_row, after_expire, after_take, layers, slots_of}
use Rattle.sacn_sources.specs.Calls as sources
use Rattle.sacn_slots.specs.SlotMerge.{Member, merge_by_slot}
use Rattle.sacn_slots.specs.SlotLaws.{by_packet, MergesByPacket}
use Rattle.sacn_slots.specs.SlotTables as table
use Rattle.sacn_slots.specs.SlotTables.{SlotSources, gives, given_after, member_at, members}
use Rattle.sacn_slots.specs.declared.given.Given.{Given}
use Rattle.sacn_slots.specs.TableLaws.{Call, Take, Expire, step, after_calls, of_sources, is_given, KeepsTheSources, ShowsTheSources}

-- ---- what is dropped before a packet isn't dropped by it again

filter_twice : {X : Type 0} (p : X → Bool) (xs : List X) → filter p (filter p xs) ≡ filter p xs
filter_twice p [] = refl
filter_twice p (x ∷ xs) = by_test (p x) refl (filter_twice p xs)
  where
    by_test : (b : Bool) → p x ≡ b → filter p (filter p xs) ≡ filter p xs → filter p (filter p (x ∷ xs)) ≡ filter p (x ∷ xs)
    by_test true is rest = rw is (rw is (ap (λ l. x ∷ l) rest))
    by_test false is rest = rw is rest

max_twice : (m now : ℕ) → max (max m now) now ≡ max m now
max_twice m now = omega arith

module _ (now : ℕ) (x : Packet) (t : Table) where
  abbrev then : ℕ
  then = max t.moment now

  kept_twice : (m : ℕ) → m ≡ then → rows_kept m (rows_kept then t.rows) ≡ rows_kept then t.rows
  kept_twice m is = ap (λ n. rows_kept n (rows_kept then t.rows)) is ∙ filter_twice (row_renewed then) t.rows

  pub taken_twice : after_take now x (after_expire now t) ≡ after_take now x t
  taken_twice =
      ap (λ rs. record { rows = take_row x (max then now) rs; moment = max then now }) (kept_twice (max then now) (max_twice t.moment now))
      ∙ ap (λ m. record { rows = take_row x m (rows_kept then t.rows); moment = m }) (max_twice t.moment now)

  pub answered_twice : answer now x (after_expire now t) ≡ answer now x t
  answered_twice = ap (taken x) (kept_twice (max then now) (max_twice t.moment now))

-- ---- the sources

pub same_table : (calls : List Call) → (after_calls calls).sources.table ≡ (sources.after_calls (map of_sources calls)).table
same_table [] = refl
same_table (Take now d ∷ earlier) = taken_twice now (packet_of d) (after_calls earlier).sources.table ∙ ap (after_take now (packet_of d)) (same_table earlier)
same_table (Expire now ∷ earlier) = ap (after_expire now) (same_table earlier)

pub keeps_the_sources : KeepsTheSources
keeps_the_sources = record {
  table = same_table;
  answers = λ now d earlier. answered_twice now (packet_of d) (after_calls earlier).sources.table ∙ ap (answer now (packet_of d)) (same_table earlier);
}

-- ---- where nothing is given

given_none : (a : Taken) (m : ℕ) (d : Data) (gs : List Given) → gives d ≡ false → gs ≡ [] → given_after a m d gs ≡ []
given_none Observed m d gs lacks empty = rw lacks empty
given_none EndedNow m d gs lacks empty = rw empty refl
given_none Held m d gs lacks empty = empty
given_none OutOfSequence m d gs lacks empty = empty
given_none SourcesExceeded m d gs lacks empty = empty
given_none UnknownIgnored m d gs lacks empty = empty

filter_none : {X : Type 0} (p : X → Bool) (xs : List X) → xs ≡ [] → filter p xs ≡ []
filter_none p xs empty = rw empty refl

none_given : (calls : List Call) → list_any is_given calls ≡ false → (after_calls calls).given ≡ []
none_given [] h = refl
none_given (Take now d ∷ earlier) h =
    let both = or_parts (gives d) (list_any is_given earlier) h in
    given_none _ _ d _ both.0 (filter_none _ _ (none_given earlier both.1))
none_given (Expire now ∷ earlier) h =
    let both = or_parts false (list_any is_given earlier) h in
    filter_none _ _ (none_given earlier both.1)

members_alone : (rs : List Row) → filter_map (member_at []) rs ≡ map by_packet (layers rs)
members_alone [] = refl
members_alone (r ∷ rs) = by_shown r.shown refl (members_alone rs)
  where
    by_shown : (o : Option Shown) → r.shown ≡ o → filter_map (member_at []) rs ≡ map by_packet (layers rs) → filter_map (member_at []) (r ∷ rs) ≡ map by_packet (layers (r ∷ rs))
    by_shown None is rest = rw is rest
    by_shown (Some shown) is rest = rw is (ap (λ l. by_packet shown ∷ l) rest)

pub shows_the_sources : MergesByPacket → ShowsTheSources
shows_the_sources merges calls h =
    ap (λ gs. merge_by_slot (filter_map (member_at gs) (after_calls calls).sources.table.rows)) (none_given calls h)
    ∙ ap merge_by_slot (members_alone (after_calls calls).sources.table.rows)
    ∙ merges.levels (layers (after_calls calls).sources.table.rows)
    ∙ ap (λ t. slots_of t.rows) (same_table calls)
