-- A table of sources that keeps the priorities that they give for single slots: packets of the alternate start code 0xDD, by its
-- registered use, beside those with levels.
use Rattle.std.specs.Prelude.{refl, ℕ, ◌-◌, ◌==◌, ◌&&◌, nat_lt, not, Bool, List, [], ◌∷◌, take, filter, filter_map, find, bytes_eq, Option, option_map, is_some, if◌then◌else◌}
use Rattle.std.specs.Coded.{Coded, code_by, coded×, coded_ℕ, coded_list}
use Rattle.sacn_packets.specs.Data.{Data}
use Rattle.sacn_sources.specs.Packets.{packet_of}
use Rattle.sacn_sources.specs.declared.answer.Taken.{Taken}
use Rattle.sacn_sources.specs.declared.answer.Taken.TheVariants.{Held, Observed, EndedNow, OutOfSequence, SourcesExceeded, UnknownIgnored}
use Rattle.sacn_sources.specs.Rows.{Row, row_of, answer}
use Rattle.sacn_sources.specs.LatestMerge.{Kept, kept_code, new_kept, kept_after_expire, kept_after_take}
use Rattle.sacn_sources.specs.declared.limits.TheConstants.{MAX_SOURCES, NETWORK_DATA_LOSS}
use Rattle.sacn_slots.specs.SlotMerge.{Member, merge_by_slot, priority_of_slot}
use Rattle.sacn_slots.specs.declared.given.Given.{Given}
use Rattle.sacn_slots.specs.declared.given.TheConstants.{SLOT_PRIORITIES}

-- the table of the sources, and the slot priorities that they gave, the newest first
pub record SlotSources : Type 0 where
  pub sources : Kept
  pub given : List Given

-- what a source gave counts until it is as old as a source that is lost, and while the source is held
abbrev pub counts : ℕ → List Row → Given → Bool
counts t rows g = nat_lt (t - g.moment) NETWORK_DATA_LOSS && is_some (row_of g.cid rows)

-- a packet gives slot priorities by its start code, unless it is a preview
abbrev pub gives : Data → Bool
gives d = (d.start == SLOT_PRIORITIES) && not d.preview

abbrev pub given_by : ℕ → Data → Given
given_by moment d = record { cid = d.cid; moment = moment; priorities = d.slots }

-- it is of this source
abbrev pub is_by : List ℕ → Given → Bool
is_by cid g = bytes_eq g.cid cid

abbrev pub without : List ℕ → List Given → List Given
without cid gs = filter (λ g. not (is_by cid g)) gs

-- the newest of each source, as many as there can be sources
abbrev pub give : Given → List Given → List Given
give g gs = g ∷ take (MAX_SOURCES - 1) (without g.cid gs)

-- what a packet leaves of them, by what became of it
abbrev pub given_after : Taken → ℕ → Data → List Given → List Given
given_after Observed moment d gs = if gives d then give (given_by moment d) gs else gs
given_after EndedNow moment d gs = without d.cid gs
given_after Held moment d gs = gs
given_after OutOfSequence moment d gs = gs
given_after SourcesExceeded moment d gs = gs
given_after UnknownIgnored moment d gs = gs

-- ---- the steps of the table

abbrev pub new_sources : SlotSources
new_sources = record { sources = new_kept; given = [] }

abbrev pub after_expire : ℕ → SlotSources → SlotSources
after_expire now s =
    let k : Kept = kept_after_expire now s.sources in
    record { sources = k; given = filter (counts k.table.moment k.table.rows) s.given }

-- what is lost by then is dropped before the packet is taken
abbrev pub after_packet : ℕ → Data → SlotSources → SlotSources
after_packet now d s = record {
  sources = kept_after_take now (packet_of d) s.sources;
  given = given_after (answer now (packet_of d) s.sources.table) s.sources.table.moment d s.given;
}

abbrev pub after_take : ℕ → Data → SlotSources → SlotSources
after_take now d s = after_packet now d (after_expire now s)

-- ---- what is shown

-- the slot priorities that a source has, if it has any
abbrev pub priorities_given : List ℕ → List Given → Option (List ℕ)
priorities_given cid gs = option_map (λ (g : Given). g.priorities) (find (is_by cid) gs)

-- what a source shows, with its slot priorities; nothing once it has ended
abbrev pub member_at : List Given → Row → Option Member
member_at gs r = option_map (λ shown. record { shown = shown; slot_priorities = priorities_given r.source gs }) r.shown

-- what is merged: each source that shows something
abbrev pub members : SlotSources → List Member
members s = filter_map (member_at s.given) s.sources.table.rows

-- ---- codes

abbrev pub given_code : Coded Given
given_code = code_by (List ℕ × (ℕ × List ℕ)) (coded× (coded_list coded_ℕ) (coded× coded_ℕ (coded_list coded_ℕ)))
    (λ g. (g.cid, (g.moment, g.priorities))) (λ p. record { cid = p.0; moment = p.1.0; priorities = p.1.1 }) (λ _. refl)

abbrev pub slot_sources_code : Coded SlotSources
slot_sources_code = code_by (Kept × List Given) (coded× kept_code (coded_list given_code)) (λ s. (s.sources, s.given)) (λ p. record { sources = p.0; given = p.1 }) (λ _. refl)
