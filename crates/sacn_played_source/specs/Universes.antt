-- The universes of a recording: the table of each, and what is sent of it.
use Rattle.std.specs.Prelude.{◌≡◌, ℕ, ◌+◌, ◌-◌, ◌<◌, ◌≤◌, nat_lt, Bool, false, not, ◌||◌, ◌==◌, max, min, if◌then◌else◌, List, [], ◌∷◌, length, slice_index_or, Option, Some, None}
use Rattle.sacn_sources.specs.Rows.{Packet, answer, renews, rows_lost, slots_of}
use Rattle.sacn_sources.specs.declared.limits.TheConstants.{NETWORK_DATA_LOSS}
use Rattle.sacn_sources.specs.LatestMerge.{new_kept, kept_after_take, kept_after_merged}
use Rattle.sacn_source.specs.Table.{SetLevels}
use Rattle.sacn_source.specs.Source.{Source, after_order}
use Rattle.sacn_played_source.specs.declared.played_universe.PlayedUniverse.{PlayedUniverse}

abbrev pub is_of : ℕ → PlayedUniverse → Bool
is_of u o = o.universe == u

-- a universe on which nothing was heard yet
abbrev pub new_universe : ℕ → PlayedUniverse
new_universe u = record { universe = u; begun = None; is_own = false; table = new_kept }

-- the recording begins anew
abbrev pub rewound : PlayedUniverse → PlayedUniverse
rewound o = new_universe o.universe

-- its table takes a packet; what it holds is sent from the first on that renews a source
abbrev pub taken : ℕ → Packet → PlayedUniverse → PlayedUniverse
taken moment x o = record { universe = o.universe; begun = o.begun; is_own = o.is_own || renews (answer moment x o.table.table); table = kept_after_take moment x o.table }

-- the first moment that it was handed since the recording began
abbrev pub since : Option ℕ → ℕ → ℕ
since None moment = moment
since (Some first) moment = first

-- what was sent before the recording began is as old then as a source that is lost (E1.31, 6.7.1)
abbrev pub is_over : ℕ → ℕ → Bool
is_over first moment = not (nat_lt (moment - first) NETWORK_DATA_LOSS)

-- its table is merged, which drops the sources that are lost, and what was sent before the recording began
abbrev pub merged : ℕ → PlayedUniverse → PlayedUniverse
merged moment o =
    record { universe = o.universe; begun = Some (since o.begun moment); is_own = o.is_own || is_over (since o.begun moment) moment; table = kept_after_merged moment o.table }

-- What is sent on a universe are then the merged levels of what its table holds.
abbrev pub sent_from : PlayedUniverse → Source → Source
sent_from o c = if o.is_own then after_order (SetLevels o.universe (slots_of o.table.table.rows)) c else c

abbrev pub all_sent : List PlayedUniverse → Source → Source
all_sent [] c = c
all_sent (o ∷ os) c = all_sent os (sent_from o c)

-- ---- what is lost next (E1.31, 6.7.1)

abbrev pub lost_since : Option ℕ → ℕ → ℕ
lost_since None moment = 0
lost_since (Some first) moment = if nat_lt (moment - first) NETWORK_DATA_LOSS then 0 else 1

-- what was sent before the recording began, where it is still sent
abbrev pub before_lost : ℕ → PlayedUniverse → ℕ
before_lost moment o = if o.is_own then 0 else lost_since o.begun moment

-- how many sources, and that
abbrev pub lost_by : ℕ → PlayedUniverse → ℕ
lost_by moment o = rows_lost (max o.table.table.moment moment) o.table.table.rows + before_lost moment o

-- before this moment nothing of any of them is lost
abbrev pub NoneLostBefore : List PlayedUniverse → ℕ → Type 0
NoneLostBefore os moment = (i t : ℕ) (d : PlayedUniverse) → i < length os → t < moment → lost_by t (slice_index_or os i d) ≡ 0

-- at this moment something of one of them is lost
abbrev pub OneLostAt : List PlayedUniverse → ℕ → Type 0
OneLostAt os moment = (i : ℕ) × (i < length os) × ((d : PlayedUniverse) → 1 ≤ lost_by moment (slice_index_or os i d))

-- the earlier of two moments, where there is one
abbrev pub earlier : Option ℕ → Option ℕ → Option ℕ
earlier None other = other
earlier (Some first) None = Some first
earlier (Some first) (Some other) = Some (min first other)
