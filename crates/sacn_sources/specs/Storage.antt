-- How a table stores its rows: entries by rising CID, and the levels of each under a key of its own.
use Rattle.std.specs.Prelude.{◌≡◌, ◌≢◌, ℕ, ◌≤◌, List, map, length, IsSome, All, AllPairs, unwrap_or, []}
use Rattle.std.specs.Option.{option_map}
use Rattle.std.specs.declared.cmp.Ordering.TheVariants.{Less}
use Rattle.slab.specs.Slab.{Slab, get, slab_len}
use Rattle.sacn_sources.specs.Order.{order}
use Rattle.sacn_sources.specs.Rows.{Row}
use Rattle.sacn_sources.specs.declared.entry.Entry.{Entry}
use Rattle.sacn_sources.specs.declared.limits.TheConstants.{MAX_SOURCES}

abbrev pub Frames : Type 0
Frames = Slab (List ℕ)

-- what the entry shows, by its priority and its stored levels
abbrev pub row_in : Frames → Entry → Row
row_in frames e = record {
  source = e.cid;
  sequence_number = e.sequence_number;
  shown = option_map (λ priority. record { priority = priority; levels = unwrap_or (get frames e.key) [] }) e.priority;
  moment = e.moment;
}

abbrev pub rows_in : Frames → List Entry → List Row
rows_in frames es = map (row_in frames) es

-- of two entries the earlier has the smaller CID, and another key
abbrev pub Apart : Entry → Entry → Type 0
Apart a b = (order a.cid b.cid ≡ Less) × (a.key ≢ b.key)

-- the CIDs strictly rise, each entry has stored levels of its own, and there is room for those of every source
pub record AreStored (es : List Entry) (frames : Frames) : Type 0 where
  pub apart : AllPairs Apart es
  pub stored : All (λ e. IsSome (get frames e.key)) es
  pub counted : slab_len frames ≡ length es
  pub within : length es ≤ MAX_SOURCES
  pub room : MAX_SOURCES ≤ frames.capacity
