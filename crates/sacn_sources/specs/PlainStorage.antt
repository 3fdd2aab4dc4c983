-- How the plain table stores its rows: entries by rising CID, each with its levels.
use Rattle.std.specs.Prelude.{◌≡◌, ◌≤◌, List, map, length, AllPairs}
use Rattle.std.specs.Option.{option_map}
use Rattle.std.specs.declared.cmp.Ordering.TheVariants.{Less}
use Rattle.sacn_sources.specs.Order.{order}
use Rattle.sacn_sources.specs.Rows.{Row}
use Rattle.sacn_sources.specs.declared.plain.entries.PlainEntry.{PlainEntry}
use Rattle.sacn_sources.specs.declared.limits.TheConstants.{MAX_SOURCES}

abbrev pub plain_row : PlainEntry → Row
plain_row e = record {
  source = e.cid;
  sequence_number = e.sequence_number;
  shown = option_map (λ priority. record { priority = priority; levels = e.levels }) e.priority;
  moment = e.moment;
}

abbrev pub plain_rows : List PlainEntry → List Row
plain_rows es = map plain_row es

-- of two entries the earlier has the smaller CID
abbrev pub PrecedesByCid : PlainEntry → PlainEntry → Type 0
PrecedesByCid a b = order a.cid b.cid ≡ Less

pub record AreOrdered (es : List PlainEntry) : Type 0 where
  pub rising : AllPairs PrecedesByCid es
  pub within : length es ≤ MAX_SOURCES
