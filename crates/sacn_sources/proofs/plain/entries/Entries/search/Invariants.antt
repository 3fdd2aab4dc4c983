use Rattle.std.proofs.Common.{◌≡◌, ℕ, ◌-◌, ◌<◌, ◌≤◌, length, get_or}
use Rattle.std.specs.declared.cmp.Ordering.TheVariants.{Greater}
use Rattle.sacn_sources.specs.declared.plain.entries.PlainEntry.{PlainEntry}
use Rattle.sacn_sources.specs.Order.{order}
use Rattle.sacn_sources.proofs.plain.entries.Entries.search.Given as goal

-- the entries so far are of smaller CIDs
abbrev pub invariant-loop-at : goal.invariant-loop-at
invariant-loop-at l = record {
  within : l.at ≤ length l.self-inside.items.items;
  before : (j : ℕ) (d : PlainEntry) → j < l.at → order l.cid (get_or l.self-inside.items.items j d).cid ≡ Greater;
}

abbrev pub decreases-loop-at : goal.decreases-loop-at
decreases-loop-at l = length l.self-inside.items.items - l.at
