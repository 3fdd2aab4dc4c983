use Rattle.std.proofs.Common.{◌≡◌, take}
use Rattle.sacn_sources.proofs.store.copying.same_entries.Given as goal

-- the entries so far
abbrev pub invariant-loop-entry : goal.invariant-loop-entry
invariant-loop-entry l = record {
  so_far : l.same.items ≡ take l.entry-index l.entries;
}
