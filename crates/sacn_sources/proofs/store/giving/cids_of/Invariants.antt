use Rattle.std.proofs.Common.{◌≡◌, map, take}
use Rattle.sacn_sources.proofs.store.giving.cids_of.Given as goal

-- the CIDs of the entries so far
abbrev pub invariant-loop-entry : goal.invariant-loop-entry
invariant-loop-entry l = record {
  so_far : l.cids.items ≡ map (λ e. e.cid) (take l.entry-index l.entries);
}
