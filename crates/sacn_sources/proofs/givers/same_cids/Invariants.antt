use Rattle.std.proofs.Common.{◌≡◌, take}
use Rattle.sacn_sources.proofs.givers.same_cids.Given as goal

-- the CIDs so far
abbrev pub invariant-loop-cid : goal.invariant-loop-cid
invariant-loop-cid l = record {
  so_far : l.same.items ≡ take l.cid-index l.cids;
}
