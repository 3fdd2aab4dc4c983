use Rattle.std.proofs.Common.{◌≡◌, drop}
use Rattle.sacn_slots.specs.SlotTables.{priorities_given}
use Rattle.sacn_slots.proofs.given.priorities_given.Given as goal

-- none of those so far is of the source
abbrev pub invariant-loop-given : goal.invariant-loop-given
invariant-loop-given l = priorities_given l.cid l.given-items ≡ priorities_given l.cid (drop l.given-index l.given-items)
