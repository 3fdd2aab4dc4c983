use Rattle.std.proofs.Common.{◌≡◌, ◌≤◌, ◌-◌, ◌^◌, min, drop}
use Rattle.sacn_slots.specs.SlotWakes.{oldest_given}
use Rattle.sacn_slots.proofs.given.oldest.Given as goal

-- the least so far and the least of the rest are the least of all
abbrev pub invariant-loop-given : goal.invariant-loop-given
invariant-loop-given l = record {
  least : min l.oldest (oldest_given (drop l.given-index l.given-items)) ≡ oldest_given l.given-items;
  most : l.oldest ≤ 2 ^ 64 - 1;
}
