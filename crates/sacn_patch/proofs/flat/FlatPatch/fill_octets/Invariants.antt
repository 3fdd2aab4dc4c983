use Rattle.std.proofs.Common.{◌≡◌, ◌-◌, ◌≤◌, ℕ, drop, replicate}
use Rattle.sacn_patch.specs.Parts.{AreOctets}
use Rattle.sacn_patch.proofs.Fills.{written, of_universe}
use Rattle.sacn_patch.proofs.flat.FlatPatch.fill_octets.Given as goal

abbrev pub invariant-loop-place : goal.invariant-loop-place
invariant-loop-place l = record {
  least : l.start ≤ l.place;
  told : (level : ℕ → ℕ) → AreOctets level l.octets → written level (of_universe l.universe (drop l.place l.row)) l.slots ≡ written level (of_universe l.universe l.row) (replicate 512 0);
}

abbrev pub decreases-loop-place : goal.decreases-loop-place
decreases-loop-place l = l.end - l.place
