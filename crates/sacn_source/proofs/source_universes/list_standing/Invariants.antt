use Rattle.std.proofs.Common.{◌≡◌, ◌≤◌, ◌++◌, drop}
use Rattle.arrayvec.specs.ArrayVec.{array_vec_len}
use Rattle.sacn_source.specs.Table.{standing}
use Rattle.sacn_source.proofs.source_universes.list_standing.Given as goal

abbrev pub invariant-loop-place : goal.invariant-loop-place
invariant-loop-place l = (l.listed.items ++ standing (drop l.place l.rows) ≡ standing l.rows) × (array_vec_len l.listed ≤ l.place)
