use Rattle.std.proofs.Common.{◌≡◌, ◌≤◌, ◌-◌, ◌^◌, min, drop}
use Rattle.sacn_sources.specs.Wakes.{oldest_by, oldest_of}
use Rattle.sacn_node.proofs.tables.oldest_table.Given as goal

-- the least so far and the least of the rest are the least of all
abbrev pub invariant-loop-one : goal.invariant-loop-one
invariant-loop-one l = record {
  least : min l.oldest (oldest_by (λ o. oldest_of o.table.table.rows) (drop l.one-index l.tables)) ≡ oldest_by (λ o. oldest_of o.table.table.rows) l.tables;
  most : l.oldest ≤ 2 ^ 64 - 1;
}
