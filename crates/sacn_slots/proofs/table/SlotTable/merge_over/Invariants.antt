use Rattle.std.proofs.Common.{◌≡◌, ◌≤◌, length, map, take}
use Rattle.std.specs.List.{filter_map}
use Rattle.sacn_sources.specs.declared.limits.TheConstants.{MAX_SOURCES}
use Rattle.sacn_slots.specs.SlotLayers.{member_of}
use Rattle.sacn_slots.specs.SlotTables.{member_at}
use Rattle.sacn_slots.proofs.table.SlotTable.merge_over.Given as goal

-- the layers so far are what the sources so far show
abbrev pub invariant-loop-place : goal.invariant-loop-place
invariant-loop-place l = record {
  room : length l.layers ≡ MAX_SOURCES;
  few : l.count ≤ l.place;
  shown : map member_of (take l.count l.layers) ≡ filter_map (member_at l.self.given) (take l.place l.self.sources.table.rows);
}
