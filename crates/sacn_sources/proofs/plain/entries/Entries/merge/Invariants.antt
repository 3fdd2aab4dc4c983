use Rattle.std.proofs.Common.{◌≡◌, ◌≤◌, length, map, take}
use Rattle.std.specs.List.{filter_map}
use Rattle.sacn_sources.specs.Layers.{shown_of}
use Rattle.sacn_sources.specs.PlainStorage.{plain_row}
use Rattle.sacn_sources.specs.declared.limits.TheConstants.{MAX_SOURCES}
use Rattle.sacn_sources.proofs.plain.entries.Entries.merge.Given as goal

-- the layers so far are what the entries so far show
abbrev pub invariant-loop-entry : goal.invariant-loop-entry
invariant-loop-entry l = record {
  room : length l.layers ≡ MAX_SOURCES;
  few : l.count ≤ l.entry-index;
  shown : map shown_of (take l.count l.layers) ≡ filter_map (λ e. (plain_row e).shown) (take l.entry-index l.entries);
}
