use Rattle.std.proofs.Common.{◌≡◌, ◌≤◌, length, map, take}
use Rattle.std.specs.List.{filter_map}
use Rattle.sacn_sources.specs.Layers.{shown_of}
use Rattle.sacn_sources.specs.Storage.{row_in}
use Rattle.sacn_sources.proofs.store.Store.merge_few.Given as goal

-- the layers so far are what the entries so far show
abbrev pub invariant-loop-entry : goal.invariant-loop-entry
invariant-loop-entry l = record {
  room : length l.layers ≡ length l.initial.layers;
  few : l.count ≤ l.entry-index;
  shown : map shown_of (take l.count l.layers) ≡ filter_map (λ e. (row_in l.self-inside.frames e).shown) (take l.entry-index l.self-inside.entries.items);
}
