use Rattle.std.proofs.Common.{◌≡◌, false, take}
use Rattle.std.specs.List.{list_any}
use Rattle.sacn_sources.proofs.PlainLayers.{lost_entry}
use Rattle.sacn_sources.proofs.plain.entries.Entries.loses_live.Given as goal

abbrev pub invariant-loop-entry : goal.invariant-loop-entry
invariant-loop-entry l = list_any (lost_entry l.moment) (take l.entry-index l.entry-items) ≡ false
