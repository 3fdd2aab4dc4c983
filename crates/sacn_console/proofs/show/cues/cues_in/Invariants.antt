use Rattle.std.proofs.Common.{◌≡◌, map, drop}
use Rattle.toml.specs.View.{view}
use Rattle.sacn_files.specs.Lines.{after_entries}
use Rattle.sacn_console.specs.ShowReading.{cues_in}
use Rattle.sacn_console.proofs.show.cues.cues_in.Given as goal

abbrev pub invariant-loop-row : goal.invariant-loop-row
invariant-loop-row l = cues_in l.version (map view l.rows) ≡ after_entries l.cues.items (cues_in l.version (map view (drop l.row-index l.rows)))
