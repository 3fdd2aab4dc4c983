use Rattle.std.proofs.Common.{◌≡◌, ◌++◌, map, drop, option_map}
use Rattle.toml.specs.View.{view}
use Rattle.sacn_files.specs.Rows.{each}
use Rattle.sacn_files.proofs.rows.read_rows.Given as goal

-- what is found, then what the rows that are left give, is all
abbrev pub invariant-loop-row : goal.invariant-loop-row
invariant-loop-row g l =
    each (g.R.ReadRow.reads l.reader) (map view l.rows)
    ≡ option_map (λ xs. l.found.items ++ xs) (each (g.R.ReadRow.reads l.reader) (map view (drop l.row-index l.rows)))
