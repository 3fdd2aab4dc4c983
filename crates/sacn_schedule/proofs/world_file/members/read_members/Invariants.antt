use Rattle.std.proofs.Common.{◌≡◌, map, drop}
use Rattle.toml.specs.View.{view}
use Rattle.sacn_files.specs.Lines.{after_entries}
use Rattle.sacn_schedule.specs.WorldFile.{each_from}
use Rattle.sacn_schedule.proofs.world_file.members.read_members.Given as goal

-- what is found, then what the rows that are left give, is all
abbrev pub invariant-loop-i : goal.invariant-loop-i
invariant-loop-i g l =
    each_from (g.R.ReadMember.reads l.reader) 0 (map view l.rows)
    ≡ after_entries l.found.items (each_from (g.R.ReadMember.reads l.reader) l.i (map view (drop l.i l.rows)))
