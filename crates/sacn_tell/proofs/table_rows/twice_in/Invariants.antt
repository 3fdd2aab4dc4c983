use Rattle.std.proofs.Common.{◌≡◌, take}
use Rattle.sacn_tell.specs.Twice.{twice_in}
use Rattle.sacn_tell.proofs.table_rows.twice_in.Given as goal

-- the packets so far
abbrev pub invariant-loop-stream : goal.invariant-loop-stream
invariant-loop-stream l = l.count ≡ twice_in l.options.universes.now (take l.stream-index l.streams)
