use Rattle.std.proofs.Common.{◌++◌, take}
use Rattle.std.specs.List.{flat_map}
use Rattle.sacn_tell.specs.declared.tables.TheConstants.{STREAM_HEAD}
use Rattle.sacn_tell.specs.Tables.{head_told, stream_told}
use Rattle.sacn_tell.specs.Tellings.{Tells}
use Rattle.sacn_tell.proofs.tables.tell_streams.Given as goal

-- the rows so far
abbrev pub invariant-loop-stream : goal.invariant-loop-stream
invariant-loop-stream g l = Tells {O = g.row.O.Denot} g.O.Write.contents l.fn.teller l.teller (head_told l.fn.teller.form STREAM_HEAD.now ++ flat_map (stream_told l.fn.teller.form l.options.universes.now l.moment) (take l.stream-index l.streams))
