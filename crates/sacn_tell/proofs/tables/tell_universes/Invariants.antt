use Rattle.std.proofs.Common.{◌++◌, map, take}
use Rattle.std.specs.List.{flat_map}
use Rattle.sacn_tell.specs.declared.tables.TheConstants.{UNIVERSE_HEAD}
use Rattle.sacn_tell.specs.Tables.{each_once, head_told, universe_told}
use Rattle.sacn_tell.specs.Tellings.{Tells}
use Rattle.sacn_tell.proofs.tables.tell_universes.Given as goal

-- the rows so far
abbrev pub invariant-loop-place : goal.invariant-loop-place
invariant-loop-place g l = Tells {O = g.row.O.Denot} g.O.Write.contents l.fn.teller l.teller (head_told l.fn.teller.form UNIVERSE_HEAD.now ++ flat_map (universe_told l.fn.teller.form l.options.universes.now l.moment l.streams) (each_once (map (λ s. s.universe) (take l.place l.streams))))
