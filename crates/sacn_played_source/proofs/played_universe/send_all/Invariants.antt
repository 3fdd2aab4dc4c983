use Rattle.std.proofs.Common.{◌≡◌, ◌++◌, map, take, drop}
use Rattle.sacn_played_source.specs.Universes.{merged, all_sent}
use Rattle.sacn_played_source.proofs.played_universe.send_all.Given as goal

-- the universes so far are merged, the rest are as they were, and sending the rest makes of the source what sending all makes
abbrev pub invariant-loop-place : goal.invariant-loop-place
invariant-loop-place l = record {
  universes : l.universes ≡ map (merged l.moment) (take l.place l.initial.universes) ++ drop l.place l.initial.universes;
  source : all_sent (map (merged l.moment) (drop l.place l.initial.universes)) l.source ≡ all_sent (map (merged l.moment) l.initial.universes) l.initial.source;
}
