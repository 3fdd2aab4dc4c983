use Rattle.std.proofs.Common.{◌≡◌, ◌++◌, map, drop}
use Rattle.sacn_played_source.specs.Universes.{rewound}
use Rattle.sacn_played_source.proofs.played_universe.rewound.Given as goal

-- those so far, then those of the rest, are those of all
abbrev pub invariant-loop-one : goal.invariant-loop-one
invariant-loop-one l = l.list.items ++ map rewound (drop l.one-index l.universes) ≡ map rewound l.universes
