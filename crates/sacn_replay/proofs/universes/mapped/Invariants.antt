use Rattle.std.proofs.Common.{◌≡◌, drop}
use Rattle.sacn_replay.specs.Maps.{mapped}
use Rattle.sacn_replay.proofs.universes.mapped.Given as goal

-- the mappings that are left say it
abbrev pub invariant-loop-mapping : goal.invariant-loop-mapping
invariant-loop-mapping l = mapped (drop l.mapping-index l.mappings) l.universe ≡ mapped l.mappings l.universe
