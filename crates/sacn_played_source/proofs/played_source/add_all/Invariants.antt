use Rattle.std.proofs.Common.{◌≡◌, drop}
use Rattle.sacn_played_source.specs.Played.{add_all, after_adds}
use Rattle.sacn_played_source.proofs.played_source.add_all.Given as goal

-- what becomes of the rest is what becomes of all
abbrev pub invariant-loop-universe : goal.invariant-loop-universe
invariant-loop-universe l = record {
  answer : add_all (drop l.universe-index l.universes) l.source ≡ add_all l.universes l.initial.source;
  source : after_adds (drop l.universe-index l.universes) l.source ≡ after_adds l.universes l.initial.source;
}
