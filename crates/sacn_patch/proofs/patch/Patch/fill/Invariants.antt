use Rattle.std.proofs.Common.{◌≡◌}
use Rattle.std.specs.Option.{ForSome}
use Rattle.sacn_patch.proofs.Fills.{written, AreOf}
use Rattle.sacn_patch.proofs.patch.Patch.fill.Given as goal

abbrev pub invariant-loop-place : goal.invariant-loop-place
invariant-loop-place g l = record {
  of : AreOf l.universe l.place-iterator;
  told : written (g.L.LevelOf.level l.levels) l.place-iterator l.slots ≡ written (g.L.LevelOf.level l.levels) l.initial.place-iterator l.initial.slots;
  asked : ForSome l.asked (λ p. p.1 ≡ g.L.LevelOf.level l.levels p.0);
}
