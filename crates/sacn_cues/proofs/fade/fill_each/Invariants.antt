use Rattle.std.proofs.Common.{◌≡◌, ℕ, ◌<◌, ◌*◌, ◌/◌, length, get_or}
use Rattle.sacn_cues.specs.declared.limits.TheConstants.{FULL}
use Rattle.sacn_cues.specs.declared.level_octets.TheConstants.{OCTETS}
use Rattle.sacn_cues.specs.Levels.{Ramp, level_in}
use Rattle.sacn_cues.specs.LevelOctets.{HasLevel}
use Rattle.sacn_cues.proofs.fade.fill_each.Given as goal

abbrev pub invariant-loop-at : goal.invariant-loop-at
invariant-loop-at g l = record {
  long : length l.octets ≡ OCTETS;
  before : (k : ℕ) → k < 2 → get_or l.octets k 0 ≡ get_or l.initial.octets k 0;
  filled : (i : ℕ) (blank : Ramp) → i < l.at → HasLevel l.octets i (level_in (get_or l.fades i blank) l.now * l.master / FULL);
}
