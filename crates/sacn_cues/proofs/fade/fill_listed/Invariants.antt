use Rattle.std.proofs.Common.{◌≡◌, ℕ, ◌<◌, ◌≤◌, ◌*◌, ◌/◌, length, get_or}
use Rattle.sacn_patch.specs.declared.limits.TheConstants.{MAX_CHANNELS}
use Rattle.sacn_cues.specs.declared.limits.TheConstants.{FULL}
use Rattle.sacn_cues.specs.declared.level_octets.TheConstants.{OCTETS}
use Rattle.sacn_cues.specs.Levels.{Ramp, level_in}
use Rattle.sacn_cues.specs.LevelOctets.{HasLevel, AreChannels, IsAbsent, IsSettled}
use Rattle.sacn_cues.proofs.fade.fill_listed.Given as goal

abbrev pub invariant-loop-place : goal.invariant-loop-place
invariant-loop-place g l = record {
  long : length l.octets ≡ OCTETS;
  before : (k : ℕ) → k < 2 → get_or l.octets k 0 ≡ get_or l.initial.octets k 0;
  room : length l.moving ≡ MAX_CHANNELS;
  few : l.kept ≤ l.place;
  first : AreChannels l.moving 0 l.kept;
  rest : AreChannels l.moving l.place l.count;
  filled : (i : ℕ) (blank : Ramp) → i < MAX_CHANNELS → IsAbsent l.moving l.place l.count i → HasLevel l.octets i (level_in (get_or l.fades i blank) l.now * l.master / FULL);
  settled : (i : ℕ) → i < MAX_CHANNELS → IsAbsent l.moving 0 l.kept i → IsAbsent l.moving l.place l.count i → IsSettled l.octets l.fades l.master l.now i;
}
