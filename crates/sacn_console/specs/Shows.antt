-- A show as its values.
use Rattle.std.specs.Prelude.{◌≡◌, ℕ, ◌≤◌, true, List, length}
use Rattle.std.specs.List.{AllByRecursion}
use Rattle.std.specs.List.Sorted.{IsStrictlyIncreasing}
use Rattle.sacn_patch.specs.Patch.{Patched}
use Rattle.sacn_packets.specs.Universe.{IsUniverse, IsPriority}
use Rattle.sacn_cues.specs.Cues.{Cues}
use Rattle.sacn_packets.specs.Naming.{is_nameable}
use Rattle.sacn_console.specs.declared.limits.TheConstants.{CONSOLE_UNIVERSES, MAX_DESTINATIONS}

pub record ShowContent : Type 0 where
  pub cid : List ℕ
  -- the text, without NUL
  pub name : List ℕ
  pub priority : ℕ
  pub universes : List ℕ
  pub send_to : List ℕ
  pub cues : Cues
  pub patch : Patched

-- what holds of the universes of each show
pub record AreUniverses (us : List ℕ) : Type 0 where
  pub ascending : IsStrictlyIncreasing us
  pub universes : AllByRecursion IsUniverse us
  pub few : length us ≤ CONSOLE_UNIVERSES

-- what holds of each show
pub record ShowOk (s : ShowContent) : Type 0 where
  pub name : is_nameable s.name ≡ true
  pub priority : IsPriority s.priority
  pub ascending : IsStrictlyIncreasing s.universes
  pub universes : AllByRecursion IsUniverse s.universes
  pub few : length s.universes ≤ CONSOLE_UNIVERSES
  pub destinations : length s.send_to ≤ MAX_DESTINATIONS
