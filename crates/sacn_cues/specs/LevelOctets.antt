-- Levels that a player keeps of its moment, so that one that is asked for costs a look.
use Rattle.std.specs.Prelude.{◌≡◌, ℕ, ◌<◌, ◌≤◌, ◌+◌, ◌*◌, ◌/◌, ◌%◌, List, length, get_or, set, true}
use Rattle.std.specs.Option.{ForSome}
use Rattle.sacn_patch.specs.Parts.{AreOctets}
use Rattle.sacn_cues.specs.declared.level_octets.TheConstants.{OCTETS}
use Rattle.sacn_cues.specs.declared.level_octets.LevelOctets.{LevelOctets}
use Rattle.sacn_patch.specs.declared.limits.TheConstants.{MAX_CHANNELS}
use Rattle.sacn_cues.specs.declared.limits.TheConstants.{FULL}
use Rattle.sacn_cues.specs.Levels.{Ramp, level_in}
use Rattle.sacn_cues.specs.Playing.{Played, level_mastered}

-- the octets of the level of channel i + 1 stand in their places
abbrev pub HasLevel : List ℕ → ℕ → ℕ → Type 0
HasLevel octets i level = (get_or octets (2 * i + 2) 0 ≡ level / 256) × (get_or octets (2 * i + 3) 0 ≡ level % 256)

-- the octets with those of the level of channel i + 1 in their places
abbrev pub IsPut : List ℕ → ℕ → ℕ → List ℕ → Type 0
IsPut octets i level new = new ≡ set (set octets (2 * i + 2) (level / 256)) (2 * i + 3) (level % 256)

-- before those of channel 1 stands 0
abbrev pub IsBlankBefore : List ℕ → Type 0
IsBlankBefore octets = (k : ℕ) → k < 2 → get_or octets k 0 ≡ 0

-- each that is listed at a place from the first on and below the second is a channel, counted from 0
abbrev pub AreChannels : List ℕ → ℕ → ℕ → Type 0
AreChannels list from to = (k : ℕ) → from ≤ k → k < to → get_or list k 0 < MAX_CHANNELS

-- the channel stands at none of these places
abbrev pub IsAbsent : List ℕ → ℕ → ℕ → ℕ → Type 0
IsAbsent list from to i = (k : ℕ) → from ≤ k → k < to → get_or list k 0 ≡ i → ⊥

-- the octets of channel i + 1 are those of its level after the master at this moment and at each later one
abbrev pub IsSettled : List ℕ → List Ramp → ℕ → ℕ → ℕ → Type 0
IsSettled octets fades master now i = (later : ℕ) (blank : Ramp) → now ≤ later → HasLevel octets i (level_in (get_or fades i blank) later * master / FULL)

-- the first so many of the list are channels, and each channel that isn't among them has settled
abbrev pub IsKept : List ℕ → List ℕ → ℕ → List Ramp → ℕ → ℕ → Type 0
IsKept octets moving count fades master now = (count ≤ MAX_CHANNELS) × AreChannels moving 0 count × ((i : ℕ) → i < MAX_CHANNELS → IsAbsent moving 0 count i → IsSettled octets fades master now i)

-- there is room for each channel, twice; where the octets are ready they are those of the player's levels after the master,
-- and where channels are listed the others have settled
abbrev pub IsRight : LevelOctets → Played → Type 0
IsRight shown p = (length shown.octets.items ≡ OCTETS) × IsBlankBefore shown.octets.items × (shown.is_ready ≡ true → AreOctets (level_mastered p) shown.octets.items) × (length shown.moving.items ≡ MAX_CHANNELS) × ForSome shown.listed (λ count. IsKept shown.octets.items shown.moving.items count p.fades p.master p.moment)
