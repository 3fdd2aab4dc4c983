-- What the moments of a playhead are to one another.
use Rattle.std.specs.Prelude.{◌≡◌, ℕ, ◌≤◌, false}
use Rattle.sacn_replay.specs.declared.head.Playhead.{Playhead}
use Rattle.sacn_replay.specs.Heads.{last_moment, played, due, paused, going, at_speed, played_from}

-- A record is due exactly from the reading on at which its moment is played.
abbrev pub DueWhenPlayed : Type 0
DueWhenPlayed = (h : Playhead) (moment : ℕ) → h.is_paused ≡ false → 1 ≤ h.speed → h.began ≤ h.clock → moment ≤ last_moment
    → (due moment h ≤ h.clock → moment ≤ played h) × (moment ≤ played h → due moment h ≤ h.clock)

-- An order keeps the moment that is played, and a seek plays its own.
abbrev pub OrdersKeepTheMoment : Type 0
OrdersKeepTheMoment = (h : Playhead) (moment speed : ℕ) → h.from ≤ last_moment → moment ≤ last_moment
    → (played (paused h) ≡ played h) × (played (going h) ≡ played h) × (played (at_speed speed h) ≡ played h) × (played (played_from moment h) ≡ moment)
