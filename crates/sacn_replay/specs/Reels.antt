-- The records of a recording, as a tape has them.
use Rattle.std.specs.Prelude.{ℕ, List, [], ◌∷◌, drop, Option, None, Some}
use Rattle.sacn_replay.specs.Playing.{Recorded}

-- all records of a recording, and those that are left from the next one on
pub record Reel : Type 0 where
  pub whole : List Recorded
  pub left : List Recorded

abbrev pub next_moment : List Recorded → Option ℕ
next_moment [] = None
next_moment (r ∷ rs) = Some r.moment

abbrev pub next_octets : List Recorded → List ℕ
next_octets [] = []
next_octets (r ∷ rs) = r.datagram

-- the record behind the next one is next
abbrev pub passed : Reel → Reel
passed reel = record reel { left = drop 1 reel.left }

-- the first record is next
abbrev pub at_first : Reel → Reel
at_first reel = record reel { left = reel.whole }
