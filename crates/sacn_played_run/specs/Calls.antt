-- Calls of a source that plays a recording, the latest first, and what they hand over.
use Rattle.std.specs.Prelude.{ℕ, zero, suc, List, [], ◌∷◌, ◌++◌}
use Rattle.sacn_source.specs.Source.{due, at}
use Rattle.sacn_edge.specs.ConsoleSends.{octets_of}
use Rattle.sacn_played_source.specs.Played.{Played}
use Rattle.sacn_played_source.specs.Calls.{Call, Hear, Advance, Rewind, Poll, EndAll, step}

-- the source after some calls
abbrev pub after : List Call → Played → Played
after [] s = s
after (call ∷ earlier) s = step call (after earlier s)

-- what a poll hands over
abbrev pub polled : ℕ → Played → List (List ℕ)
polled now s = octets_of s.source.sender (due (at now s.source))

-- what a call hands over
abbrev pub given_at : Call → Played → List (List ℕ)
given_at (Poll now) s = polled now s
given_at (Hear moment octets) s = []
given_at (Advance moment) s = []
given_at Rewind s = []
given_at EndAll s = []

-- what some calls hand over, in their order
abbrev pub given_by : List Call → Played → List (List ℕ)
given_by [] s = []
given_by (call ∷ earlier) s = given_by earlier s ++ given_at call (after earlier s)

-- so many polls at a reading
abbrev pub polls : ℕ → ℕ → List Call
polls now zero = []
polls now (suc n) = Poll now ∷ polls now n
