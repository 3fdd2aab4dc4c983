-- What a watch hears, and what its watcher is handed. Lists of turns, receives and calls have the latest first.
use Rattle.std.specs.Prelude.{◌≡◌, ℕ, ◌<◌, ◌≤◌, ◌-◌, ◌^◌, ◌⊎◌, ⊤, true, List, [], ◌∷◌, ◌++◌, length, map}
use Rattle.sacn_machine.specs.Hearings.{Hearing, Came, None_there, From, Broken, all_heard, ends_with_datagram}
use Rattle.sacn_machine.specs.declared.limits.TheConstants.{MAX_BURST}
use Rattle.sacn_monitor.specs.declared.account.Endpoint.{Endpoint}
use Rattle.sacn_monitor.specs.Histories.{Call, Take, Tick}

-- a receive, and the UDP port that a datagram came from
pub record Receive : Type 0 where
  pub hearing : Hearing
  pub port : ℕ

-- what the receives of a turn brought
abbrev pub heard_in : List Receive → List Hearing
heard_in rs = map (λ (r : Receive). r.hearing) rs

-- what those of all turns brought, in the order of the calls
abbrev pub heard_by : List (List Receive) → List Hearing
heard_by turns = all_heard (map heard_in turns)

-- ---- the clock

-- the latest reading, after one at which a turn began
abbrev pub reading_after : ℕ → List Receive → ℕ
reading_after start [] = start
reading_after start (r ∷ rs) = r.hearing.now

abbrev pub reading_by : List (List Receive) → ℕ
reading_by [] = 0
reading_by (rs ∷ turns) = reading_after (reading_by turns) rs

-- ---- what the watcher is handed

-- a datagram, at the reading just before it came; nothing else
abbrev pub calls_for : ℕ → ℕ → Came → List Call
calls_for now port None_there = []
calls_for now port (From address octets) = Take now (record { address = address; port = port }) octets ∷ []
calls_for now port Broken = []

abbrev pub calls_in : List Receive → List Call
calls_in [] = []
calls_in (r ∷ rs) = calls_for r.hearing.now r.port r.hearing.came ++ calls_in rs

-- in each turn the datagrams that it brought, and then its latest reading
abbrev pub calls_by : List (List Receive) → List Call
calls_by [] = []
calls_by (rs ∷ turns) = Tick (reading_by (rs ∷ turns)) ∷ (calls_in rs ++ calls_by turns)

-- ---- where a watch ends

-- a turn takes all that waits: it ends where no datagram is there any more, or at the greatest number of receives
abbrev pub TakesAll : List Hearing → Type 0
TakesAll hs = ends_with_datagram hs ≡ true → length hs ≡ MAX_BURST

-- each turn takes all that waits, and ended before the moment
abbrev pub AreBefore : ℕ → List (List Receive) → Type 0
AreBefore until [] = ⊤
AreBefore until (rs ∷ turns) = (reading_by (rs ∷ turns) < until) × TakesAll (heard_in rs) × AreBefore until turns

-- the last turn is the first that ends at the moment or after it, or its listener has ended; or there were as many turns as 64 bits count
abbrev pub IsWatch : ℕ → Type 0 → List (List Receive) → Type 0
IsWatch until Ended [] = ⊥
IsWatch until Ended (rs ∷ turns) =
    AreBefore until turns × TakesAll (heard_in rs)
    × ((until ≤ reading_by (rs ∷ turns)) ⊎ (Ended ⊎ (length (rs ∷ turns) ≡ 2 ^ 64 - 1)))
