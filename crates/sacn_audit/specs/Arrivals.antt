-- The packets of one stream, those of one source on one universe: a list, the latest first.
use Rattle.std.specs.Prelude.{◌≤◌, ℕ, ◌+◌, ◌/◌, ◌%◌, max, Bool, false, not, ◌&&◌, ◌==◌, List, [], ◌∷◌, count_by, Option, Some, None, if◌then◌else◌}
use Rattle.std.specs.List.{prefix_len}
use Rattle.std.specs.Str.{bytes_eq}
use Rattle.sacn_packets.specs.Data.{Data}
use Rattle.sacn_audit.specs.declared.delivery.Delivery.{Delivery}

-- a packet, when it came, and what came with it
pub record Arrival : Type 0 where
  pub moment : ℕ
  pub delivery : Delivery
  pub packet : Data

-- the moment in use after these: the greatest that was handed in
abbrev pub latest_moment : List Arrival → ℕ
latest_moment [] = 0
latest_moment (x ∷ earlier) = max x.moment (latest_moment earlier)

-- these packets, each at the moment in use: none is before an earlier one
abbrev pub in_turn : List Arrival → List Arrival
in_turn [] = []
in_turn (x ∷ earlier) = record x { moment = latest_moment (x ∷ earlier) } ∷ in_turn earlier

-- none is before an earlier one
abbrev pub IsInOrder : List Arrival → Type 0
IsInOrder [] = Unit {0}
IsInOrder (x ∷ earlier) = (latest_moment earlier ≤ x.moment) × IsInOrder earlier

-- the whole second of the clock that a moment in milliseconds is in
abbrev pub second_of : ℕ → ℕ
second_of t = t / 1000

-- how many came in the second that is so many before this one
abbrev pub packets_in : ℕ → ℕ → List Arrival → ℕ
packets_in before second xs = count_by (λ x. second_of x.moment + before == second) xs

-- the number after this one: they go round in turns of 256
abbrev pub number_after : ℕ → ℕ
number_after n = (n + 1) % 256

-- a packet has the number after that of another one
abbrev pub follows : Data → Data → Bool
follows earlier d = d.number == number_after earlier.number

-- a packet has the number but one after that of another one: that between them is passed over
abbrev pub passes_one : Data → Data → Bool
passes_one earlier d = d.number == number_after (number_after earlier.number)

-- a packet comes right after another one, and both have levels of a stream that goes on: nothing was lost in between
abbrev pub goes_on : Data → Data → Bool
goes_on earlier d = follows earlier d && not earlier.terminated && (earlier.start == 0) && (d.start == 0)

-- the moment of the latest packet with levels, where nothing was lost since, and the stream didn't end
abbrev pub latest_levels : List Arrival → Option ℕ
latest_levels [] = None
latest_levels (x ∷ []) = if x.packet.start == 0 then Some x.moment else None
latest_levels (x ∷ y ∷ earlier) =
    if x.packet.start == 0 then Some x.moment
    else if follows y.packet x.packet && not y.packet.terminated then latest_levels (y ∷ earlier) else None

-- the latest packet goes on with other levels than the one before it; with the same ones
abbrev pub changes : List Arrival → Bool
changes [] = false
changes (x ∷ []) = false
changes (x ∷ y ∷ earlier) = goes_on y.packet x.packet && not (bytes_eq y.packet.slots x.packet.slots)

abbrev pub repeats : List Arrival → Bool
repeats [] = false
repeats (x ∷ []) = false
repeats (x ∷ y ∷ earlier) = goes_on y.packet x.packet && bytes_eq y.packet.slots x.packet.slots

-- how many in a row, the latest and those before it, end the stream
abbrev pub ends : List Arrival → ℕ
ends xs = prefix_len (λ x. x.packet.terminated) xs

-- how many in a row, the latest and those before it, have this number
abbrev pub in_a_row : ℕ → List Arrival → ℕ
in_a_row number xs = prefix_len (λ x. x.packet.number == number) xs

-- how many turns in a row left out this number, up to the latest packet: no packet has it, and all else go up by one
abbrev pub turns_without : ℕ → List Arrival → ℕ
turns_without number [] = 0
turns_without number (x ∷ []) = 0
turns_without number (x ∷ y ∷ earlier) =
    if passes_one y.packet x.packet && (number_after y.packet.number == number) then 1 + turns_without number (y ∷ earlier)
    else if follows y.packet x.packet && not (x.packet.number == number) then turns_without number (y ∷ earlier) else 0
