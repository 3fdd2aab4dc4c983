-- How a source numbers its packets: which numbers it loses, and which it leaves out by a rule of its own.
use Rattle.std.specs.Prelude.{◌≡◌, ◌≢◌, ℕ, ◌<◌, ◌≤◌, ◌-◌, ◌+◌, ◌*◌, ◌/◌, ◌%◌, ◌^◌, min, nat_le, nat_lt, Bool, true, false, not, ◌&&◌, ◌||◌, ◌==◌, Option, Some, None, if◌then◌else◌}
use Rattle.sacn_monitor.specs.declared.numbering.Numbering.{Numbering}
use Rattle.sacn_monitor.specs.declared.numbering.TheConstants.{LATE_NUMBERS, OMISSION_TURNS, OPENING_STEP}

-- how far one number lies ahead of another, in turns of 256
abbrev pub ahead_of : ℕ → ℕ → ℕ
ahead_of held arrived = (arrived + 256 - held) % 256

-- the second of two numbers seems to lie behind the first
abbrev pub goes_back : ℕ → ℕ → Bool
goes_back held arrived = nat_le 128 (ahead_of held arrived)

-- the numbers that lie between two; none where the second seems to lie behind the first
abbrev pub skipped_by : ℕ → ℕ → ℕ
skipped_by held arrived = if nat_lt (ahead_of held arrived) 128 then ahead_of held arrived - 1 else 0

-- this number is one of them
abbrev pub passes_over : ℕ → ℕ → ℕ → Bool
passes_over held arrived number = nat_lt (ahead_of held arrived) 128 && (nat_lt 0 (ahead_of held number) && nat_lt (ahead_of held number) (ahead_of held arrived))

abbrev pub first_numbering : Numbering
first_numbering = record { opens = true; left_out = 0; turns = 0 }

-- the number that comes next in turn tells nothing of it: no first packets are awaited, nor is it a number that seems to be left out
abbrev pub is_settled : ℕ → Numbering → Bool
is_settled arrived n = not n.opens && ((n.turns == 0) || not (arrived == n.left_out))

-- a stream, or numbers that begin anew, begin with two copies of a packet, the second of which is so far ahead
abbrev pub begins : ℕ → ℕ → Numbering → Bool
begins held arrived n = n.opens && (ahead_of held arrived == OPENING_STEP)

-- a step passes over one number alone, where none is known that may be left out
abbrev pub meets_one : ℕ → ℕ → Numbering → Bool
meets_one held arrived n = (n.turns == 0) && (skipped_by held arrived == 1)

-- the turns in a row that left out the number of n, after a step; none where no number is known
abbrev pub turns_after : ℕ → ℕ → Numbering → ℕ
turns_after held arrived n =
    if n.turns == 0 then 0
    else if passes_over held arrived n.left_out then min (n.turns + 1) OMISSION_TURNS
    else if arrived == n.left_out then 0 else n.turns

-- what is known after a step: one number alone that a step passes over may be one that is left out
abbrev pub numbering_after : ℕ → ℕ → Numbering → Numbering
numbering_after held arrived n = record {
  opens = goes_back held arrived;
  left_out = if meets_one held arrived n then (held + 1) % 256 else n.left_out;
  turns = if meets_one held arrived n then 1 else turns_after held arrived n;
}

-- by a step the source is known to leave out a number that the step passes over
abbrev pub leaves_out_in : ℕ → ℕ → Numbering → Bool
leaves_out_in held arrived n = (n.turns == OMISSION_TURNS) && passes_over held arrived n.left_out

-- the packets that a step lost
abbrev pub lost_in : ℕ → ℕ → Numbering → ℕ
lost_in held arrived n =
    if begins held arrived n then 0
    else if leaves_out_in held arrived (numbering_after held arrived n) then skipped_by held arrived - 1
    else skipped_by held arrived

-- the number that a source is known to leave out from a step on
abbrev pub omission_in : Numbering → Numbering → Option ℕ
omission_in before after = if nat_lt before.turns OMISSION_TURNS && (after.turns == OMISSION_TURNS) then Some after.left_out else None

-- ---- what is missing behind the latest taken number, as the digits of a word of 32 bits

-- a digit of that word: it is 1 where the number so far behind was counted as lost, and didn't come since
abbrev pub digit : ℕ → ℕ
digit behind = 2 ^ behind % 2 ^ 32

-- the word so many numbers further, where those in between are lost or not
abbrev pub further : Bool → ℕ → ℕ → ℕ
further lost ahead word =
    if nat_le 32 ahead then (if lost then 2 ^ 32 - 2 else 0)
    else (word * 2 ^ ahead % 2 ^ 32 + (if lost then digit ahead - 2 else 0)) % 2 ^ 32

-- a number is missing that lies less than twenty behind, as a packet out of sequence does (E1.31, 6.7.2)
abbrev pub is_missing : ℕ → ℕ → Bool
is_missing behind word = nat_lt behind LATE_NUMBERS && (word / 2 ^ behind % 2 == 1)

-- the source is known to leave out this number
abbrev pub is_left_out : ℕ → Numbering → Bool
is_left_out number n = (n.turns == OMISSION_TURNS) && (n.left_out == number)

-- ---- laws

-- the number after this one, by a source that leaves out one
abbrev pub next_without : ℕ → ℕ → ℕ
next_without number held = if (held + 1) % 256 == number then (held + 2) % 256 else (held + 1) % 256

-- Once a source is known to leave out a number, it loses nothing as long as it counts so, and stays known.
abbrev pub AnOmissionIsNoLoss : Type 0
AnOmissionIsNoLoss = (number held : ℕ) (n : Numbering) → number < 256 → held < 256 → held ≢ number → n.left_out ≡ number → n.turns ≡ OMISSION_TURNS
    → (lost_in held (next_without number held) n ≡ 0)
    × (numbering_after held (next_without number held) n ≡ record { opens = false; left_out = number; turns = OMISSION_TURNS })

-- What else a step passes over is lost: all of it, but for one number that the source is known to leave out.
abbrev pub ALossBesideIsCounted : Type 0
ALossBesideIsCounted = (held arrived : ℕ) (n : Numbering) → begins held arrived n ≡ false → skipped_by held arrived ≤ lost_in held arrived n + 1
