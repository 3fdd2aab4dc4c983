-- What a console hands to its link over what a clock read (profile). Lists of readings have the latest first.
use Rattle.std.specs.Prelude.{ℕ, ◌+◌, max, Bool, true, false, not, nat_le, is_ok, List, [], ◌∷◌, ◌++◌, map, length, drop, count_by, if◌then◌else◌, Option, None, Some}
use Rattle.sacn_console.specs.declared.command.Command.{Command}
use Rattle.sacn_console.specs.declared.sender.Sender.{Sender}
use Rattle.sacn_console.specs.Lines.{Datagram}
use Rattle.sacn_console.specs.Core.{Core, at, after_command, after_poll, answer, due, text}
use Rattle.sacn_edge.specs.declared.report.ConsoleReport.{ConsoleReport}

-- a script's lines: commands, each with the moment from which on it is given
abbrev pub Script : Type 0
Script = List (ℕ × Command)

-- the lines before the first whose moment is above the greatest reading
abbrev pub come : ℕ → Script → Script
come greatest [] = []
come greatest (line ∷ lines) = if nat_le line.0 greatest then line ∷ come greatest lines else []

-- the core after some lines, given at a reading
abbrev pub commanded : ℕ → Script → Core → Core
commanded now [] c = c
commanded now (line ∷ lines) c = commanded now lines (after_command now line.1 c)

-- how many of them it refuses
abbrev pub refusals : ℕ → Script → Core → ℕ
refusals now [] c = 0
refusals now (line ∷ lines) c = (if is_ok (answer line.1 (at now c)) then 0 else 1) + refusals now lines (after_command now line.1 c)

-- a script in its run: the lines that are left, and the greatest reading so far
pub record Reader : Type 0 where
  pub left : Script
  pub greatest : ℕ

-- the lines that a turn gives
abbrev pub lines_at : ℕ → Reader → Script
lines_at now r = come (max r.greatest now) r.left

abbrev pub reader_after : Script → List ℕ → Reader
reader_after script [] = record { left = script; greatest = 0 }
reader_after script (now ∷ readings) =
    let r = reader_after script readings in
    record { left = drop (length (lines_at now r)) r.left; greatest = max r.greatest now }

-- the core in a turn, once its lines are given
abbrev pub ordered : ℕ → Script → List ℕ → Core → Core
ordered now script readings c = commanded now (lines_at now (reader_after script readings)) c

-- the core after some turns: in each the lines whose moments have come are given, and then it is polled once
abbrev pub core_after : Core → Script → List ℕ → Core
core_after first script [] = first
core_after first script (now ∷ readings) = after_poll now (ordered now script readings (core_after first script readings))

abbrev pub octets_of : Sender → Option Datagram → List (List ℕ)
octets_of sender None = []
octets_of sender (Some d) = text sender d ∷ []

-- what a poll of the core hands over
abbrev pub sent_at : ℕ → Core → List (List ℕ)
sent_at now c = octets_of c.sender (due (at now c))

-- the datagrams that are handed over, in their order: what each turn's poll gives
abbrev pub console_sends : Core → Script → List ℕ → List (List ℕ)
console_sends first script [] = []
console_sends first script (now ∷ readings) =
    console_sends first script readings ++ sent_at now (ordered now script readings (core_after first script readings))

-- how many commands the core refuses
abbrev pub refused_by : Core → Script → List ℕ → ℕ
refused_by first script [] = 0
refused_by first script (now ∷ readings) =
    refused_by first script readings + refusals now (lines_at now (reader_after script readings)) (core_after first script readings)

-- the readings in their order
abbrev pub in_order : List ℕ → List ℕ
in_order [] = []
in_order (now ∷ readings) = in_order readings ++ now ∷ []

-- what a console's link is handed: each datagram with the answer
abbrev pub Handed : Type 0
Handed = List (List ℕ × Bool)

abbrev pub datagrams : Handed → List (List ℕ)
datagrams hs = map (λ (h : List ℕ × Bool). h.0) hs

-- the sends that succeeded, those that failed, and the commands refused
abbrev pub sends_report : Handed → ℕ → ConsoleReport
sends_report hs refused = record {
  sent = count_by (λ (h : List ℕ × Bool). h.1) hs;
  failed = count_by (λ (h : List ℕ × Bool). not h.1) hs;
  refused = refused;
}

-- what one poll hands over, where the send answers so
abbrev pub handed_of : List (List ℕ) → Option Bool → Handed
handed_of os None = []
handed_of os (Some sent) = map (λ (o : List ℕ). let h : List ℕ × Bool = (o, sent) in h) os

-- the report after a send that answers so, if one was made
abbrev pub counted_send : Option Bool → ConsoleReport → ConsoleReport
counted_send None r = r
counted_send (Some true) r = record { sent = r.sent + 1; failed = r.failed; refused = r.refused }
counted_send (Some false) r = record { sent = r.sent; failed = r.failed + 1; refused = r.refused }
