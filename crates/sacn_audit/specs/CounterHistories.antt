-- One counter for several universes (E1.31, 6.2.5 and 6.7), over the packets and pages of a source: a list, the latest
-- first.
use Rattle.std.specs.Prelude.{◌≡◌, ℕ, ◌+◌, nat_lt, Bool, false, not, ◌&&◌, ◌==◌, List, [], ◌∷◌, Option, Some, None}
use Rattle.std.specs.Prelude.{if◌then◌else◌}
use Rattle.sacn_packets.specs.Data.{Data}
use Rattle.sacn_audit.specs.declared.breach.Breach.{Breach}
use Rattle.sacn_audit.specs.declared.source.SourceAudit.{SourceAudit}
use Rattle.sacn_audit.specs.Arrivals.{follows}
use Rattle.sacn_audit.specs.Breaches.{breach_by, no_breach}
use Rattle.sacn_audit.specs.NetworkHistories.{Heard, SourcePacket, SentData, SentPage, moment_after, source_by}
use Rattle.sacn_audit.specs.ListHistories.{is_page}

-- the latest data packet, where there is one: pages are passed over
abbrev pub data_with : SourcePacket → Option Data → Option Data
data_with (SentData d) before = Some d
data_with (SentPage p) before = before

abbrev pub latest_data : List Heard → Option Data
latest_data [] = None
latest_data (x ∷ earlier) = data_with x.packet (latest_data earlier)

-- a data packet is on another universe than the one before it, and has the number after that one's
abbrev pub counts_on : Data → Option Data → Bool
counts_on d None = false
counts_on d (Some before) = not (d.universe == before.universe) && follows before d

-- how many data packets in a row, the latest and those before it, count on so
abbrev pub counted_with : SourcePacket → Option Data → ℕ → ℕ
counted_with (SentData d) before n = if counts_on d before then 1 + n else 0
counted_with (SentPage p) before n = n

abbrev pub counted_on : List Heard → ℕ
counted_on [] = 0
counted_on (x ∷ earlier) = counted_with x.packet (latest_data earlier) (counted_on earlier)

-- the latest is a data packet, the eighth in a row that does so, or a further one
abbrev pub shares_counter : List Heard → Bool
shares_counter [] = false
shares_counter (x ∷ earlier) = not (is_page x.packet) && nat_lt 7 (counted_on (x ∷ earlier))

-- the moments at which that was so, the latest first
abbrev pub one_counter_at : List Heard → List ℕ
one_counter_at [] = []
one_counter_at (x ∷ earlier) =
    if shares_counter (x ∷ earlier) then moment_after (x ∷ earlier) ∷ one_counter_at earlier else one_counter_at earlier

abbrev pub one_counter_in : Option SourceAudit → Breach
one_counter_in None = no_breach
one_counter_in (Some s) = s.one_counter

-- For any packets and pages of a source its audit says how often its universes had one counter, the first and the latest
-- moment of these.
abbrev pub CountersAreOfTheirPackets : Type 0
CountersAreOfTheirPackets = (xs : List Heard) → one_counter_in (source_by xs) ≡ breach_by (one_counter_at xs)
