-- What an audit of a network keeps over any packets, data packets and pages of universe discovery: a list of them, the
-- latest first.
use Rattle.std.specs.Prelude.{◌≡◌, ℕ, ◌≤◌, ◌-◌, ◌⊎◌, max, nat_le, Bool, false, not, ◌&&◌, ◌==◌, List, [], ◌∷◌, ◌++◌, length, find, Option, Some, None, if◌then◌else◌}
use Rattle.std.specs.Option.{option_map}
use Rattle.std.specs.Str.{bytes_eq}
use Rattle.sacn_packets.specs.Data.{Data}
use Rattle.sacn_packets.specs.Page.{Page}
use Rattle.sacn_sources.specs.declared.limits.TheConstants.{NETWORK_DATA_LOSS}
use Rattle.sacn_audit.specs.declared.limits.TheConstants.{MAX_STREAMS}
use Rattle.sacn_audit.specs.declared.delivery.Delivery.{Delivery}
use Rattle.sacn_audit.specs.declared.audit.StreamAudit.{StreamAudit}
use Rattle.sacn_audit.specs.declared.breach.Breach.{Breach}
use Rattle.sacn_audit.specs.declared.page_verdict.PageVerdict.{PageVerdict}
use Rattle.sacn_audit.specs.declared.source.SourceAudit.{SourceAudit}
use Rattle.sacn_audit.specs.declared.stream_register.AuditedStream.{AuditedStream}
use Rattle.sacn_audit.specs.Arrivals.{Arrival}
use Rattle.sacn_audit.specs.Breaches.{breach_by, no_breach}
use Rattle.sacn_audit.specs.Histories.{audit_by}
use Rattle.sacn_audit.specs.Networks.{Network, after_heard, after_page, first_heard, first_source, is_from, is_of, nothing_heard, source_after, source_after_page}

-- what a source sends: a data packet, or a page of its list of universes
pub data SourcePacket : Type 0 where
  SentData : Data → SourcePacket
  SentPage : Page → SourcePacket

-- the CID of its source
abbrev pub sender_of : SourcePacket → List ℕ
sender_of (SentData d) = d.cid
sender_of (SentPage p) = p.cid

-- a packet, when it came, from which IPv4 address, and what came with it
pub record Heard : Type 0 where
  pub moment : ℕ
  pub address : List ℕ
  pub delivery : Delivery
  pub packet : SourcePacket

-- what the contracts of the calls say
abbrev pub with_packet : ℕ → List ℕ → Delivery → SourcePacket → Network → Network
with_packet t address delivery (SentData d) n = after_heard t address delivery d n
with_packet t address delivery (SentPage p) n = after_page t address p n

abbrev pub after_all : List Heard → Network
after_all [] = nothing_heard
after_all (x ∷ earlier) = with_packet x.moment x.address x.delivery x.packet (after_all earlier)

-- ---- a stream

abbrev pub is_on : ℕ → List ℕ → Data → Bool
is_on universe cid d = (d.universe == universe) && bytes_eq d.cid cid

-- a data packet of this source on this universe; no page is one
abbrev pub arrival_of : ℕ → List ℕ → ℕ → Delivery → SourcePacket → List Arrival
arrival_of universe cid t delivery (SentData d) =
    if is_on universe cid d then record { moment = t; delivery = delivery; packet = d } ∷ [] else []
arrival_of universe cid t delivery (SentPage p) = []

-- the data packets of this source on this universe
abbrev pub arrivals : ℕ → List ℕ → List Heard → List Arrival
arrivals universe cid [] = []
arrivals universe cid (x ∷ earlier) =
    arrival_of universe cid x.moment x.delivery x.packet ++ arrivals universe cid earlier

-- its audit that is kept
abbrev pub audit_in : ℕ → List ℕ → List AuditedStream → Option StreamAudit
audit_in universe cid ss = option_map (λ s. s.audit) (find (is_of universe cid) ss)

-- After any packets the audit of a stream is that of its own packets, whatever else came; or it has none, and there is no room
-- for a further one.
abbrev pub AuditsAreOfTheirPackets : Type 0
AuditsAreOfTheirPackets = (xs : List Heard) (universe : ℕ) (cid : List ℕ) →
    (audit_in universe cid (after_all xs).streams ≡ audit_by (arrivals universe cid xs))
    ⊎ ((audit_in universe cid (after_all xs).streams ≡ None) × (MAX_STREAMS ≤ length (after_all xs).streams))

-- ---- a source

-- the packets and the pages of this source
abbrev pub packets_from : List ℕ → List Heard → List Heard
packets_from cid [] = []
packets_from cid (x ∷ earlier) =
    if bytes_eq (sender_of x.packet) cid then x ∷ packets_from cid earlier else packets_from cid earlier

-- a page by itself, beside no streams
abbrev pub unjudged : PageVerdict
unjudged = record { lacks_universe = false; has_unheard = false }

abbrev pub source_with_packet : ℕ → List ℕ → SourcePacket → Option SourceAudit → SourceAudit
source_with_packet t address (SentData d) None = first_source t address d
source_with_packet t address (SentData d) (Some s) = source_after t address d s
source_with_packet t address (SentPage p) None = first_heard t address p.cid p.name
source_with_packet t address (SentPage p) (Some s) = source_after_page t address p unjudged s

abbrev pub source_with : Heard → Option SourceAudit → SourceAudit
source_with x o = source_with_packet x.moment x.address x.packet o

abbrev pub source_by : List Heard → Option SourceAudit
source_by [] = None
source_by (x ∷ earlier) = Some (source_with x (source_by earlier))

-- what is kept of a source but for what its pages say beside its streams (`after_page` says that, page by page)
abbrev pub by_itself : SourceAudit → SourceAudit
by_itself s = record s { pages = record s.pages { lacking = no_breach; unheard = no_breach } }

abbrev pub source_in : List ℕ → List SourceAudit → Option SourceAudit
source_in cid ss = option_map by_itself (find (is_from cid) ss)

-- After any packets the audit of a source is that of its own packets and pages; or it has none, and there is no room for
-- a further one.
abbrev pub SourcesAreOfTheirPackets : Type 0
SourcesAreOfTheirPackets = (xs : List Heard) (cid : List ℕ) →
    (source_in cid (after_all xs).sources ≡ source_by (packets_from cid xs))
    ⊎ ((source_in cid (after_all xs).sources ≡ None) × (MAX_STREAMS ≤ length (after_all xs).sources))

-- ---- one source at two addresses

-- the moment in use after these packets of a source: the greatest that was handed in
abbrev pub moment_after : List Heard → ℕ
moment_after [] = 0
moment_after (x ∷ earlier) = max x.moment (moment_after earlier)

-- the latest comes from another address than the one before it, at most 2500 ms later
abbrev pub has_two_senders : List Heard → Bool
has_two_senders [] = false
has_two_senders (x ∷ []) = false
has_two_senders (x ∷ y ∷ earlier) = not (bytes_eq y.address x.address) && nat_le (moment_after (x ∷ y ∷ earlier) - moment_after (y ∷ earlier)) NETWORK_DATA_LOSS

-- the moments at which that was so, the latest first
abbrev pub two_senders_at : List Heard → List ℕ
two_senders_at [] = []
two_senders_at (x ∷ earlier) = if has_two_senders (x ∷ earlier) then moment_after (x ∷ earlier) ∷ two_senders_at earlier else two_senders_at earlier

abbrev pub two_senders_in : Option SourceAudit → Breach
two_senders_in None = no_breach
two_senders_in (Some s) = s.two_senders

-- For any packets of a source its audit says how often it had two addresses at once, the first and the latest moment of these.
abbrev pub SendersAreOfTheirPackets : Type 0
SendersAreOfTheirPackets = (xs : List Heard) → two_senders_in (source_by xs) ≡ breach_by (two_senders_at xs)
