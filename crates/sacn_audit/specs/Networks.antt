-- The audits of all streams of a network, and of their sources: what a packet changes in them.
use Rattle.std.specs.Prelude.{◌≡◌, ℕ, ◌+◌, ◌-◌, ◌^◌, min, max, nat_le, nat_lt, Bool, false, not, ◌&&◌, ◌||◌, ◌==◌, List, [], Option, Some, None, if◌then◌else◌}
use Rattle.std.specs.List.{AllPairs, position}
use Rattle.std.specs.Str.{bytes_eq}
use Rattle.sacn_packets.specs.Data.{Data}
use Rattle.sacn_packets.specs.declared.root.fault.PacketFault.{PacketFault}
use Rattle.sacn_packets.specs.Page.{Page}
use Rattle.sacn_sources.specs.declared.limits.TheConstants.{NETWORK_DATA_LOSS}
use Rattle.sacn_audit.specs.declared.page_verdict.PageVerdict.{PageVerdict}
use Rattle.sacn_audit.specs.declared.delivery.Delivery.{Delivery}
use Rattle.sacn_audit.specs.declared.source.SourceAudit.{SourceAudit}
use Rattle.sacn_audit.specs.declared.refused.RefusedPackets.{RefusedPackets}
use Rattle.sacn_audit.specs.declared.stream_register.AuditedStream.{AuditedStream}
use Rattle.sacn_audit.specs.Breaches.{no_breach, noted_if}
use Rattle.sacn_audit.specs.Audits.{after_packet, first_audit}
use Rattle.sacn_audit.specs.Counters.{first_numbers, has_one_counter, numbers_after}
use Rattle.sacn_audit.specs.Refusals.{is_kept, refused_after}
use Rattle.sacn_audit.specs.Registers.{has_room, heard_at}
use Rattle.sacn_audit.specs.UniverseLists.{first_pages, pages_after, pages_beside, verdict_of}

-- ---- a stream

-- the stream of this source on this universe
abbrev pub is_of : ℕ → List ℕ → AuditedStream → Bool
is_of universe cid s = (s.universe == universe) && bytes_eq s.cid cid

abbrev pub AreDistinct : List AuditedStream → Type 0
AreDistinct ss = AllPairs (λ earlier later. is_of later.universe later.cid earlier ≡ false) ss

abbrev pub place_of : ℕ → List ℕ → List AuditedStream → Option ℕ
place_of universe cid ss = position (is_of universe cid) ss

abbrev pub first_stream : ℕ → Delivery → Data → AuditedStream
first_stream t delivery d =
    record { universe = d.universe; cid = d.cid; began = t; audit = first_audit t delivery d }

-- the source sends it since: it begins anew with a packet at t where it had ended, or was lost (E1.31, 6.7.1)
abbrev pub sent_since : ℕ → AuditedStream → ℕ
sent_since t s =
    if s.audit.latest.terminated || nat_lt NETWORK_DATA_LOSS (t - s.audit.moment) then max t s.audit.moment else s.began

abbrev pub stream_after : ℕ → Delivery → Data → AuditedStream → AuditedStream
stream_after t delivery d s = record s { began = sent_since t s; audit = after_packet t delivery d s.audit }

abbrev pub streams_after : ℕ → Delivery → Data → List AuditedStream → List AuditedStream
streams_after t delivery d ss =
    heard_at (stream_after t delivery d) (first_stream t delivery d) ss (place_of d.universe d.cid ss)

-- ---- a source, over all its universes

abbrev pub is_from : List ℕ → SourceAudit → Bool
is_from cid s = bytes_eq s.cid cid

abbrev pub AreApart : List SourceAudit → Type 0
AreApart ss = AllPairs (λ earlier later. is_from later.cid earlier ≡ false) ss

abbrev pub place_from : List ℕ → List SourceAudit → Option ℕ
place_from cid ss = position (is_from cid) ss

-- a source that is heard for the first time, by a data packet or a page
abbrev pub first_heard : ℕ → List ℕ → List ℕ → List ℕ → SourceAudit
first_heard t address cid name = record {
  cid = cid;
  name = name;
  address = address;
  first = t;
  moment = t;
  two_senders = no_breach;
  numbers = None;
  one_counter = no_breach;
  pages = first_pages t;
}

abbrev pub first_source : ℕ → List ℕ → Data → SourceAudit
first_source t address d = record (first_heard t address d.cid d.name) { numbers = Some (first_numbers d) }

-- at t a packet or page comes from another address, at most 2500 ms after the latest one
abbrev pub is_elsewhere : ℕ → List ℕ → SourceAudit → Bool
is_elsewhere t address s = not (bytes_eq s.address address) && nat_le (t - s.moment) NETWORK_DATA_LOSS

-- a data packet or a page, with this name, is heard at t
abbrev pub source_at : ℕ → List ℕ → List ℕ → SourceAudit → SourceAudit
source_at t address name s = record s {
  name = name;
  address = address;
  moment = t;
  two_senders = noted_if (is_elsewhere t address s) t s.two_senders;
}

abbrev pub source_after : ℕ → List ℕ → Data → SourceAudit → SourceAudit
source_after t address d s = record (source_at (max t s.moment) address d.name s) {
  numbers = Some (numbers_after d s.numbers);
  one_counter = noted_if (has_one_counter (numbers_after d s.numbers)) (max t s.moment) s.one_counter;
  pages = pages_beside (max t s.moment) s.moment s.pages;
}

abbrev pub source_after_page : ℕ → List ℕ → Page → PageVerdict → SourceAudit → SourceAudit
source_after_page t address p v s =
    record (source_at (max t s.moment) address p.name s) { pages = pages_after (max t s.moment) s.moment v s.pages }

abbrev pub sources_after : ℕ → List ℕ → Data → List SourceAudit → List SourceAudit
sources_after t address d ss = heard_at (source_after t address d) (first_source t address d) ss (place_from d.cid ss)

-- a source that a page shows first has no streams yet that the page could lack
abbrev pub sources_after_page : ℕ → List ℕ → Page → PageVerdict → List SourceAudit → List SourceAudit
sources_after_page t address p v ss =
    heard_at (source_after_page t address p v) (first_heard t address p.cid p.name) ss (place_from p.cid ss)

abbrev pub is_known : List ℕ → List SourceAudit → Bool
is_known cid ss = has_room ss (place_from cid ss)

-- ---- all of them

-- the streams and the sources, each in the order in which they appeared, and how many packets and pages were of none of
-- these; and so what can't be read
pub record Network : Type 0 where
  pub streams : List AuditedStream
  pub sources : List SourceAudit
  pub untracked : ℕ
  pub refused : List RefusedPackets
  pub refused_untracked : ℕ

abbrev pub nothing_heard : Network
nothing_heard = record { streams = []; sources = []; untracked = 0; refused = []; refused_untracked = 0 }

abbrev pub is_tracked : Data → List AuditedStream → Bool
is_tracked d ss = has_room ss (place_of d.universe d.cid ss)

-- how many packets and pages there was no room for, at most what 64 bits hold
abbrev pub passed_over : Bool → ℕ → ℕ
passed_over is_taken untracked = if is_taken then untracked else min (untracked + 1) (2 ^ 64 - 1)

abbrev pub after_heard : ℕ → List ℕ → Delivery → Data → Network → Network
after_heard t address delivery d n = record n {
  streams = streams_after t delivery d n.streams;
  sources = sources_after t address d n.sources;
  untracked = passed_over (is_tracked d n.streams && is_known d.cid n.sources) n.untracked;
}

-- a page changes nothing of the streams
abbrev pub after_page : ℕ → List ℕ → Page → Network → Network
after_page t address p n = record n {
  sources = sources_after_page t address p (verdict_of t p n.untracked n.streams) n.sources;
  untracked = passed_over (is_known p.cid n.sources) n.untracked;
}

-- a datagram that can't be read
abbrev pub after_refused : ℕ → List ℕ → PacketFault → Network → Network
after_refused t address fault n = record n {
  refused = refused_after t address fault n.refused;
  refused_untracked =
      if is_kept address fault n.refused then n.refused_untracked else min (n.refused_untracked + 1) (2 ^ 64 - 1);
}
