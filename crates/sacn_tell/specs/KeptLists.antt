-- The sources whose lists of universes are kept (E1.31, 8), and the pages of the others.
use Rattle.std.specs.Prelude.{ℕ, nat_lt, Bool, ◌||◌, Option, slice_get, List, [], ◌∷◌, ◌++◌, length, Result, Ok, Err, if◌then◌else◌}
use Rattle.std.specs.Str.{bytes_eq}
use Rattle.std.specs.List.{list_any, position}
use Rattle.std.specs.Option.{option_and_then}
use Rattle.sacn_packets.specs.declared.root.fault.PacketFault.{PacketFault}
use Rattle.sacn_packets.specs.declared.framing.packet.Packet.{Packet}
use Rattle.sacn_packets.specs.declared.framing.packet.Packet.TheVariants.{DataPacket, PagePacket, SyncPacket}
use Rattle.sacn_packets.specs.PacketReading.{reading_packet}
use Rattle.sacn_monitor.specs.Kinds.{more}
use Rattle.sacn_monitor.specs.Histories.{Call, Take, Tick}
use Rattle.sacn_discovery.specs.Collection.{State, after_expire, after_take}
use Rattle.sacn_packets.specs.Page.{Page as PageFields}
use Rattle.sacn_tell.specs.declared.listings.Listing.{Listing}
use Rattle.sacn_tell.specs.declared.listings.Listings.{Listings}
use Rattle.sacn_tell.specs.declared.listings.TheConstants.{MAX_LISTINGS}

-- the CIDs of the sources whose lists are kept, in the order of their first pages, and how many pages came of others
pub record Listed : Type 0 where
  pub sources : List (List ℕ)
  pub passed : ℕ

abbrev pub none_listed : Listed
none_listed = record { sources = []; passed = 0 }

-- of a source that isn't kept: it is from now on, where there is room, and else the page is counted
abbrev pub admitted : List ℕ → Listed → Listed
admitted cid l = if nat_lt (length l.sources) MAX_LISTINGS then record l { sources = l.sources ++ cid ∷ [] } else record l { passed = more 1 l.passed }

-- a page of a source
abbrev pub after_page : List ℕ → Listed → Listed
after_page cid l = if list_any (λ source. bytes_eq source cid) l.sources then l else admitted cid l

abbrev pub after_reading : Result Packet PacketFault → Listed → Listed
after_reading (Ok (DataPacket d)) l = l
after_reading (Ok (PagePacket p)) l = after_page p.cid l
after_reading (Ok SyncPacket) l = l
after_reading (Err fault) l = l

abbrev pub listed_with : Call → Listed → Listed
listed_with (Take now sender octets) l = after_reading (reading_packet octets) l
listed_with (Tick now) l = l

-- after these calls, the latest first
abbrev pub listed_by : List Call → Listed
listed_by [] = none_listed
listed_by (call ∷ earlier) = listed_with call (listed_by earlier)

-- a page is read where its source is kept, or there is room for it
abbrev pub is_read : List ℕ → Listed → Bool
is_read cid l = list_any (λ source. bytes_eq source cid) l.sources || nat_lt (length l.sources) MAX_LISTINGS

-- the pages that a collector has once this one came and the list of its source was asked for
abbrev pub collected : ℕ → PageFields → State → State
collected now page c = after_expire now (after_take now page c)

-- what is kept
abbrev pub listed_in : Listings → Listed
listed_in l = record { sources = l.sources.items; passed = l.passed }

-- the list at the first place whose source has this CID
abbrev pub listing_of : List ℕ → Listings → Option Listing
listing_of cid l = option_and_then (λ place. slice_get l.known.items place) (position (λ source. bytes_eq source cid) l.sources.items)
