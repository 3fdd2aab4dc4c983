-- Calls on one monitor, and what the packets of one source on one universe say of it. A history is the list of the calls so far,
-- the latest first.
use Rattle.std.specs.Prelude.{◌≡◌, ℕ, ◌≤◌, ◌⊎◌, max, ◌&&◌, ◌==◌, List, [], ◌∷◌, ◌++◌, length, find, Option, Some, None, Result, Ok, Err, if◌then◌else◌}
use Rattle.std.specs.Option.{option_map}
use Rattle.std.specs.Str.{bytes_eq}
use Rattle.sacn_packets.specs.declared.root.fault.PacketFault.{PacketFault}
use Rattle.sacn_packets.specs.Data.{Data}
use Rattle.sacn_packets.specs.declared.framing.packet.Packet.{Packet}
use Rattle.sacn_packets.specs.declared.framing.packet.Packet.TheVariants.{DataPacket, PagePacket, SyncPacket}
use Rattle.sacn_packets.specs.PacketReading.{reading_packet}
use Rattle.sacn_monitor.specs.declared.account.Account.{Account}
use Rattle.sacn_monitor.specs.declared.account.Endpoint.{Endpoint}
use Rattle.sacn_monitor.specs.declared.stream.Stream.{Stream}
use Rattle.sacn_monitor.specs.declared.limits.TheConstants.{MAX_STREAMS}
use Rattle.sacn_monitor.specs.Accounts.{first_account, after_packet}
use Rattle.sacn_monitor.specs.Streams.{is_of}
use Rattle.sacn_monitor.specs.Books.{Book, new_book, after_take, after_tick}

-- a call, with the moment that it hands in
pub data Call : Type 0 where
  Take : ℕ → Endpoint → List ℕ → Call
  Tick : ℕ → Call

abbrev pub moment_of : Call → ℕ
moment_of (Take now sender octets) = now
moment_of (Tick now) = now

-- what the contracts of the calls say
abbrev pub step : Call → Book → Book
step (Take now sender octets) b = after_take now sender octets b
step (Tick now) b = after_tick now b

-- what a history leaves, from a new monitor on
abbrev pub after_calls : List Call → Book
after_calls [] = new_book
after_calls (call ∷ earlier) = step call (after_calls earlier)

-- the moment in use after a history: the greatest that was handed in
abbrev pub moment_in_use : List Call → ℕ
moment_in_use [] = 0
moment_in_use (call ∷ earlier) = max (moment_in_use earlier) (moment_of call)

-- ---- the packets of one source on one universe

-- a data packet that came
pub record Arrival : Type 0 where
  pub moment : ℕ
  pub sender : Endpoint
  pub packet : Data

abbrev pub arrival_of : ℕ → List ℕ → ℕ → Endpoint → Result Packet PacketFault → List Arrival
arrival_of universe cid t sender (Ok (DataPacket d)) = if (d.universe == universe) && bytes_eq d.cid cid then (record { moment = t; sender = sender; packet = d } ∷ []) else []
arrival_of universe cid t sender (Ok (PagePacket p)) = []
arrival_of universe cid t sender (Ok SyncPacket) = []
arrival_of universe cid t sender (Err fault) = []

abbrev pub arrival_at : ℕ → List ℕ → ℕ → Call → List Arrival
arrival_at universe cid t (Take now sender octets) = arrival_of universe cid t sender (reading_packet octets)
arrival_at universe cid t (Tick now) = []

-- all of them in a history, the latest first
abbrev pub arrivals : ℕ → List ℕ → List Call → List Arrival
arrivals universe cid [] = []
arrivals universe cid (call ∷ earlier) = arrival_at universe cid (moment_in_use (call ∷ earlier)) call ++ arrivals universe cid earlier

-- ---- the account that these packets alone give

abbrev pub account_with : Arrival → Option Account → Account
account_with x None = first_account x.moment x.sender x.packet
account_with x (Some a) = after_packet x.moment x.sender x.packet a

abbrev pub account_by : List Arrival → Option Account
account_by [] = None
account_by (x ∷ earlier) = Some (account_with x (account_by earlier))

-- the account that is kept
abbrev pub account_in : ℕ → List ℕ → List Stream → Option Account
account_in universe cid ss = option_map (λ s. s.account) (find (is_of universe cid) ss)

-- After any calls the account of a source on a universe is the one that its packets there give, whatever else came; or it has
-- none, and there is no room for a further one.
abbrev pub AccountsAreOfTheirPackets : Type 0
AccountsAreOfTheirPackets = (calls : List Call) (universe : ℕ) (cid : List ℕ) →
    (account_in universe cid (after_calls calls).streams ≡ account_by (arrivals universe cid calls))
    ⊎ ((account_in universe cid (after_calls calls).streams ≡ None) × (MAX_STREAMS ≤ length (after_calls calls).streams))

-- The moment of a monitor is the greatest that was handed in.
abbrev pub UsesTheGreatestMoment : Type 0
UsesTheGreatestMoment = (calls : List Call) → (after_calls calls).moment ≡ moment_in_use calls
