-- What consoles sent, as an unbounded history, and where a packet stands in it. (E1.31: one sequence per source and universe.)
use Rattle.std.specs.Prelude.{◌≡◌, ℕ, ◌+◌, ◌-◌, ◌%◌, ◌≤◌, ◌<◌, Bool, true, false, not, ◌&&◌, ◌==◌, nat_lt, nat_le, if◌then◌else◌, List, [], length, get_or, take, filter, count_by}
use Rattle.sacn_packets.specs.declared.framing.packet.Packet.{Packet}
use Rattle.sacn_packets.specs.declared.framing.packet.Packet.TheVariants.{DataPacket, PagePacket, SyncPacket}
use Rattle.sacn_sources.specs.Sequence.{is_late}
use Rattle.sacn_sources.specs.Order.{same}
use Rattle.sacn_sources.specs.declared.kind.Kind.{Kind}
use Rattle.sacn_sources.specs.declared.kind.Kind.TheVariants.{Live, Termination}
use Rattle.sacn_world.specs.declared.limits.TheConstants.{TOO_FAR_BEHIND}

-- a datagram that a console sent: who sent it, in which life, that life's first number, and what it says
pub record Sent : Type 0 where
  pub source : List ℕ
  pub life : ℕ
  pub first : ℕ
  pub packet : Packet

-- a data packet of this universe
abbrev pub is_on : ℕ → Packet → Bool
is_on u (DataPacket d) = d.universe == u
is_on u (PagePacket p) = false
is_on u SyncPacket = false

abbrev pub is_of : List ℕ → ℕ → Sent → Bool
is_of s u x = same s x.source && is_on u x.packet

-- the stream of a source and a universe: all data packets that it ever sent there, across its lives
unfoldable pub stream_of : List ℕ → ℕ → List Sent → List Sent
stream_of s u sent = filter (is_of s u) sent

-- what an entry of a stream says: live or a termination, its priority and its levels
abbrev pub live_in : Packet → Bool
live_in (DataPacket d) = not d.terminated
live_in (PagePacket p) = false
live_in SyncPacket = false

abbrev pub priority_in : Packet → ℕ
priority_in (DataPacket d) = d.priority
priority_in (PagePacket p) = 0
priority_in SyncPacket = 0

abbrev pub levels_in : Packet → List ℕ
levels_in (DataPacket d) = d.slots
levels_in (PagePacket p) = []
levels_in SyncPacket = []

-- its kind, by whether it is live
abbrev pub kind_by : Bool → Kind
kind_by true = Live
kind_by false = Termination

unfoldable pub is_live : Sent → Bool
is_live x = live_in x.packet

unfoldable pub priority : Sent → ℕ
priority x = priority_in x.packet

unfoldable pub levels : Sent → List ℕ
levels x = levels_in x.packet

-- the packet at a place, which is an index in a stream, and the index of its life
abbrev pub nothing : Sent
nothing = record { source = []; life = 0; first = 0; packet = SyncPacket }

abbrev pub at : List Sent → ℕ → Sent
at st p = get_or st p nothing

abbrev pub life_at : List Sent → ℕ → ℕ
life_at st p = (at st p).life

-- the rank of a place within its life, from 0: how many packets of that life stand before it
unfoldable pub rank : List Sent → ℕ → ℕ
rank st p = count_by (λ x. x.life == life_at st p) (take p st)

-- the number of a place
unfoldable pub number_at : List Sent → ℕ → ℕ
number_at st p = ((at st p).first + rank st p) % 256

-- after number a, number b is out of sequence
unfoldable pub late : ℕ → ℕ → Bool
late a b = is_late a b

-- of the 256 numbers the most that one can be ahead of another and not out of sequence: the other twenty are
abbrev pub farthest_ahead : ℕ
farthest_ahead = 256 - TOO_FAR_BEHIND

-- q may take the place of p: it is later in the stream, and in one life 1 to `farthest_ahead` places on but for whole rounds of the
-- numbers; in a later life its number is not late
unfoldable pub follows : List Sent → ℕ → ℕ → Bool
follows st p q =
    nat_lt p q
    && (if life_at st p == life_at st q then nat_le 1 ((q - p) % 256) && nat_le ((q - p) % 256) farthest_ahead
    else not (late (number_at st p) (number_at st q)))

-- along a stream lives never go back, and each life has one first number
pub record Ordered (st : List Sent) : Type 0 where
  pub ascend : (i j : ℕ) → i ≤ j → j < length st → life_at st i ≤ life_at st j
  pub begin : (i j : ℕ) → i ≤ j → j < length st → life_at st i ≡ life_at st j → (at st i).first ≡ (at st j).first

-- the place of datagram k in this stream: how many packets of the stream were sent before it
unfoldable pub place_of : List ℕ → ℕ → ℕ → List Sent → ℕ
place_of s u k sent = count_by (is_of s u) (take k sent)
