-- What is so in every world that can be come to, whatever was sent, lost, repeated, delayed and restarted.
use Rattle.std.specs.Prelude.{◌≡◌, ℕ, ◌+◌, ◌-◌, ◌<◌, ◌≤◌, true, List, map, find, slice_get, Some, Ok}
use Rattle.std.specs.Option.{option_map}
use Rattle.sacn_packets.specs.Data.{Data}
use Rattle.sacn_packets.specs.declared.framing.packet.Packet.TheVariants.{DataPacket}
use Rattle.sacn_sources.specs.Rows.{row_of}
use Rattle.sacn_console.specs.Shows.{ShowContent}
use Rattle.sacn_node.specs.declared.setup.SlotRange.{SlotRange}
use Rattle.sacn_node.specs.Setup.{Port}
use Rattle.sacn_node.specs.Ports.{covers, octet_at}
use Rattle.sacn_node.specs.Readings.{reply_to, after_reading}
use Rattle.sacn_schedule.specs.declared.event.Event.{Event}
use Rattle.sacn_schedule.specs.declared.event.Event.TheVariants.{Deliver}
use Rattle.sacn_world.specs.declared.answer.Answer.TheVariants as answered
use Rattle.sacn_world.specs.Streams.{Sent, place_of}
use Rattle.sacn_world.specs.Holdings.{Hold, hold_of, takes_place, answer, after_delivery}
use Rattle.sacn_world.specs.RowsOfPlaces.{seen, rows_of}
use Rattle.sacn_world.specs.Nodes.{Holding, Node, holding_of, slots, node_slots, seen_core}
use Rattle.sacn_world.specs.Worlds.{World, Outcome, step, after, new_console, new_world, Apart}
use Rattle.sacn_world.specs.Runs.{Ran, ran}
use Rattle.sacn_world.specs.Counts.{count_step, count_run, no_count, enough_in_a_row, Shows}
use Rattle.sacn_world.specs.Members.{HeldOn, SameShown}

-- the world after a list of events, of shows with first numbers and nodes with ports
abbrev pub reached : List (ShowContent × ℕ) → List (List Port) → List Event → World
reached shows setups events = after (new_world shows setups) events

-- A node core, which reads the datagram and knows eight-bit numbers alone, answers what the places say, and what it then
-- keeps is again what the places held look like.
abbrev pub NumbersAnswerAsPlacesDo : Type 0
NumbersAnswerAsPlacesDo =
    (shows : List (ShowContent × ℕ)) (setups : List (List Port)) (events : List Event) (k i m : ℕ) (n l : Node) (x : Sent) (o : Outcome) →
    Apart (map new_console shows) →
    let w = reached shows setups events in
    slice_get w.nodes i ≡ Some n → slice_get w.sent k ≡ Some x → step w (Deliver k i m) ≡ Ok o → slice_get o.world.nodes i ≡ Some l →
    (o.answer ≡ answered.Taken (reply_to (Ok x.packet) m (seen_core w.sent n)))
    × (seen_core o.world.sent l ≡ after_reading (Ok x.packet) m (seen_core w.sent n))

-- A packet whose place is now the one held (it is answered Held or EndedNow) has a later place than the entry that its source has after expiry
abbrev pub HeldPlacesAreLater : Type 0
HeldPlacesAreLater =
    (st : List Sent) (s : List ℕ) (q : ℕ) (hs : List Hold) (h : Hold) → hold_of s hs ≡ Some h → takes_place (answer st s q hs) ≡ true → h.place < q

-- No delivery drops an entry that has not expired, or gives its place up for an earlier one
abbrev pub PlacesNeverGoBack : Type 0
PlacesNeverGoBack =
    (st : List Sent) (s : List ℕ) (q t : ℕ) (hs : List Hold) (r : List ℕ) (h : Hold) → hold_of r hs ≡ Some h →
    (g : Hold) × (hold_of r (after_delivery st s q t hs) ≡ Some g) × (h.place ≤ g.place)

-- What a table has of a source is what the place held says
abbrev pub RowsAreOfPlaces : Type 0
RowsAreOfPlaces = (u : ℕ) (sent : List Sent) (s : List ℕ) (hs : List Hold) → row_of s (rows_of u sent hs) ≡ option_map (seen u sent) (hold_of s hs)

-- A delivery that leaves a count of twenty-one or more leaves the node showing its packet
abbrev pub TwentyOneInARowAreShown : Type 0
TwentyOneInARowAreShown =
    (shows : List (ShowContent × ℕ)) (setups : List (List Port)) (events : List Event) (i k m : ℕ) (n : Node) (g : Holding)
    (x : Sent) (d : Data) (o : Outcome) →
    Apart (map new_console shows) →
    let w = reached shows setups events in
    slice_get w.nodes i ≡ Some n → slice_get w.sent k ≡ Some x → x.packet ≡ DataPacket d → holding_of d.universe n.holdings ≡ Some g →
    step w (Deliver k i m) ≡ Ok o →
    enough_in_a_row ≤ (count_step w i x.source d.universe (Deliver k i m) (count_run (new_world shows setups) i x.source d.universe events no_count)).count →
    Shows o.world i x.source d.universe (place_of x.source d.universe k w.sent)

-- Where the same places of the same sources are shown on a universe, its slots are equal: at two moments of a run, of one
-- node or two
abbrev pub SamePlacesGiveTheSameSlots : Type 0
SamePlacesGiveTheSameSlots =
    (shows : List (ShowContent × ℕ)) (setups : List (List Port)) (events later : List Event) (i j u : ℕ) (hs gs : List Hold) → Apart (map new_console shows) →
    let w = reached shows setups events in
    let v = after w later in
    HeldOn w i u hs → HeldOn v j u gs → SameShown u w.sent hs v.sent gs → slots u w.sent hs ≡ slots u v.sent gs

-- two port slots show the same slot of one universe
pub record ShowTheSame (u : ℕ) (rs qs : List SlotRange) (a b : ℕ) : Type 0 where
  pub one : SlotRange
  pub is_one : find (covers a) rs ≡ Some one
  pub other : SlotRange
  pub is_other : find (covers b) qs ≡ Some other
  pub universe : one.universe ≡ u
  pub other_universe : other.universe ≡ u
  pub slot : one.slot - 1 + (a - one.port_slot) ≡ other.slot - 1 + (b - other.port_slot)

-- And so any two port slots, from 1 on, that ranges fill from the same slot of that universe have equal levels
abbrev pub SamePlacesGiveTheSameLevels : Type 0
SamePlacesGiveTheSameLevels =
    (shows : List (ShowContent × ℕ)) (setups : List (List Port)) (events later : List Event) (i j u : ℕ) (hs gs : List Hold) → Apart (map new_console shows) →
    let w = reached shows setups events in
    let v = after w later in
    (on : HeldOn w i u hs) (off : HeldOn v j u gs) → SameShown u w.sent hs v.sent gs →
    (rs qs : List SlotRange) (a b : ℕ) → 0 < a → 0 < b → ShowTheSame u rs qs a b →
    octet_at (node_slots w.sent on.node) rs a ≡ octet_at (node_slots v.sent off.node) qs b

-- A run that is answered leaves the world after its events, of which the other laws speak
abbrev pub RunsLeaveTheWorldAfter : Type 0
RunsLeaveTheWorldAfter = (w : World) (events : List Event) (r : Ran) → ran w events ≡ Some r → after w events ≡ r.world
