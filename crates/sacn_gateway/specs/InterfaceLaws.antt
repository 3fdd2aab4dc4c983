-- What the offers of a run come to, whatever a device takes. Lists of turns and offers have the latest first.
use Rattle.std.specs.Prelude.{◌≡◌, ℕ, ◌+◌, ◌<◌, ◌≤◌, List, [], ◌∷◌, ◌++◌, Option, None, Some, ⊤}
use Rattle.sacn_node.specs.Cores.{Node}
use Rattle.sacn_machine.specs.Hearings.{Hearing}
use Rattle.sacn_gateway.specs.GatewayRun.{latest_reading}
use Rattle.sacn_machine.specs.Widgets.{widget_text}
use Rattle.sacn_machine.specs.declared.device.Took.TheVariants.{Whole, Failed}
use Rattle.sacn_machine.specs.declared.device.DeviceFault.{DeviceFault}
use Rattle.sacn_machine.specs.declared.device.Offer.{Offer}
use Rattle.sacn_gateway.specs.declared.limits.TheConstants.{REFRESH, RETRY}
use Rattle.sacn_gateway.specs.Interfaces.{AreOffers, frame_after, latest_of}

-- after each turn a device that took all of the latest packet has that of its port's frame as it is after this turn, and took
-- it less than half a second ago
abbrev pub WorkingDevicesShowTheirPorts : Type 0
WorkingDevicesShowTheirPorts =
    (first : Node) (senders : List (List ℕ)) (port : ℕ) (before : Option Offer) (hs : List Hearing) (turns : List (List Hearing))
    (offers : List Offer) (frame : List ℕ) (o : Offer)
    → AreOffers first senders port before (hs ∷ turns) offers
    → frame_after first senders port (hs ∷ turns) ≡ Some frame
    → latest_of offers before ≡ Some o
    → o.took ≡ Whole
    → (o.packet ≡ widget_text frame) × (latest_reading hs < o.now + REFRESH)

-- after each turn a device that failed did so less than a second ago
abbrev pub FailedDevicesAreTriedAgain : Type 0
FailedDevicesAreTriedAgain =
    (first : Node) (senders : List (List ℕ)) (port : ℕ) (before : Option Offer) (hs : List Hearing) (turns : List (List Hearing))
    (offers : List Offer) (frame : List ℕ) (o : Offer) (fault : DeviceFault)
    → AreOffers first senders port before (hs ∷ turns) offers
    → frame_after first senders port (hs ∷ turns) ≡ Some frame
    → latest_of offers before ≡ Some o
    → o.took ≡ Failed fault
    → latest_reading hs < o.now + RETRY

-- an offer after one at which the device failed comes a second later or more
abbrev pub IsRested : Offer → Option Offer → Type 0
IsRested o None = ⊤
IsRested o (Some earlier) = (fault : DeviceFault) → earlier.took ≡ Failed fault → earlier.now + RETRY ≤ o.now

abbrev pub AreRested : Option Offer → List Offer → Type 0
AreRested before [] = ⊤
AreRested before (o ∷ offers) = IsRested o (latest_of offers before) × AreRested before offers

abbrev pub FailedDevicesRest : Type 0
FailedDevicesRest =
    (first : Node) (senders : List (List ℕ)) (port : ℕ) (before : Option Offer) (turns : List (List Hearing)) (offers : List Offer)
    → AreOffers first senders port before turns offers
    → AreRested before offers

-- an offer is of the port's frame after one of the turns, at that turn's latest reading
abbrev pub IsOfATurn : Node → List (List ℕ) → ℕ → List (List Hearing) → Offer → Type 0
IsOfATurn first senders port turns o =
    (later : List (List Hearing)) × (hs : List Hearing) × (earlier : List (List Hearing)) × (frame : List ℕ)
    × (turns ≡ later ++ hs ∷ earlier)
    × (o.now ≡ latest_reading hs)
    × (frame_after first senders port (hs ∷ earlier) ≡ Some frame)
    × (o.packet ≡ widget_text frame)

abbrev pub AreOfTurns : Node → List (List ℕ) → ℕ → List (List Hearing) → List Offer → Type 0
AreOfTurns first senders port turns [] = ⊤
AreOfTurns first senders port turns (o ∷ offers) = IsOfATurn first senders port turns o × AreOfTurns first senders port turns offers

abbrev pub OffersAreOfTheirPort : Type 0
OffersAreOfTheirPort =
    (first : Node) (senders : List (List ℕ)) (port : ℕ) (before : Option Offer) (turns : List (List Hearing)) (offers : List Offer)
    → AreOffers first senders port before turns offers
    → AreOfTurns first senders port turns offers
