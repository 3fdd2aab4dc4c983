-- What interfaces are offered, and when. Lists of turns and offers have the latest first.
use Rattle.std.specs.Prelude.{◌≡◌, ℕ, ◌+◌, ◌-◌, ◌==◌, ◌||◌, ◌++◌, min, Bool, true, not, nat_lt, find, List, [], ◌∷◌, Option, None, Some, ⊤, if◌then◌else◌}
use Rattle.sacn_node.specs.Cores.{Node, node_frame}
use Rattle.sacn_node.specs.declared.port_frame.PortFrame.{PortFrame}
use Rattle.sacn_node.specs.Showings.{same}
use Rattle.sacn_edge.specs.Additions.{Extends}
use Rattle.sacn_machine.specs.Hearings.{Hearing}
use Rattle.sacn_gateway.specs.GatewayText.{gateway_after}
use Rattle.sacn_gateway.specs.GatewayRun.{latest_reading}
use Rattle.sacn_machine.specs.Widgets.{widget_text}
use Rattle.sacn_machine.specs.declared.device.Took.{Took}
use Rattle.sacn_machine.specs.declared.device.Took.TheVariants.{Whole, Later, Failed}
use Rattle.sacn_machine.specs.declared.device.Offer.{Offer}
use Rattle.sacn_gateway.specs.declared.interface.Interface.{Interface}
use Rattle.sacn_gateway.specs.declared.limits.TheConstants.{REFRESH, RETRY, LATER_WAIT}

-- ---- when a packet is due

-- at this reading so many milliseconds have passed since that one
abbrev pub has_passed : ℕ → ℕ → ℕ → Bool
has_passed wait since now = not (nat_lt (now - since) wait)

-- by what the device took of the latest packet, which was another one or not: where it took all, at once if it was another, or else half a
-- second after; where it couldn't take all, at once; where it failed, a second after
abbrev pub is_due_after : Took → Bool → ℕ → ℕ → Bool
is_due_after Whole other since now = other || has_passed REFRESH since now
is_due_after Later other since now = true
is_due_after (Failed fault) other since now = has_passed RETRY since now

-- where none was offered yet, at once
abbrev pub is_due : Option Offer → ℕ → List ℕ → Bool
is_due None now packet = true
is_due (Some o) now packet = is_due_after o.took (not (same o.packet packet)) o.now now

-- ---- what is offered

-- at a reading: the packet of the frame, where there is a frame and its packet is due
abbrev pub offered : ℕ → Option (List ℕ) → Option Offer → Took → List Offer
offered now None latest took = []
offered now (Some frame) latest took =
    if is_due latest now (widget_text frame) then record { now = now; packet = widget_text frame; took = took } ∷ [] else []

-- the latest of some offers, or the one before them
abbrev pub latest_of : List Offer → Option Offer → Option Offer
latest_of [] before = before
latest_of (o ∷ offers) before = Some o

-- the frame of a port after some turns
abbrev pub frame_after : Node → List (List ℕ) → ℕ → List (List Hearing) → Option (List ℕ)
frame_after first senders port turns = node_frame port (gateway_after first senders turns).node

-- over some turns: in each the packet of the port's frame after it, at its latest reading, where it is due; what was taken is the device's
abbrev pub AreOffers : Node → List (List ℕ) → ℕ → Option Offer → List (List Hearing) → List Offer → Type 0
AreOffers first senders port before [] offers = offers ≡ []
AreOffers first senders port before (hs ∷ turns) offers =
    (took : Took) × (earlier : List Offer)
    × AreOffers first senders port before turns earlier
    × (offers ≡ offered (latest_reading hs) (frame_after first senders port (hs ∷ turns)) (latest_of earlier before) took ++ earlier)

-- in the order of the calls
abbrev pub in_time : List Offer → List Offer
in_time [] = []
in_time (o ∷ offers) = in_time offers ++ o ∷ []

-- an interface after some turns: its device was offered exactly these packets
abbrev pub IsOffered : {D : Type 0} → (D → Option (List Offer)) → Node → List (List ℕ) → List (List Hearing) → Interface D → Interface D → Type 0
IsOffered told first senders turns old new =
    (new.port ≡ old.port)
    × (offers : List Offer)
    × AreOffers first senders old.port old.latest turns offers
    × Extends (told old.device) (told new.device) (in_time offers)
    × (new.latest ≡ latest_of offers old.latest)

-- two lists of as many, in pairs
abbrev pub Pairwise : {X : Type 0} → (X → X → Type 0) → List X → List X → Type 0
Pairwise R [] [] = ⊤
Pairwise R [] (y ∷ ys) = ⊥
Pairwise R (x ∷ xs) [] = ⊥
Pairwise R (x ∷ xs) (y ∷ ys) = R x y × Pairwise R xs ys

-- so each of some interfaces
abbrev pub AreOffered : {D : Type 0} → (D → Option (List Offer)) → Node → List (List ℕ) → List (List Hearing) → List (Interface D) → List (Interface D) → Type 0
AreOffered told first senders turns old new = Pairwise (IsOffered told first senders turns) old new

-- ---- one turn

-- the frame of a port among some
abbrev pub last_of : Option PortFrame → Option (List ℕ)
last_of None = None
last_of (Some p) = p.last

abbrev pub frame_in : ℕ → List PortFrame → Option (List ℕ)
frame_in port ports = last_of (find (λ p. p.port == port) ports)

-- an interface after one turn that ends at this reading
abbrev pub IsServed : {D : Type 0} → (D → Option (List Offer)) → ℕ → List PortFrame → Interface D → Interface D → Type 0
IsServed told now ports old new =
    (new.port ≡ old.port)
    × (took : Took)
    × Extends (told old.device) (told new.device) (offered now (frame_in old.port ports) old.latest took)
    × (new.latest ≡ latest_of (offered now (frame_in old.port ports) old.latest took) old.latest)

-- ---- how long is waited

-- when a packet is due at the latest, after one of which so much was taken
abbrev pub due_moment : Took → ℕ → ℕ → ℕ
due_moment Whole since now = since + REFRESH
due_moment Later since now = now + LATER_WAIT
due_moment (Failed fault) since now = since + RETRY

-- no later than when a packet is due after this offer, at this reading
abbrev pub due_before : Option Offer → ℕ → ℕ → ℕ
due_before None now wake = wake
due_before (Some o) now wake = min wake (due_moment o.took o.now now)

-- the same of some interfaces
abbrev pub earliest : {D : Type 0} → List (Interface D) → ℕ → ℕ → ℕ
earliest [] now wake = wake
earliest (i ∷ is) now wake = earliest is now (due_before i.latest now wake)
