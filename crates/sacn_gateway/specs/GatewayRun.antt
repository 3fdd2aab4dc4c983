-- What a run of a gateway hears, and where it ends. Lists of turns, hearings and lines have the latest first.
use Rattle.std.specs.Prelude.{◌≡◌, ℕ, ◌-◌, ◌<◌, ◌≤◌, ◌==◌, ◌||◌, not, nat_lt, ⊤, Bool, true, false, List, [], ◌∷◌, ◌++◌, length, take}
use Rattle.sacn_node.specs.Cores.{Node}
use Rattle.sacn_edge.specs.Additions.{Adds}
use Rattle.sacn_edge.specs.NodeText.{FrameLine, line_text, text_of}
use Rattle.sacn_machine.specs.Hearings.{Hearing, ends_with_datagram}
use Rattle.sacn_gateway.specs.GatewayText.{gateway_lines}
use Rattle.sacn_machine.specs.declared.limits.TheConstants.{MAX_BURST}
use Rattle.sacn_gateway.specs.declared.limits.TheConstants.{TURN_SPAN}

abbrev pub latest_reading : List Hearing → ℕ
latest_reading [] = 0
latest_reading (h ∷ hs) = h.now

abbrev pub first_reading : List Hearing → ℕ
first_reading [] = 0
first_reading (h ∷ []) = h.now
first_reading (h ∷ hs) = first_reading hs

-- the latest reading of a turn is so late after its first that the turn ends
abbrev pub is_spent : List Hearing → Bool
is_spent hs = not (nat_lt (latest_reading hs - first_reading hs) TURN_SPAN)

-- a turn ends after its latest receive: no datagram was there, it took long enough, or it made the greatest number of receives
abbrev pub has_ended : List Hearing → Bool
has_ended hs = (not (ends_with_datagram hs) || is_spent hs) || (length hs == MAX_BURST)

-- it went on after each receive
abbrev pub GoesOn : List Hearing → Type 0
GoesOn [] = ⊤
GoesOn (h ∷ hs) = (has_ended (h ∷ hs) ≡ false) × GoesOn hs

-- a turn ends at the first receive after which it may
abbrev pub IsWhole : List Hearing → Type 0
IsWhole [] = ⊥
IsWhole (h ∷ hs) = (has_ended (h ∷ hs) ≡ true) × GoesOn hs

abbrev pub AreWhole : List (List Hearing) → Type 0
AreWhole [] = ⊤
AreWhole (hs ∷ turns) = IsWhole hs × AreWhole turns

-- each turn ended before the moment
abbrev pub AllBefore : ℕ → List (List Hearing) → Type 0
AllBefore until [] = ⊤
AllBefore until (hs ∷ turns) = (latest_reading hs < until) × AllBefore until turns

-- a run ends after its last turn, or at the first that ends at the moment or after it
abbrev pub IsRun : ℕ → ℕ → List (List Hearing) → Type 0
IsRun turns until [] = turns ≡ 0
IsRun turns until (hs ∷ earlier) =
    AllBefore until earlier × (length (hs ∷ earlier) ≤ turns) × (latest_reading hs < until → length (hs ∷ earlier) ≡ turns)

-- a line of the turn hs was not written whole: what is written has each line before it, and a proper part of it
abbrev pub StopsIn : Node → List (List ℕ) → List Hearing → List (List Hearing) → (List ℕ → Type 0) → (List ℕ → Type 0) → Type 0
StopsIn first senders hs turns old new =
    (unwritten : List FrameLine) × (l : FrameLine) × (written : List FrameLine) × (k : ℕ)
    × (gateway_lines first senders (hs ∷ turns) ≡ unwritten ++ l ∷ (written ++ gateway_lines first senders turns))
    × (k < length (line_text l))
    × Adds old new (text_of (written ++ gateway_lines first senders turns) ++ take k (line_text l))
