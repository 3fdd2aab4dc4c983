-- What a node holds on one universe, by places.
use Rattle.std.specs.Prelude.{◌≡◌, ⊤, ℕ, ◌+◌, ◌-◌, Bool, ◌&&◌, ◌==◌, nat_lt, nat_le, max, true, false, if◌then◌else◌, List, [], ◌∷◌, length, filter, find, Option, Some, None}
use Rattle.std.specs.List.{AllByRecursion}
use Rattle.std.specs.declared.cmp.Ordering.TheVariants.{Less}
use Rattle.sacn_sources.specs.Order.{order, same, by_order}
use Rattle.sacn_sources.specs.declared.limits.TheConstants.{MAX_SOURCES, NETWORK_DATA_LOSS}
use Rattle.sacn_sources.specs.declared.answer.Taken.{Taken}
use Rattle.sacn_sources.specs.declared.answer.Taken.TheVariants.{Held, Observed, EndedNow, OutOfSequence, SourcesExceeded, UnknownIgnored}
use Rattle.sacn_world.specs.declared.limits.TheConstants.{TOO_FAR_BEHIND}
use Rattle.sacn_world.specs.declared.fault.WorldFault.{WorldFault}
use Rattle.sacn_world.specs.declared.fault.WorldFault.TheVariants.{TooFarBehind, OldLife}
use Rattle.sacn_world.specs.Streams.{Sent, at, is_live, life_at, follows}

-- an entry of a holding, a finite map from sources: the source's place that is held, and when it was renewed
pub record Hold : Type 0 where
  pub source : List ℕ
  pub place : ℕ
  pub moment : ℕ

-- ---- expiry (E1.31, 6.7.1, network data loss)

abbrev pub is_renewed : ℕ → Hold → Bool
is_renewed t h = nat_lt (t - h.moment) NETWORK_DATA_LOSS

abbrev pub unexpired : ℕ → List Hold → List Hold
unexpired t hs = filter (is_renewed t) hs

-- ---- the map, in the order of its sources

abbrev pub hold_of : List ℕ → List Hold → Option Hold
hold_of s hs = find (λ h. same s h.source) hs

abbrev pub put : Hold → List Hold → List Hold
put n [] = n ∷ []
put n (h ∷ hs) = by_order (order n.source h.source) (n ∷ h ∷ hs) (n ∷ hs) (h ∷ put n hs)

-- the CIDs of the sources strictly rise
abbrev pub RisingByCid : List Hold → Type 0
RisingByCid [] = ⊤
RisingByCid (h ∷ hs) = AllByRecursion (λ k. order h.source k.source ≡ Less) hs × RisingByCid hs

-- ---- delivery, in the model's own words: it cites nothing of the table of answers, which must agree with it

-- what a source that is not held sent is held where it is live and there is room; a termination is ignored
abbrev pub answer_unknown : Bool → Bool → Taken
answer_unknown live room = if live then (if room then Held else SourcesExceeded) else UnknownIgnored

-- what a held source sent is discarded where it doesn't follow the place held; what follows is held where it is live, and a
-- termination ends the source
abbrev pub answer_known : Bool → Bool → Taken
answer_known live later = if later then (if live then Held else EndedNow) else OutOfSequence

-- the answers by which a packet's place is now the one held
abbrev pub takes_place : Taken → Bool
takes_place Held = true
takes_place EndedNow = true
takes_place Observed = false
takes_place OutOfSequence = false
takes_place SourcesExceeded = false
takes_place UnknownIgnored = false

abbrev pub answer_by : List Sent → ℕ → Bool → Option Hold → Taken
answer_by st q room None = answer_unknown (is_live (at st q)) room
answer_by st q room (Some h) = answer_known (is_live (at st q)) (follows st h.place q)

-- the answer to place q of the stream st of the source s, of a universe that holds hs after expiry
abbrev pub answer : List Sent → List ℕ → ℕ → List Hold → Taken
answer st s q hs = answer_by st q (nat_lt (length hs) MAX_SOURCES) (hold_of s hs)

-- what is held after that answer
abbrev pub holding_after : Taken → Hold → List Hold → List Hold
holding_after a n hs = if takes_place a then put n hs else hs

abbrev pub after_delivery : List Sent → List ℕ → ℕ → ℕ → List Hold → List Hold
after_delivery st s q t hs = holding_after (answer st s q hs) (record { source = s; place = q; moment = t }) hs

-- ---- which deliveries are admissible

-- the newest data packet of a stream that was delivered to a node since it started, whatever was answered
pub record Delivery : Type 0 where
  pub source : List ℕ
  pub universe : ℕ
  pub place : ℕ

-- the newest place of a stream among them
abbrev pub newest : List ℕ → ℕ → List Delivery → Option ℕ
newest s u [] = None
newest s u (d ∷ ds) = if same s d.source && (d.universe == u) then Some d.place else newest s u ds

-- a delivery more: of each stream the greatest place stands, once
abbrev pub add_delivery : Delivery → List Delivery → List Delivery
add_delivery d [] = d ∷ []
add_delivery d (e ∷ es) =
    if same d.source e.source && (e.universe == d.universe) then record { source = e.source; universe = e.universe; place = max d.place e.place } ∷ es
    else e ∷ add_delivery d es

-- where n is the newest place delivered: q is of an earlier life, or of the same life and too many places before it
abbrev pub is_old_life : List Sent → ℕ → ℕ → Bool
is_old_life st n q = nat_lt (life_at st q) (life_at st n)

abbrev pub is_too_far_behind : List Sent → ℕ → ℕ → Bool
is_too_far_behind st n q = (life_at st q == life_at st n) && nat_le (q + TOO_FAR_BEHIND) n

abbrev pub refusal_at : List Sent → ℕ → ℕ → Option WorldFault
refusal_at st n q = if is_too_far_behind st n q then Some TooFarBehind else if is_old_life st n q then Some OldLife else None

-- why place q may not be delivered; None where it is admissible
abbrev pub refusal : List Sent → Option ℕ → ℕ → Option WorldFault
refusal st None q = None
refusal st (Some n) q = refusal_at st n q
