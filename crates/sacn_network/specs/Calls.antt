-- Calls on one network, and what it told in them. A history is the list of the calls so far, the latest first.
use Rattle.std.specs.Prelude.{◌≡◌, ℕ, nat_le, Bool, false, if◌then◌else◌, ◌-◌, ◌^◌, ◌+◌, ◌<◌, ◌≤◌, ◌==◌, ◌⊎◌, ⊤, List, [], ◌∷◌, ◌++◌, length, slice_get, Option, None, Some}
use Rattle.std.specs.Option.{option_map}
use Rattle.std.specs.List.{list_any}
use Rattle.sacn_packets.specs.PacketReading.{reading_packet}
use Rattle.sacn_sources.specs.declared.limits.TheConstants.{NETWORK_DATA_LOSS}
use Rattle.sacn_monitor.specs.declared.stream.Stream.{Stream}
use Rattle.sacn_monitor.specs.declared.limits.TheConstants.{MAX_STREAMS}
use Rattle.sacn_monitor.specs.Books.{silent_place}
use Rattle.sacn_monitor.specs.Histories.{Call, Take, Tick, moment_of, moment_in_use, arrivals, account_by, account_in}
use Rattle.sacn_network.specs.declared.ledger.Ledger.{Ledger}
use Rattle.sacn_network.specs.declared.occurrence.What.{What}
use Rattle.sacn_network.specs.declared.occurrence.What.TheVariants.{Contest, Heard, Lost, Refused, Untracked}
use Rattle.sacn_network.specs.Telling.{Told}
use Rattle.sacn_network.specs.Sets.{has_bit}
use Rattle.sacn_network.specs.Contests.{is_contested}
use Rattle.sacn_network.specs.Networks.{new_network, take_told, taken, tick_told, ticked}

abbrev pub step : Call → Ledger → Ledger
step (Take now sender octets) n = taken now sender (reading_packet octets) n
step (Tick now) n = ticked now n

abbrev pub told_in : Call → Ledger → List Told
told_in (Take now sender octets) n = take_told now sender (reading_packet octets) n
told_in (Tick now) n = tick_told now n

-- what a history leaves, from a new network on
abbrev pub network_after : List Call → Ledger
network_after [] = new_network
network_after (call ∷ earlier) = step call (network_after earlier)

-- and all that was told in it, in order
abbrev pub told_by : List Call → List Told
told_by [] = []
told_by (call ∷ earlier) = told_by earlier ++ told_in call (network_after earlier)

-- 64 bits hold each moment
abbrev pub AreMoments : List Call → Type 0
AreMoments [] = ⊤
AreMoments (call ∷ earlier) = (moment_of call ≤ 2 ^ 64 - 1) × AreMoments earlier

-- After any calls the account of a source on a universe is the one that its packets there give, whatever was told in between; or it has none, and there
-- is no room for a further one.
abbrev pub AccountsAreOfTheirPackets : Type 0
AccountsAreOfTheirPackets = (calls : List Call) → AreMoments calls → (universe : ℕ) (cid : List ℕ) →
    (account_in universe cid (network_after calls).monitor.streams ≡ account_by (arrivals universe cid calls))
    ⊎ ((account_in universe cid (network_after calls).monitor.streams ≡ None) × (MAX_STREAMS ≤ length (network_after calls).monitor.streams))

-- The clock of a network is the greatest moment that was handed in.
abbrev pub UsesTheGreatestMoment : Type 0
UsesTheGreatestMoment = (calls : List Call) → AreMoments calls → (network_after calls).monitor.moment ≡ moment_in_use calls

-- A tick leaves no loss by its moment untold.
abbrev pub ATickLeavesNone : Type 0
ATickLeavesNone = (calls : List Call) (now : ℕ) → AreMoments (Tick now ∷ calls) → let n = network_after (Tick now ∷ calls) in silent_place n.monitor.moment n.monitor.streams ≡ None

-- A universe was heard where a source on it is kept.
abbrev pub IsHeardWhereASourceIs : Type 0
IsHeardWhereASourceIs = (calls : List Call) (universe : ℕ) → universe < 2 ^ 16 → has_bit (network_after calls).heard universe ≡ list_any (λ s. s.universe == universe) (network_after calls).monitor.streams

-- whether a universe is contested, as the last occurrence says that tells it
abbrev pub contested_from : ℕ → Bool → What → Bool
contested_from universe before (Contest c) = if universe == c.universe then nat_le 2 c.sources else before
contested_from universe before (Lost place) = before
contested_from universe before (Heard place news) = before
contested_from universe before (Refused sender fault) = before
contested_from universe before (Untracked sender) = before

abbrev pub contested_by : ℕ → Bool → List Told → Bool
contested_by universe before [] = before
contested_by universe before (o ∷ os) = contested_by universe (contested_from universe before o.occurrence.what) os

-- A universe is contested where that was told last of it. So what is told of it is each time something else than before.
abbrev pub IsContestedAsTold : Type 0
IsContestedAsTold = (calls : List Call) (universe : ℕ) → universe < 2 ^ 16 → has_bit (network_after calls).contested universe ≡ contested_by universe false (told_by calls)

-- A universe is contested, as was told last, exactly where two sources or more are merged there: those whose levels a node holds by the clock, at the top priority of these. So what is told of it is told when it becomes so. The last
-- moment of all never comes.
abbrev pub IsContestedAsLit : Type 0
IsContestedAsLit = (calls : List Call) (universe : ℕ) → AreMoments calls → universe < 2 ^ 16 → moment_in_use calls < 2 ^ 64 - 1 → has_bit (network_after calls).contested universe ≡ is_contested universe (network_after calls).monitor

-- ---- when a loss is told

-- the moment at which the stream at a place is lost
abbrev pub loss_at : ℕ → List Stream → Option ℕ
loss_at place ss = option_map (λ s. s.account.latest + NETWORK_DATA_LOSS) (slice_get ss place)

-- a loss is told at its own moment
abbrev pub IsTimely : List Stream → ℕ → What → Type 0
IsTimely ss at (Lost place) = loss_at place ss ≡ Some at
IsTimely ss at (Heard place news) = ⊤
IsTimely ss at (Refused sender fault) = ⊤
IsTimely ss at (Untracked sender) = ⊤
IsTimely ss at (Contest c) = ⊤

abbrev pub AreTimely : List Stream → List Told → Type 0
AreTimely ss [] = ⊤
AreTimely ss (o ∷ os) = IsTimely ss o.occurrence.at o.occurrence.what × AreTimely ss os

-- Each loss that is told, by a tick or before a datagram, is told 2500 ms after the latest packet of its stream that was taken.
abbrev pub LossesAreTimely : Type 0
LossesAreTimely = (calls : List Call) (now : ℕ) → AreMoments (Tick now ∷ calls) → let n = network_after calls in AreTimely n.monitor.streams (tick_told now n)
