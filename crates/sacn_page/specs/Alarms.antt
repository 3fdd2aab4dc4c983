-- The things that went wrong, and which of them are kept.
use Rattle.std.specs.Prelude.{◌≡◌, ℕ, ◌+◌, ◌-◌, ◌^◌, min, nat_le, nat_lt, Bool, true, false, not, ◌&&◌, ◌==◌, List, [], ◌∷◌, ◌++◌, length, drop, filter, find, position, remove, Option, None, Some, if◌then◌else◌}
use Rattle.std.specs.Option.{option_and_then, option_map, option_or}
use Rattle.std.specs.Str.{bytes_eq}
use Rattle.sacn_monitor.specs.declared.news.StreamEvent.{StreamEvent}
use Rattle.sacn_monitor.specs.declared.news.StreamEvent.TheVariants as event
use Rattle.sacn_monitor.specs.declared.news.News.{News}
use Rattle.sacn_monitor.specs.declared.stream.Stream.{Stream}
use Rattle.sacn_network.specs.Contests.{takes_part}
use Rattle.sacn_network.specs.declared.occurrence.Contest.{Contest}
use Rattle.sacn_network.specs.declared.occurrence.What.{What}
use Rattle.sacn_network.specs.declared.occurrence.What.TheVariants as what
use Rattle.sacn_network.specs.Telling.{Told}
use Rattle.sacn_page.specs.declared.alarms.Alarm.{Alarm}
use Rattle.sacn_page.specs.declared.alarms.Pair.{Pair}
use Rattle.sacn_page.specs.declared.alarms.Trouble.{Trouble}
use Rattle.sacn_page.specs.declared.alarms.Trouble.TheVariants.{Lost, Ended, CameBack, Skipped, Late, Refused, Stopped, Rivals}

-- the latest, the oldest first; how many are kept; and how many there were
pub record KeptAlarms : Type 0 where
  pub latest : List Alarm
  pub most : ℕ
  pub count : ℕ

-- none yet
abbrev pub no_alarms : ℕ → KeptAlarms
no_alarms most = record { latest = []; most = most; count = 0 }

-- ---- one more

abbrev pub is_loss : Trouble → Bool
is_loss (Lost place) = true
is_loss (Ended place) = false
is_loss (CameBack place) = false
is_loss (Skipped place count) = false
is_loss (Late place) = false
is_loss (Refused sender fault) = false
is_loss (Stopped millis) = false
is_loss (Rivals contest pair) = false

-- the place of the oldest, if there is one
abbrev pub oldest : List Alarm → Option ℕ
oldest [] = None
oldest (a ∷ more) = Some 0

-- the place of the one that gives way to one more: of the oldest that is no loss; where all are losses, of the oldest to a loss, and of none to anything else
abbrev pub giving_way : Trouble → List Alarm → Option ℕ
giving_way trouble alarms = option_or (position (λ a. not (is_loss a.trouble)) alarms) (if is_loss trouble then oldest alarms else None)

-- one more in place of that one; where none gives way it is left out
abbrev pub in_place_of : Option ℕ → Alarm → List Alarm → List Alarm
in_place_of None a alarms = alarms
in_place_of (Some place) a alarms = remove alarms place ++ (a ∷ [])

-- the latest so many, with one more
unfoldable pub with_latest : ℕ → Alarm → List Alarm → List Alarm
with_latest most a alarms = if nat_lt (length alarms) most then alarms ++ (a ∷ []) else in_place_of (giving_way a.trouble alarms) a alarms

-- one more, which knows how many were before it; the count stops at 2^64 - 1
unfoldable pub with_alarm : ℕ → Trouble → KeptAlarms → KeptAlarms
with_alarm at trouble k = record k {
  latest = with_latest k.most (record { moment = at; trouble = trouble; earlier = k.count }) k.latest;
  count = min (k.count + 1) (2 ^ 64 - 1);
}

-- these, one after the other
abbrev pub with_troubles : ℕ → List Trouble → KeptAlarms → KeptAlarms
with_troubles at [] k = k
with_troubles at (trouble ∷ more) k = with_troubles at more (with_alarm at trouble k)

-- those that are losses
abbrev pub losses : List Alarm → List Alarm
losses alarms = filter (λ a. is_loss a.trouble) alarms

-- No loss gives way to anything else.
abbrev pub LossesStay : Type 0
LossesStay = (at : ℕ) (trouble : Trouble) (k : KeptAlarms) → is_loss trouble ≡ false → losses (with_alarm at trouble k).latest ≡ losses k.latest

-- ---- those that are kept

-- from a place on, where there is one
abbrev pub from_place : List Alarm → Option ℕ → List Alarm
from_place alarms None = []
from_place alarms (Some place) = drop place alarms

-- those before which there were so many, or more
abbrev pub after : ℕ → List Alarm → List Alarm
after count alarms = from_place alarms (position (λ a. nat_le count a.earlier) alarms)

-- ---- what is told of a network

-- what became of the source at a place
abbrev pub event_troubles : ℕ → StreamEvent → List Trouble
event_troubles place event.GoesOn = []
event_troubles place event.Appeared = []
event_troubles place event.CameBack = CameBack place ∷ []
event_troubles place event.Ended = Ended place ∷ []
event_troubles place event.OutOfSequence = Late place ∷ []
event_troubles place event.Repeated = []

abbrev pub news_troubles : ℕ → News → List Trouble
news_troubles place news = event_troubles place news.event ++ (if news.skipped == 0 then [] else Skipped place news.skipped ∷ [])

-- a source takes part in a contest beside this one
abbrev pub rivals : ℕ → Contest → Stream → Stream → Bool
rivals at c first s = takes_part at c s && not (bytes_eq first.cid s.cid)

abbrev pub paired : ℕ → Contest → List Stream → Stream → Option Pair
paired at c ss first = option_map (λ (s : Stream). record { first = first.cid; second = s.cid }) (find (rivals at c first) ss)

-- the first two sources, as they appeared, that take part in it
abbrev pub pair_of : ℕ → Contest → List Stream → Option Pair
pair_of at c ss = option_and_then (paired at c ss) (find (takes_part at c) ss)

-- a contest that ends is none, nor is a source for which there is no room
abbrev pub troubles_of : ℕ → List Stream → What → List Trouble
troubles_of at streams (what.Lost place) = Lost place ∷ []
troubles_of at streams (what.Heard place news) = news_troubles place news
troubles_of at streams (what.Refused sender fault) = Refused sender fault ∷ []
troubles_of at streams (what.Untracked sender) = []
troubles_of at streams (what.Contest contest) = if nat_le 2 contest.sources then Rivals contest (pair_of at contest streams) ∷ [] else []

-- what one thing told leaves
abbrev pub alarms_after : Told → KeptAlarms → KeptAlarms
alarms_after told k = with_troubles told.occurrence.at (troubles_of told.occurrence.at told.book.streams told.occurrence.what) k

-- and what a list of them leaves
abbrev pub alarms_told : List Told → KeptAlarms → KeptAlarms
alarms_told [] k = k
alarms_told (told ∷ more) k = alarms_told more (alarms_after told k)
