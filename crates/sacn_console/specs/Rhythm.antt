-- The rhythm of a console: how far its packets on a universe are apart, and how a universe ends. Lists have the latest first.
use Rattle.std.specs.Prelude.{◌≡◌, ℕ, ◌+◌, ◌<◌, ◌≤◌, Bool, true, List, [], ◌∷◌, get_or, length, None}
use Rattle.sacn_console.specs.Lines.{Deed}
use Rattle.sacn_console.specs.Due.{Life, Sent, Runs, Ends, packets, packets_since, is_ended, mode, due_by_list}
use Rattle.sacn_console.specs.Runs.{Call, deeds_after}

-- each packet comes 25 ms or more after the one before it
abbrev pub KeepsGap : List Sent → Type 0
KeepsGap [] = Unit {0}
KeepsGap (s ∷ []) = Unit {0}
KeepsGap (s ∷ r ∷ ss) = (r.moment + 25 ≤ s.moment) × KeepsGap (r ∷ ss)

-- Over any list of orders and polls each packet of a life on a universe comes 25 ms or more after the one before it.
abbrev pub PacketsKeepTheirGap : Type 0
PacketsKeepTheirGap = (life : Life) (calls : List Call) (u : ℕ) → KeepsGap (packets u (deeds_after life 0 [] calls))

-- the latest packet came less than so many milliseconds before t
abbrev pub IsSentSince : ℕ → ℕ → List Sent → Type 0
IsSentSince wait t [] = ⊥
IsSentSince wait t (s ∷ ss) = t < s.moment + wait

-- where a poll gives nothing: a universe that runs was sent less than 900 ms before, and one that ends less than 25 ms before
pub record IsQuiet (t : ℕ) (ds : List Deed) (u : ℕ) : Type 0 where
  pub runs : mode u ds ≡ Runs → IsSentSince 900 t (packets u ds)
  pub ends : mode u ds ≡ Ends → IsSentSince 25 t (packets u ds)

abbrev pub NoneWaitsTooLong : Type 0
NoneWaitsTooLong = (life : Life) (t : ℕ) (ds : List Deed) → due_by_list life t ds ≡ None →
    (i : ℕ) → i < length life.universes → IsQuiet t ds (get_or life.universes i 0)

-- each packet terminates its stream (E1.31, 6.2.6), or none does
abbrev pub AllTerminate : Bool → List Sent → Type 0
AllTerminate b [] = Unit {0}
AllTerminate b (s ∷ ss) = (s.data_sent.terminated ≡ b) × AllTerminate b ss

-- since the latest order on a universe its packets are terminations exactly where that ended it, and then three at most
pub record EndsByThree (u : ℕ) (ds : List Deed) : Type 0 where
  pub all : AllTerminate (is_ended u ds) (packets_since u ds)
  pub few : is_ended u ds ≡ true → length (packets_since u ds) ≤ 3

-- Over any list of orders and polls a universe ends by three terminations, and nothing after them.
abbrev pub AnEndIsThreeTerminations : Type 0
AnEndIsThreeTerminations = (life : Life) (calls : List Call) (u : ℕ) → EndsByThree u (deeds_after life 0 [] calls)
