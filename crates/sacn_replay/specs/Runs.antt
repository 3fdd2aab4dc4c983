-- A playback, round by round. Lists of rounds have the latest first.
use Rattle.std.specs.Prelude.{◌≡◌, ◌≤◌, ◌<◌, ℕ, zero, suc, ◌+◌, ⊤, Bool, true, false, List, [], ◌∷◌, ◌++◌, length, Option, None, Some, is_some, if◌then◌else◌}
use Rattle.sacn_replay.specs.declared.orders.PlayOrder.{PlayOrder}
use Rattle.sacn_replay.specs.declared.orders.PlayOrder.TheVariants.{Pause, Go, SetSpeed, Seek}
use Rattle.sacn_replay.specs.declared.plan.ReplayPlan.{ReplayPlan}
use Rattle.sacn_replay.specs.declared.replay.ReplayCore.{ReplayCore}
use Rattle.sacn_replay.specs.declared.run.Next.{Next}
use Rattle.sacn_replay.specs.declared.run.Next.TheVariants.{Round as NextRound, Wait as NextWait, Nothing}
use Rattle.sacn_replay.specs.declared.run.TheConstants.{MAX_STEPS}
use Rattle.sacn_replay.specs.declared.step.Step.{Step}
use Rattle.sacn_replay.specs.declared.step.Step.TheVariants.{Wait, Send, Skip, Pass, Again, End, Rest}
use Rattle.sacn_replay.specs.Heads.{last_moment}
use Rattle.sacn_replay.specs.Steps.{begun_core, next_step, after_step, at_reading, after_pause, after_go, after_speed, after_seek}
use Rattle.sacn_replay.specs.Reels.{Reel, next_moment, next_octets, passed, at_first}
use Rattle.sacn_replay.specs.Talks.{Talk, Waited, Asked, Looked, EndAsked}

-- a player's core, and the records of its tape
pub record Player : Type 0 where
  pub core : ReplayCore
  pub reel : Reel

-- a core is the player's, and a tape that tells it has its records
abbrev pub Holds : Option Reel → ReplayCore → Player → Type 0
Holds told c p = (told ≡ Some p.reel) × (c ≡ p.core)

-- ---- one step

-- what is done with the next record at a reading
abbrev pub step_taken : ℕ → Player → Step
step_taken now p = next_step (next_moment p.reel.left) (at_reading now p.core)

-- the record behind it is next, or the first one, or the same
abbrev pub wound : Step → Reel → Reel
wound Send reel = passed reel
wound Skip reel = passed reel
wound Pass reel = passed reel
wound Again reel = at_first reel
wound (Wait until) reel = reel
wound End reel = reel
wound Rest reel = reel

-- the player after a step
abbrev pub stepped : ℕ → Player → Player
stepped now p = record {
  core = after_step (step_taken now p) (next_moment p.reel.left) (at_reading now p.core);
  reel = wound (step_taken now p) p.reel;
}

-- what a step hands to the link, of the octets of the next record
abbrev pub octets_sent : Step → List ℕ → List (List ℕ)
octets_sent Send octets = octets ∷ []
octets_sent Skip octets = []
octets_sent Pass octets = []
octets_sent Again octets = []
octets_sent (Wait until) octets = []
octets_sent End octets = []
octets_sent Rest octets = []

abbrev pub sent_at : ℕ → Player → List (List ℕ)
sent_at now p = octets_sent (step_taken now p) (next_octets p.reel.left)

-- whether no other step is made at the same reading
abbrev pub has_to_wait : Step → Bool
has_to_wait (Wait until) = true
has_to_wait End = true
has_to_wait Rest = true
has_to_wait Send = false
has_to_wait Skip = false
has_to_wait Pass = false
has_to_wait Again = false

-- ---- the steps of a round

-- the player after so many steps at a reading
abbrev pub played : ℕ → ℕ → Player → Player
played now zero p = p
played now (suc n) p = stepped now (played now n p)

-- what they hand over
abbrev pub sends : ℕ → ℕ → Player → List (List ℕ)
sends now zero p = []
sends now (suc n) p = sends now n p ++ sent_at now (played now n p)

-- another step is made after each of them
abbrev pub AllGoOn : ℕ → ℕ → Player → Type 0
AllGoOn now zero p = ⊤
AllGoOn now (suc n) p = (has_to_wait (step_taken now (played now n p)) ≡ false) × AllGoOn now n p

-- the last of them is the first after which the player waits; None where they are the most of a round
abbrev pub Comes : ℕ → ℕ → Player → Option Step → Type 0
Comes now n p None = (n ≡ MAX_STEPS) × AllGoOn now n p
Comes now zero p (Some step) = ⊥
Comes now (suc n) p (Some step) = (n < MAX_STEPS) × (step ≡ step_taken now (played now n p)) × (has_to_wait step ≡ true) × AllGoOn now n p

-- ---- a round

-- its reading, its steps and what they came to, its order, and whether no order will come any more
pub record Round : Type 0 where
  pub now : ℕ
  pub steps : ℕ
  pub came_to : Option Step
  pub order : Option PlayOrder
  pub ends : Bool

-- an order is asked for where the player waits
abbrev pub IsOrder : Option Step → Option PlayOrder → Type 0
IsOrder None order = order ≡ None
IsOrder (Some step) order = ⊤

abbrev pub asked_for : ℕ → Option Step → Option PlayOrder → List Talk
asked_for now None order = []
asked_for now (Some step) order = Asked now order ∷ []

-- it holds from the reading at which it is taken
abbrev pub ordered_core : ℕ → Option PlayOrder → ReplayCore → ReplayCore
ordered_core now None c = c
ordered_core now (Some Pause) c = after_pause (at_reading now c)
ordered_core now (Some Go) c = after_go (at_reading now c)
ordered_core now (Some (SetSpeed speed)) c = after_speed speed (at_reading now c)
ordered_core now (Some (Seek moment)) c = after_seek moment (at_reading now c)

-- what comes after a round: where there was no order, the wait, or the end
abbrev pub next_of : Option Step → Bool → Next
next_of came_to true = NextRound
next_of None false = NextRound
next_of (Some (Wait until)) false = NextWait until
next_of (Some Rest) false = NextWait last_moment
next_of (Some End) false = Nothing
next_of (Some Send) false = NextRound
next_of (Some Skip) false = NextRound
next_of (Some Pass) false = NextRound
next_of (Some Again) false = NextRound

-- a wait only where orders may come
abbrev pub closing : Next → Bool → List Talk
closing Nothing ends = []
closing NextRound ends = EndAsked ends ∷ []
closing (NextWait until) ends = EndAsked ends ∷ (if ends then [] else Waited until ∷ [])

abbrev pub is_over : Next → Bool → Bool
is_over Nothing ends = true
is_over NextRound ends = ends
is_over (NextWait until) ends = ends

abbrev pub IsRound : Round → Player → Type 0
IsRound r p = Comes r.now r.steps p r.came_to × IsOrder r.came_to r.order

abbrev pub after_round : Round → Player → Player
after_round r p = let q : Player = played r.now r.steps p in record { core = ordered_core r.now r.order q.core; reel = q.reel }

abbrev pub is_last : Round → Bool
is_last r = is_over (next_of r.came_to (is_some r.order)) r.ends

abbrev pub round_talk : Round → Player → List Talk
round_talk r p =
    asked_for r.now r.came_to r.order ++ Looked (after_round r p).core ∷ closing (next_of r.came_to (is_some r.order)) r.ends

-- ---- a run

abbrev pub begun_player : ℕ → ReplayPlan → Reel → Player
begun_player start plan reel = record { core = begun_core start plan; reel = reel }

abbrev pub after_rounds : Player → List Round → Player
after_rounds first [] = first
after_rounds first (r ∷ rs) = after_round r (after_rounds first rs)

abbrev pub AreRounds : Player → List Round → Type 0
AreRounds first [] = ⊤
AreRounds first (r ∷ rs) = IsRound r (after_rounds first rs) × AreRounds first rs

-- what the link is handed
abbrev pub run_sends : Player → List Round → List (List ℕ)
run_sends first [] = []
run_sends first (r ∷ rs) = run_sends first rs ++ sends r.now r.steps (after_rounds first rs)

abbrev pub run_talk : Player → List Round → List Talk
run_talk first [] = []
run_talk first (r ∷ rs) = run_talk first rs ++ round_talk r (after_rounds first rs)

-- the readings, in their order
abbrev pub readings : List Round → List ℕ
readings [] = []
readings (r ∷ rs) = readings rs ++ r.now ∷ []

abbrev pub NoneIsLast : List Round → Type 0
NoneIsLast [] = ⊤
NoneIsLast (r ∷ rs) = (is_last r ≡ false) × NoneIsLast rs

-- a run ends with its last round, or when so many were made
abbrev pub IsRun : ℕ → List Round → Type 0
IsRun rounds [] = rounds ≡ 0
IsRun rounds (r ∷ earlier) = NoneIsLast earlier × (length (r ∷ earlier) ≤ rounds) × (is_last r ≡ false → length (r ∷ earlier) ≡ rounds)
