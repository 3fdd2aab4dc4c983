-- One step after another, and one round after another, of a player.
use Rattle.std.proofs.Common.{◌≡◌, ℕ, suc, ◌+◌, ◌<◌, Bool, true, false, List, [], ◌∷◌, ◌++◌, length, Option, None, Some, is_some, IfSome, sym, ap, subst, ◌∙◌, append-nil, arith}
use Rattle.std.specs.Option.{option_map}
use Rattle.std.proofs.lemmas.List.{map-append}
use Rattle.sacn_edge.specs.Additions.{Extends}
use Rattle.sacn_edge.specs.ConsoleSends.{Handed, datagrams}
use Rattle.sacn_edge.proofs.NodeLemmas.{Extends-append}
use Rattle.sacn_replay.specs.declared.orders.PlayOrder.{PlayOrder}
use Rattle.sacn_replay.specs.declared.replay.ReplayCore.{ReplayCore}
use Rattle.sacn_replay.specs.declared.run.Next.{Next}
use Rattle.sacn_replay.specs.declared.step.Step.{Step}
use Rattle.sacn_replay.specs.Steps.{next_step, after_step, at_reading}
use Rattle.sacn_replay.specs.Reels.{Reel, next_moment, next_octets}
use Rattle.sacn_replay.specs.Talks.{Talk, Looked}
use Rattle.sacn_replay.specs.Runs.{Player, Round, Holds, Comes, AllGoOn, IsRun, NoneIsLast, after_round, asked_for, closing, octets_sent, has_to_wait, is_over, next_of, ordered_core, played, round_talk, sends, sent_at, step_taken, stepped, wound}

pub Extends-none : {X : Type 0} (a : Option (List X)) → Extends a a []
Extends-none None = tt
Extends-none (Some xs) = sym (append-nil xs)

-- ---- a step

-- what the tape and the core answered, where they are a player's
module _ (now : ℕ) (told mid : Option Reel) (core : ReplayCore) (p : Player) (moment : Option ℕ) (step : Step) (holds : Holds told core p) (same : mid ≡ told) (next : IfSome told (λ (reel : Reel). moment ≡ next_moment reel.left)) (is : step ≡ next_step moment (at_reading now core)) where
  moment_is : moment ≡ next_moment p.reel.left
  moment_is = subst (λ (t : Option Reel). IfSome t (λ (reel : Reel). moment ≡ next_moment reel.left)) holds.0 next

  pub step_is : step ≡ step_taken now p
  step_is = is ∙ (λ i. next_step (moment_is i) (at_reading now (holds.1 i)))

  pub core_is : (new : ReplayCore) → new ≡ after_step step moment (at_reading now core) → new ≡ (stepped now p).core
  core_is new took = took ∙ (λ i. after_step (step_is i) (moment_is i) (at_reading now (holds.1 i)))

  pub reel_is : (new : Option Reel) → new ≡ option_map (wound step) mid → new ≡ Some (wound (step_taken now p) p.reel)
  reel_is new winds =
      winds ∙ ap (option_map (wound step)) (same ∙ holds.0) ∙ ap (λ (s : Step). let r : Option Reel = Some (wound s p.reel) in r) step_is

  pub sent_is : (hs : Handed) → IfSome mid (λ (reel : Reel). datagrams hs ≡ octets_sent step (next_octets reel.left)) → datagrams hs ≡ sent_at now p
  sent_is hs sends =
      let theirs : datagrams hs ≡ octets_sent step (next_octets p.reel.left) = subst (λ (t : Option Reel). IfSome t (λ (reel : Reel). datagrams hs ≡ octets_sent step (next_octets reel.left))) (same ∙ holds.0) sends in
      theirs ∙ ap (λ (s : Step). octets_sent s (next_octets p.reel.left)) step_is

-- ---- the steps of a round

pub sends_both : (hs ms : Handed) (xs ys : List (List ℕ)) → datagrams hs ≡ xs → datagrams ms ≡ ys → datagrams (hs ++ ms) ≡ xs ++ ys
sends_both hs ms xs ys sofar more =
    map-append (λ (h : List ℕ × Bool). h.0) hs ms ∙ ap (λ (os : List (List ℕ)). os ++ datagrams ms) sofar ∙ ap (λ (os : List (List ℕ)). xs ++ os) more

module _ (now n : ℕ) (p : Player) where
  one_more : suc n ≡ n + 1
  one_more = omega arith

  pub holds_more : (told : Option Reel) (core : ReplayCore) → Holds told core (stepped now (played now n p)) → Holds told core (played now (n + 1) p)
  holds_more told core holds = subst (λ (m : ℕ). Holds told core (played now m p)) one_more holds

  pub sends_more : (hs ms : Handed) → datagrams hs ≡ sends now n p → datagrams ms ≡ sent_at now (played now n p) → datagrams (hs ++ ms) ≡ sends now (n + 1) p
  sends_more hs ms sofar more =
      sends_both hs ms (sends now n p) (sent_at now (played now n p)) sofar more ∙ ap (λ (m : ℕ). sends now m p) one_more

  pub on_more : (step : Step) → step ≡ step_taken now (played now n p) → has_to_wait step ≡ false → AllGoOn now n p → AllGoOn now (n + 1) p
  on_more step is goes sofar = subst (λ (m : ℕ). AllGoOn now m p) one_more (ap has_to_wait (sym is) ∙ goes, sofar)

  pub comes : (step : Step) → step ≡ step_taken now (played now n p) → has_to_wait step ≡ true → n < 4096 → AllGoOn now n p → Comes now (n + 1) p (Some step)
  comes step is waits below sofar = subst (λ (m : ℕ). Comes now m p (Some step)) one_more (below, is, waits, sofar)

-- ---- a round

module _ (r : Round) (p : Player) (is_ordered : Bool) (ordered : is_ordered ≡ is_some r.order) (next : Next) (next_is : next ≡ next_of r.came_to is_ordered) where
  nexts : next ≡ next_of r.came_to (is_some r.order)
  nexts = next_is ∙ ap (next_of r.came_to) ordered

  pub talk_round : (a b c d : Option (List Talk)) (core : ReplayCore) → core ≡ (after_round r p).core → Extends a b (asked_for r.now r.came_to r.order) → Extends b c (Looked core ∷ [])
      → Extends c d (closing next r.ends) → Extends a d (round_talk r p)
  talk_round a b c d core is asks looks closes =
      let look : Talk = Looked (after_round r p).core in
      let close : List Talk = closing (next_of r.came_to (is_some r.order)) r.ends in
      Extends-append a b d (asked_for r.now r.came_to r.order) (look ∷ close) asks
      (Extends-append b c d (look ∷ []) close (subst (λ (k : ReplayCore). Extends b c (Looked k ∷ [])) is looks) (subst (λ (x : Next). Extends c d (closing x r.ends)) nexts closes))

  pub over_is : (over : Bool) → over ≡ is_over next r.ends → over ≡ is_over (next_of r.came_to (is_some r.order)) r.ends
  over_is over closed = closed ∙ ap (λ (x : Next). is_over x r.ends) nexts

-- an order at a player that is told so
pub ordered_more : (now : ℕ) (order : Option PlayOrder) (p : Player) (mid new : ReplayCore) → new ≡ ordered_core now order mid → mid ≡ p.core → new ≡ ordered_core now order p.core
ordered_more now order p mid new is was = is ∙ ap (ordered_core now order) was

-- a run of which no round was the last
pub run_made : (rounds : ℕ) (rs : List Round) → NoneIsLast rs → length rs ≡ rounds → IsRun rounds rs
run_made rounds [] none all = sym all
run_made rounds (r ∷ rs) none all = (none.1, omega (arith, all), λ _. all)
