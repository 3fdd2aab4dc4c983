-- What a run hands over within a turn is what is due in it.
use Rattle.std.proofs.Common.{◌≡◌, ℕ, zero, suc, Bool, true, false, true≢false, cond, nat_lt, min, List, [], ◌∷◌, ◌++◌, Option, None, Some, is_some, refl, sym, ap, ◌∙◌, append_assoc, append-nil}
use Rattle.sacn_replay.specs.declared.orders.PlayOrder.{PlayOrder}
use Rattle.sacn_replay.specs.declared.orders.PlayOrder.TheVariants.{Pause as PauseOrder, Go as GoOrder, SetSpeed as SpeedOrder, Seek as SeekOrder}
use Rattle.sacn_replay.specs.declared.replay.ReplayCore.{ReplayCore}
use Rattle.sacn_replay.specs.declared.step.Step.{Step}
use Rattle.sacn_replay.specs.declared.step.Step.TheVariants.{Wait, Send, Skip, Pass, Again, End, Rest}
use Rattle.sacn_replay.specs.Heads.{last_moment}
use Rattle.sacn_replay.specs.Steps.{after_step, at_reading, turn_due}
use Rattle.sacn_replay.specs.Playing.{Recorded, HandedOver, Event, Reading, Pause, Go, SetSpeed, answered, asked, handed_by}
use Rattle.sacn_replay.specs.Runs.{Player, Round, AllGoOn, AreRounds, Comes, IsRound, after_round, after_rounds, has_to_wait, octets_sent, ordered_core, played, run_sends, sends, sent_at, step_taken, stepped, wound}
use Rattle.sacn_replay.specs.Turns.{AllWithin, AreInTurn, IsWithin, RunsHandOverWhatIsDue, datagrams_of, events_of, is_in_turn, keeps_turn, order_events, round_events}
use Rattle.sacn_replay.proofs.Turns.{what_is_due}

-- where no record is left, each step waits, rewinds or ends
no_more : (w b l t : Bool) (d : ℕ) → has_to_wait (cond w Again (cond b Rest (cond l (cond t (Wait d) Again) End))) ≡ false
    → is_in_turn (cond w Again (cond b Rest (cond l (cond t (Wait d) Again) End))) ≡ true → ⊥
no_more true b l t d waits turn = true≢false (sym turn)
no_more false true l t d waits turn = true≢false waits
no_more false false true true d waits turn = true≢false waits
no_more false false true false d waits turn = true≢false (sym turn)
no_more false false false t d waits turn = true≢false waits

abbrev with_left : Player → List Recorded → Player
with_left q left = record { core = q.core; reel = record { whole = q.reel.whole; left = left } }

module _ (now : ℕ) (later : ReplayCore → List Recorded → List HandedOver) (none : (c : ReplayCore) → later c [] ≡ []) where
  -- what is asked for at a reading
  abbrev asked_at : Player → List (List ℕ)
  asked_at q = datagrams_of (asked now later q.core q.reel.left)

  -- what comes of the first of some records by a step
  abbrev by_step : Step → ReplayCore → Recorded → List Recorded → List (List ℕ)
  by_step step c r l =
      datagrams_of (answered step (record { reading = c.head.clock; recorded = r }) (asked now later (after_step step (Some r.moment) c) l) (later (after_step step (Some r.moment) c) (r ∷ l)))

  abbrev behind : Step → List Recorded → List Recorded → List Recorded
  behind step whole left = (wound step (record { whole = whole; left = left })).left

  goes : (step : Step) → has_to_wait step ≡ false → is_in_turn step ≡ true → (c : ReplayCore) (whole : List Recorded) (r : Recorded) (l : List Recorded)
      → by_step step c r l ≡ octets_sent step r.datagram ++ datagrams_of (asked now later (after_step step (Some r.moment) c) (behind step whole (r ∷ l)))
  goes Send waits turn c whole r l = refl
  goes Skip waits turn c whole r l = refl
  goes Pass waits turn c whole r l = refl
  goes Again waits turn c whole r l = absurd (true≢false (sym turn))
  goes (Wait until) waits turn c whole r l = absurd (true≢false waits)
  goes End waits turn c whole r l = absurd (true≢false waits)
  goes Rest waits turn c whole r l = absurd (true≢false waits)

  stops : (step : Step) → has_to_wait step ≡ true → is_in_turn step ≡ true → (c : ReplayCore) (whole : List Recorded) (r : Recorded) (l : List Recorded)
      → by_step step c r l ≡ octets_sent step r.datagram ++ datagrams_of (later (after_step step (Some r.moment) c) (behind step whole (r ∷ l)))
  stops (Wait until) waits turn c whole r l = refl
  stops Rest waits turn c whole r l = refl
  stops End waits turn c whole r l = absurd (true≢false (sym turn))
  stops Send waits turn c whole r l = absurd (true≢false (sym waits))
  stops Skip waits turn c whole r l = absurd (true≢false (sym waits))
  stops Pass waits turn c whole r l = absurd (true≢false (sym waits))
  stops Again waits turn c whole r l = absurd (true≢false (sym waits))

  stops_bare : (step : Step) → has_to_wait step ≡ true → (c : ReplayCore) (whole : List Recorded)
      → [] ≡ octets_sent step [] ++ datagrams_of (later (after_step step None c) (behind step whole []))
  stops_bare (Wait until) waits c whole = ap datagrams_of (sym (none c))
  stops_bare Rest waits c whole = ap datagrams_of (sym (none c))
  stops_bare End waits c whole = ap datagrams_of (sym (none c))
  stops_bare Send waits c whole = absurd (true≢false (sym waits))
  stops_bare Skip waits c whole = absurd (true≢false (sym waits))
  stops_bare Pass waits c whole = absurd (true≢false (sym waits))
  stops_bare Again waits c whole = absurd (true≢false (sym waits))

  one_on : (q : Player) → has_to_wait (step_taken now q) ≡ false → is_in_turn (step_taken now q) ≡ true → asked_at q ≡ sent_at now q ++ asked_at (stepped now q)
  one_on q waits turn = by_left q.reel.left waits turn
    where
      by_left : (left : List Recorded) → has_to_wait (step_taken now (with_left q left)) ≡ false → is_in_turn (step_taken now (with_left q left)) ≡ true
          → asked_at (with_left q left) ≡ sent_at now (with_left q left) ++ asked_at (stepped now (with_left q left))
      by_left [] waits turn =
          let read : ReplayCore = at_reading now q.core in
          absurd (no_more read.rewinds read.head.is_paused read.plan.is_loop (nat_lt read.head.clock (turn_due read)) (min (turn_due read) last_moment) waits turn)
      by_left (r ∷ l) waits turn = goes (step_taken now (with_left q (r ∷ l))) waits turn (at_reading now q.core) q.reel.whole r l

  one_stop : (q : Player) → has_to_wait (step_taken now q) ≡ true → is_in_turn (step_taken now q) ≡ true
      → asked_at q ≡ sent_at now q ++ datagrams_of (later (stepped now q).core (stepped now q).reel.left)
  one_stop q waits turn = by_left q.reel.left waits turn
    where
      by_left : (left : List Recorded) → has_to_wait (step_taken now (with_left q left)) ≡ true → is_in_turn (step_taken now (with_left q left)) ≡ true
          → asked_at (with_left q left)
          ≡ sent_at now (with_left q left) ++ datagrams_of (later (stepped now (with_left q left)).core (stepped now (with_left q left)).reel.left)
      by_left [] waits turn = stops_bare (step_taken now (with_left q [])) waits (at_reading now q.core) q.reel.whole
      by_left (r ∷ l) waits turn = stops (step_taken now (with_left q (r ∷ l))) waits turn (at_reading now q.core) q.reel.whole r l

  steps_on : (n : ℕ) (p : Player) → AllGoOn now n p → AreInTurn now n p → asked_at p ≡ sends now n p ++ asked_at (played now n p)
  steps_on zero p go turns = refl
  steps_on (suc n) p go turns =
      let q : Player = played now n p in
      steps_on n p go.1 turns.1
      ∙ ap (λ (xs : List (List ℕ)). sends now n p ++ xs) (one_on q go.0 turns.0)
      ∙ sym (append_assoc (sends now n p) (sent_at now q) (asked_at (stepped now q)))

  reading_is : (n : ℕ) (p : Player) (came : Option Step) → Comes now n p came → is_some came ≡ true → AreInTurn now n p
      → asked_at p ≡ sends now n p ++ datagrams_of (later (played now n p).core (played now n p).reel.left)
  reading_is n p None comes some turns = absurd (true≢false (sym some))
  reading_is zero p (Some step) comes some turns = absurd comes
  reading_is (suc n) p (Some step) comes some turns =
      let q : Player = played now n p in
      steps_on n p comes.3 turns.1
      ∙ ap (λ (xs : List (List ℕ)). sends now n p ++ xs) (one_stop q (ap has_to_wait (sym comes.1) ∙ comes.2) turns.0)
      ∙ sym (append_assoc (sends now n p) (sent_at now q) (datagrams_of (later (stepped now q).core (stepped now q).reel.left)))

none_handed : (es : List Event) (c : ReplayCore) → handed_by es c [] ≡ []
none_handed [] c = refl
none_handed (Reading now ∷ es) c = refl
none_handed (Pause now ∷ es) c = none_handed es _
none_handed (Go now ∷ es) c = none_handed es _
none_handed (SetSpeed now speed ∷ es) c = none_handed es _

order_is : (now : ℕ) (order : Option PlayOrder) → keeps_turn order ≡ true → (es : List Event) (c : ReplayCore) (rs : List Recorded)
    → handed_by (order_events now order ++ es) c rs ≡ handed_by es (ordered_core now order c) rs
order_is now None keeps es c rs = refl
order_is now (Some PauseOrder) keeps es c rs = refl
order_is now (Some GoOrder) keeps es c rs = refl
order_is now (Some (SpeedOrder speed)) keeps es c rs = refl
order_is now (Some (SeekOrder moment)) keeps es c rs = absurd (true≢false (sym keeps))

-- what goes out by some events of a player
abbrev handed_of : List Event → Player → List (List ℕ)
handed_of es p = datagrams_of (handed_by es p.core p.reel.left)

round_is : (r : Round) (p : Player) (es : List Event) → IsRound r p → IsWithin r p → handed_of (round_events r ++ es) p ≡ sends r.now r.steps p ++ handed_of es (after_round r p)
round_is r p es is within =
    let q : Player = played r.now r.steps p in
    let events : List Event = order_events r.now r.order ++ es in
    reading_is r.now (handed_by events) (none_handed events) r.steps p r.came_to is.0 within.2 within.0
    ∙ ap (λ (hs : List HandedOver). sends r.now r.steps p ++ datagrams_of hs) (order_is r.now r.order within.1 es q.core q.reel.left)

rounds_are : (p : Player) (rs : List Round) (es : List Event) → AreRounds p rs → AllWithin p rs → handed_of (events_of rs ++ es) p ≡ run_sends p rs ++ handed_of es (after_rounds p rs)
rounds_are p [] es are within = refl
rounds_are p (r ∷ rs) es are within =
    let q : Player = after_rounds p rs in
    ap (λ (e : List Event). handed_of e p) (append_assoc (events_of rs) (round_events r) es)
    ∙ rounds_are p rs (round_events r ++ es) are.1 within.1
    ∙ ap (λ (xs : List (List ℕ)). run_sends p rs ++ xs) (round_is r q es are.0 within.0)
    ∙ sym (append_assoc (run_sends p rs) (sends r.now r.steps q) (handed_of es (after_round r q)))

pub hands_what_is_due : RunsHandOverWhatIsDue
hands_what_is_due p rs rewinds are within =
    sym (rounds_are p rs [] are within ∙ append-nil (run_sends p rs))
    ∙ ap (λ (e : List Event). handed_of e p) (append-nil (events_of rs))
    ∙ ap datagrams_of (what_is_due (events_of rs) p.core p.reel.left rewinds)
