-- What a player does with the next record of its file.
use Rattle.std.specs.Prelude.{ℕ, ◌+◌, nat_lt, max, min, Bool, true, false, Option, None, Some, if◌then◌else◌}
use Rattle.sacn_replay.specs.declared.counts.ReplayCounts.{ReplayCounts}
use Rattle.sacn_replay.specs.declared.plan.ReplayPlan.{ReplayPlan}
use Rattle.sacn_replay.specs.declared.replay.ReplayCore.{ReplayCore}
use Rattle.sacn_replay.specs.declared.replay.TheConstants.{SHORTEST_TURN}
use Rattle.sacn_replay.specs.declared.step.Step.{Step}
use Rattle.sacn_replay.specs.declared.step.Step.TheVariants.{Wait, Send, Skip, Pass, Again, End, Rest}
use Rattle.sacn_replay.specs.Heads.{last_moment, begun_head, ticked, due, judged, played_from, paused, going, at_speed}

abbrev pub no_counts : ReplayCounts
no_counts = record { sent = 0; stale = 0; passed = 0 }

-- a record is at the greatest moment of the records so far
abbrev pub place_of : ℕ → ReplayCore → ℕ
place_of moment c = max c.greatest moment

abbrev pub is_after : Option ℕ → ℕ → Bool
is_after None moment = false
is_after (Some last) moment = nat_lt last moment

-- where a turn ends: at the moment that is asked for, or with its last record
abbrev pub end_of : Option ℕ → ℕ → ℕ
end_of None greatest = greatest
end_of (Some last) greatest = last

-- when the next turn is due: at this one's end, and a second after it began, or later
abbrev pub turn_due : ReplayCore → ℕ
turn_due c = max (due (end_of c.plan.until c.greatest) c.head) (c.turn + SHORTEST_TURN)

-- what is done at the end of a turn
abbrev pub end_step : ReplayCore → Step
end_step c =
    if c.head.is_paused then Rest
    else (if c.plan.is_loop then (if nat_lt c.head.clock (turn_due c) then Wait (min (turn_due c) last_moment) else Again) else End)

-- what is done with a record at a place
abbrev pub step_at : ℕ → ReplayCore → Step
step_at place c = if nat_lt place c.first then Pass else (if is_after c.plan.until place then end_step c else judged place c.head)

abbrev pub step_for : Option ℕ → ReplayCore → Step
step_for None c = end_step c
step_for (Some moment) c = step_at (place_of moment c) c

-- what is done next: a file that has to be rewound is rewound first
abbrev pub next_step : Option ℕ → ReplayCore → Step
next_step next c = if c.rewinds then Again else step_for next c

abbrev pub one_more : ℕ → ℕ
one_more n = min (n + 1) last_moment

-- a turn begins, from a moment of the recording on
abbrev pub begun_at : ℕ → ReplayCore → ReplayCore
begun_at moment c = record c { head = played_from moment c.head; first = moment; greatest = 0; turn = c.head.clock }

-- the file is rewound: by a seek, which began its turn, or since the turn is at its end
abbrev pub rewound : ReplayCore → ReplayCore
rewound c = if c.rewinds then record c { rewinds = false } else begun_at c.plan.from c

-- a record is passed
abbrev pub past : Option ℕ → ReplayCore → ReplayCore
past None c = c
past (Some moment) c = record c { greatest = place_of moment c }

-- what a player knows after a step
abbrev pub after_step : Step → Option ℕ → ReplayCore → ReplayCore
after_step Send next c = record (past next c) { counts = record c.counts { sent = one_more c.counts.sent } }
after_step Skip next c = record (past next c) { counts = record c.counts { stale = one_more c.counts.stale } }
after_step Pass next c = record (past next c) { counts = record c.counts { passed = one_more c.counts.passed } }
after_step Again next c = rewound c
after_step (Wait until) next c = c
after_step End next c = c
after_step Rest next c = c

-- a reading of the clock
abbrev pub at_reading : ℕ → ReplayCore → ReplayCore
at_reading now c = record c { head = ticked now c.head }

-- a player that begins
abbrev pub begun_core : ℕ → ReplayPlan → ReplayCore
begun_core now plan = record {
  head = begun_head now plan.from plan.speed;
  plan = plan;
  first = plan.from;
  greatest = 0;
  turn = now;
  rewinds = false;
  counts = no_counts;
}

-- the orders that are typed
abbrev pub after_pause : ReplayCore → ReplayCore
after_pause c = record c { head = paused c.head }

abbrev pub after_go : ReplayCore → ReplayCore
after_go c = record c { head = going c.head }

abbrev pub after_speed : ℕ → ReplayCore → ReplayCore
after_speed speed c = record c { head = at_speed speed c.head }

abbrev pub after_seek : ℕ → ReplayCore → ReplayCore
after_seek moment c = record (begun_at (max c.plan.from moment) c) { rewinds = true }
