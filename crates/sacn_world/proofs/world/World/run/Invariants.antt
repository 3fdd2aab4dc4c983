use Rattle.std.proofs.Common.{◌≡◌, ◌≤◌, Some, take, length, vec_len, vec_capacity}
use Rattle.sacn_world.specs.Runs.{ran}
use Rattle.sacn_world.proofs.world.World.run.Given as goal

-- the events so far have these answers; there is room for the others
abbrev pub invariant-loop-place : goal.invariant-loop-place
invariant-loop-place l =
    (ran l.fn.self (take l.place l.events) ≡ Some (record { answers = l.answers.items; world = l.self }))
    × (vec_len l.answers ≡ l.place)
    × (length l.events ≤ vec_capacity l.answers)
