use Rattle.std.proofs.Common.{◌≡◌, ◌+◌, ◌*◌, ◌^◌, ◌≤◌, drop}
use Rattle.sacn_replay.specs.Words.{value_after}
use Rattle.sacn_replay.proofs.word.value_of.Given as goal

-- the value of what is done, and then of what is left, is that of all
abbrev pub invariant-loop-digit : goal.invariant-loop-digit
invariant-loop-digit l = (value_after l.value (drop l.digit-index l.digits) ≡ value_after 0 l.digits) × (l.value + 23 ≤ 23 * 10 ^ l.digit-index)
