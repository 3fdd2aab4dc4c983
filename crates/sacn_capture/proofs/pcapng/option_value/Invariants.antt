use Rattle.std.proofs.Common.{◌≡◌, ◌-◌, length}
use Rattle.sacn_capture.specs.Pcapng.{value_among}
use Rattle.sacn_capture.proofs.pcapng.option_value.Given as goal

-- what is left to look at gives what all the options do
abbrev pub invariant-loop-turn : goal.invariant-loop-turn
invariant-loop-turn l = value_among (length l.options - l.turn) l.code l.order l.rest ≡ value_among (length l.options) l.code l.order l.options
