use Rattle.std.proofs.Common.{◌-◌, ◌+◌, length, sym, ◌∙◌, ap, arith}
use Rattle.std.specs.Prelude.{option_map}
use Rattle.sacn_capture.specs.Check.{map_ok}
use Rattle.sacn_capture.specs.Pcapng.{value_among}
use Rattle.sacn_capture.proofs.Options.{answered, asked_on}
use Rattle.sacn_capture.proofs.pcapng.option_value.Goals as goal

pub returns-in-Some : goal.returns-in-Some
returns-in-Some c =
    answered (length c.args.options.now - c.loop-turn.turn) c.args.code c.args.order c.loop-turn.rest.now (map_ok (λ found. option_map (λ octets. octets.now) found) c.in-Some.found)
    (value_among (length c.args.options.now) c.args.code c.args.order c.args.options.now) (omega (arith, c.loop-turn-test.true)) (sym c.in-Some.ensures.answer) c.loop-turn.invariant

pub loop-turn-preserved : goal.loop-turn-preserved
loop-turn-preserved c =
    ap (λ xs. value_among (length c.args.options.now - (c.loop-turn.turn + 1)) c.args.code c.args.order xs) c.after_option-rest.ensures
    ∙ asked_on (length c.args.options.now - c.loop-turn.turn) (length c.args.options.now - (c.loop-turn.turn + 1)) c.args.code c.args.order c.loop-turn.rest.now
    (value_among (length c.args.options.now) c.args.code c.args.order c.args.options.now) (omega (arith, c.loop-turn-test.true)) (sym c.in-None.ensures.answer) c.loop-turn.invariant
