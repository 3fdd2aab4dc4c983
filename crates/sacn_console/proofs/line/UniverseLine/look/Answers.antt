use Rattle.std.proofs.Common.{sym, arith, ◌∙◌}
use Rattle.sacn_console.proofs.Wakes.{look_stopped, look_due, look_quiet, look_awake, look_resting}
use Rattle.sacn_console.proofs.line.UniverseLine.look.Goals as goal

pub returns-then-is_stopped : goal.returns-then-is_stopped
returns-then-is_stopped c = look_stopped (record { patch = c.args.patch.now; player = c.args.player.now.player.now }) c.args.moment c.args.self.now c.args.slots.now _ (sym c.is_stopped.ensures ∙ c.if-is_stopped.true) (omega arith)

pub returns-then-asks : goal.returns-then-asks
returns-then-asks c = look_due (record { patch = c.args.patch.now; player = c.args.player.now.player.now }) c.args.moment c.args.self.now _ c.requires.clock (sym c.has_passed.ensures ∙ c.if-not-has_passed.false) c.fill.ensures (sym c.asks.ensures ∙ c.if-asks.true)

pub returns-then-is_still : goal.returns-then-is_still
returns-then-is_still c =
    look_quiet (record { patch = c.args.patch.now; player = c.args.player.now.player.now }) c.args.moment c.args.self.now _ _ c.requires.clock (c.requires.still c.if-is_still.true) (sym c.is_stopped.ensures ∙ c.if-is_stopped.false) c.fill.ensures (sym c.asks.ensures ∙ c.if-asks.false) c.when_passed.ensures

pub returns-then-rests : goal.returns-then-rests
returns-then-rests c =
    look_resting (record { patch = c.args.patch.now; player = c.args.player.now.player.now }) c.args.moment c.args.self.now _ _ c.args.is_still c.requires.tells c.if-is_still.false c.requires.clock (c.rests.ensures c.if-rests.true) (sym c.is_stopped.ensures ∙ c.if-is_stopped.false) c.fill.ensures (sym c.asks.ensures ∙ c.if-asks.false) c.when_passed-then-rests.ensures

pub returns : goal.returns
returns c = look_awake (record { patch = c.args.patch.now; player = c.args.player.now.player.now }) c.args.moment c.args.self.now _ _ c.args.is_still c.requires.tells c.if-is_still.false c.requires.clock c.fill.ensures (sym c.asks.ensures ∙ c.if-asks.false) c.saturating_add.ensures
