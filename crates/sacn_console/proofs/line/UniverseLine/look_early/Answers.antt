use Rattle.std.proofs.Common.{sym, ◌∙◌}
use Rattle.sacn_console.proofs.Wakes.{look_fading, look_waiting, look_quiet}
use Rattle.sacn_console.proofs.line.UniverseLine.look_early.Goals as goal

pub returns-then-not-is_still : goal.returns-then-not-is_still
returns-then-not-is_still c = look_fading (record { patch = c.args.patch.now; player = c.args.player.now.player.now }) c.args.moment c.args.self.now c.args.slots.now _ c.args.is_still c.requires.tells c.if-not-is_still.true c.requires.early c.when_passed-gap.ensures

pub returns-then-asks : goal.returns-then-asks
returns-then-asks c = look_waiting (record { patch = c.args.patch.now; player = c.args.player.now.player.now }) c.args.moment c.args.self.now _ _ c.requires.clock (c.requires.still c.if-not-is_still.false) c.fill.ensures c.requires.early (sym c.asks.ensures ∙ c.if-asks.true) c.when_passed-gap.ensures

pub returns : goal.returns
returns c = look_quiet (record { patch = c.args.patch.now; player = c.args.player.now.player.now }) c.args.moment c.args.self.now _ _ c.requires.clock (c.requires.still c.if-not-is_still.false) c.requires.goes c.fill.ensures (sym c.asks.ensures ∙ c.if-asks.false) c.when_passed.ensures
