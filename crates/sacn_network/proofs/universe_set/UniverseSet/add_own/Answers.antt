use Rattle.std.proofs.Common.{◌+◌, sym, ◌∙◌, arith}
use Rattle.sacn_network.proofs.Listing.{one_in, one_out}
use Rattle.sacn_network.proofs.universe_set.UniverseSet.add_own.Goals as goal

pub returns-in_ok-push : goal.returns-in_ok-push
returns-in_ok-push c so_far =
    c.in_ok-push.ensures.items
    ∙ one_in c.args.self.now c.args.universe (c.args.universe + 1) c.args.universes.now.items (omega arith) (sym c.has.ensures ∙ c.if-has.true) so_far

pub returns-else-has : goal.returns-else-has
returns-else-has c so_far =
    one_out c.args.self.now c.args.universe (c.args.universe + 1) c.args.universes.now.items (omega arith) (sym c.has.ensures ∙ c.if-has.false) so_far
