use Rattle.std.proofs.Common.{sym, ◌∙◌}
use Rattle.sacn_network.proofs.Ending.{all_ledger, all_lost, all_told, one_more_light}
use Rattle.sacn_network.proofs.ledger.Ledger.tell_ends.Goals as goal

pub loop-self-preserved : goal.loop-self-preserved
loop-self-preserved g c =
    one_more_light {O = g.row.O.Denot} g.O.Observer.Notes c.args.until c.args.self.now c.args.observer.now c.loop-self.steps c.loop-self.self c.tell_light-is_lost.new.self c.loop-self.observer c.tell_light-is_lost.new.observer
    c.tell_light-is_lost.result c.loop-self.is_lost (sym c.has_light_end.ensures ∙ c.loop-self-test.true) c.tell_light-is_lost.ensures.lost c.tell_light-is_lost.ensures.ledger c.tell_light-is_lost.ensures.told c.loop-self.invariant

pub returns-clause-lost : goal.returns-clause-lost
returns-clause-lost g c =
    all_lost {O = g.row.O.Denot} g.O.Observer.Notes c.args.until c.args.self.now c.args.observer.now c.loop-self.steps c.loop-self.self c.loop-self.observer c.tell_silence.result c.loop-self.is_lost
    (sym c.has_light_end.ensures ∙ c.loop-self-test.false) c.tell_silence.ensures.lost c.loop-self.invariant

pub returns-clause-told : goal.returns-clause-told
returns-clause-told g c =
    all_told {O = g.row.O.Denot} g.O.Observer.Notes c.args.until c.args.self.now c.args.observer.now c.loop-self.steps c.loop-self.self c.loop-self.observer c.tell_silence.new.observer c.loop-self.is_lost
    (sym c.has_light_end.ensures ∙ c.loop-self-test.false) c.tell_silence.ensures.told c.loop-self.invariant

pub returns-clause-ledger : goal.returns-clause-ledger
returns-clause-ledger g c =
    all_ledger {O = g.row.O.Denot} g.O.Observer.Notes c.args.until c.args.self.now c.args.observer.now c.loop-self.steps c.loop-self.self c.tell_silence.new.self c.loop-self.observer c.loop-self.is_lost
    (sym c.has_light_end.ensures ∙ c.loop-self-test.false) c.tell_silence.ensures.ledger c.loop-self.invariant
