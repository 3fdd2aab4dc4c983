use Rattle.sacn_network.proofs.Ending.{light_both}
use Rattle.sacn_network.proofs.ledger.Ledger.tell_light.Goals as goal

pub returns-clause-told : goal.returns-clause-told
returns-clause-told g c =
    light_both {O = g.row.O.Denot} g.O.Observer.Notes c.next_light_end-at.result c.moment-before.result c.args.self.now c.tell_silence-is_lost.new.self c.args.observer.now c.tell_silence-is_lost.new.observer c.tell_outs.new.observer
    c.next_light_end-at.ensures c.moment-before.ensures c.tell_silence-is_lost.ensures.ledger c.tell_silence-is_lost.ensures.told c.tell_outs.ensures.told
