use Rattle.std.proofs.Common.{◌≡◌, ◌-◌, ◌∙◌, ℕ, suc, subst, sym, arith}
use Rattle.sacn_network.proofs.Silencing.{LeadsOn, one_more_end, last_ledger, last_lost, last_told, none_ledger, none_lost, none_told}
use Rattle.sacn_network.proofs.ledger.Ledger.tell_silence.Goals as goal

pub returns-then-not-tell_end-clause-lost : goal.returns-then-not-tell_end-clause-lost
returns-then-not-tell_end-clause-lost g c =
    last_lost {O = g.row.O.Denot} g.O.Observer.Notes c.args.until c.args.self.now c.args.observer.now c.loop-steps.steps c.loop-steps.self c.loop-steps.observer
    (sym c.tell_end.ensures.answer ∙ c.if-not-tell_end.true) c.loop-steps.invariant

pub returns-then-not-tell_end-clause-told : goal.returns-then-not-tell_end-clause-told
returns-then-not-tell_end-clause-told g c =
    last_told {O = g.row.O.Denot} g.O.Observer.Notes c.args.until c.args.self.now c.args.observer.now c.loop-steps.steps c.loop-steps.self c.loop-steps.observer c.tell_end.new.observer (omega arith)
    (sym c.tell_end.ensures.answer ∙ c.if-not-tell_end.true) c.tell_end.ensures.told c.loop-steps.invariant

pub returns-then-not-tell_end-clause-ledger : goal.returns-then-not-tell_end-clause-ledger
returns-then-not-tell_end-clause-ledger g c =
    last_ledger {O = g.row.O.Denot} g.O.Observer.Notes c.args.until c.args.self.now c.args.observer.now c.loop-steps.steps c.loop-steps.self c.tell_end.new.self c.loop-steps.observer (omega arith)
    (sym c.tell_end.ensures.answer ∙ c.if-not-tell_end.true) c.tell_end.ensures.ledger c.loop-steps.invariant

pub loop-steps-preserved : goal.loop-steps-preserved
loop-steps-preserved g c =
    let more : c.loop-steps.steps ≡ suc (c.loop-steps.steps - 1) = omega arith in
    one_more_end {O = g.row.O.Denot} g.O.Observer.Notes c.args.until c.args.self.now c.args.observer.now (c.loop-steps.steps - 1) c.loop-steps.self c.tell_end.new.self c.loop-steps.observer c.tell_end.new.observer
    (sym c.tell_end.ensures.answer ∙ c.if-not-tell_end.false) c.tell_end.ensures.ledger c.tell_end.ensures.told
    (subst (λ (k : ℕ). LeadsOn {O = g.row.O.Denot} g.O.Observer.Notes c.args.until c.args.self.now c.loop-steps.self c.args.observer.now c.loop-steps.observer k) more c.loop-steps.invariant)

pub returns-clause-lost : goal.returns-clause-lost
returns-clause-lost g c =
    none_lost {O = g.row.O.Denot} g.O.Observer.Notes c.args.until c.args.self.now c.args.observer.now c.loop-steps.steps c.loop-steps.self c.loop-steps.observer (omega arith) c.loop-steps.invariant

pub returns-clause-told : goal.returns-clause-told
returns-clause-told g c =
    none_told {O = g.row.O.Denot} g.O.Observer.Notes c.args.until c.args.self.now c.args.observer.now c.loop-steps.steps c.loop-steps.self c.loop-steps.observer (omega arith) c.loop-steps.invariant

pub returns-clause-ledger : goal.returns-clause-ledger
returns-clause-ledger g c =
    none_ledger {O = g.row.O.Denot} g.O.Observer.Notes c.args.until c.args.self.now c.args.observer.now c.loop-steps.steps c.loop-steps.self c.loop-steps.observer (omega arith) c.loop-steps.invariant
