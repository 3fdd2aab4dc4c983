use Rattle.std.proofs.Common.{◌≡◌, ◌≤◌, ◌∙◌, [], ℕ, is_some, length, max, ap, sym, subst, arith}
use Rattle.sacn_monitor.specs.declared.limits.TheConstants.{MAX_STREAMS}
use Rattle.sacn_monitor.specs.Books.{Book, next_loss, silent_place}
use Rattle.sacn_network.specs.declared.ledger.Ledger.{Ledger}
use Rattle.sacn_network.specs.declared.light_ends.TheConstants.{MOST_LIGHTS}
use Rattle.sacn_network.specs.LightEnds.{after_ends, first_end}
use Rattle.sacn_network.specs.Networks.{JoinsLater, tick_told, ticked}
use Rattle.sacn_network.proofs.Joining.{joins}
use Rattle.sacn_network.proofs.Telling.{told_as, told_nothing}
use Rattle.sacn_network.proofs.Tracking.{all_ended, lose_as}
use Rattle.sacn_network.proofs.Whole.{none_before, told_length}
use Rattle.sacn_network.proofs.Waking.{early_ledger, early_lost, early_quiet, early_told}
use Rattle.sacn_network.proofs.network.Network.tick.Goals as goal

pub invariant_of-self : goal.invariant_of-self
invariant_of-self g c =
    let n = c.self.inside in
    let quiet = early_quiet c.args.now c.max-until.result n.wake n.ledger (omega (arith, c.max-until.ensures, c.moment.ensures)) (omega arith) c.self.invariant.0 in
    let room = told_length (silent_place (max n.ledger.monitor.moment c.max-until.result) n.ledger.monitor.streams) n.ledger.monitor.streams in (
      omega (arith, quiet, ap first_end c.tick.ensures.book),
      omega (arith, room, c.self.invariant.1, ap (λ (b : Book). length b.streams) c.tick.ensures.book),
    )

pub invariant_of-self-2 : goal.invariant_of-self-2
invariant_of-self-2 g c =
    let n = c.self.inside in
    let silent = all_ended MOST_LIGHTS c.max-until.result n.ledger (omega arith) (omega (arith, c.max-until.ensures, c.moment.ensures)) c.self.invariant.1 in
    let most = silent.most in (
      omega (arith, c.first_end-self-inside.ensures),
      omega (arith, most, ap (λ (l : Ledger). length l.monitor.streams) c.tell_ends-is_lost.ensures.ledger),
    )

pub returns-then-until-self-clause-lost : goal.returns-then-until-self-clause-lost
returns-then-until-self-clause-lost g c =
    let n = c.self.inside in
    early_lost c.args.now c.max-until.result n.wake n.ledger (omega (arith, c.max-until.ensures, c.moment.ensures)) (omega arith) c.self.invariant.0
    ∙ ap (λ (l : Ledger). is_some (silent_place (max l.monitor.moment c.args.now) l.monitor.streams)) c.self.view_is

pub returns-clause-lost : goal.returns-clause-lost
returns-clause-lost g c =
    let n = c.self.inside.ledger in
    c.tell_ends-is_lost.ensures.lost
    ∙ lose_as MOST_LIGHTS c.max-until.result n (omega arith) (omega (arith, c.max-until.ensures, c.moment.ensures)) c.self.invariant.1
    ∙ ap (λ (t : ℕ). is_some (silent_place t n.monitor.streams)) (omega (arith, c.max-until.ensures, c.moment.ensures))
    ∙ ap (λ (l : Ledger). is_some (silent_place (max l.monitor.moment c.args.now) l.monitor.streams)) c.self.view_is

pub returns-clause-clock : goal.returns-clause-clock
returns-clause-clock g c =
    let n = c.self.inside.ledger in
    let silent = all_ended MOST_LIGHTS c.max-until.result n (omega arith) (omega (arith, c.max-until.ensures, c.moment.ensures)) c.self.invariant.1 in
    ap (λ (l : Ledger). l.monitor.moment) c.tell_ends-is_lost.ensures.ledger ∙ silent.moment ∙ c.max-until.ensures ∙ ap (λ (t : ℕ). max t c.args.now) c.moment.ensures
    ∙ ap (λ (l : Ledger). max l.monitor.moment c.args.now) c.self.view_is

pub returns-then-until-self-clause-told : goal.returns-then-until-self-clause-told
returns-then-until-self-clause-told g c =
    let n = c.self.inside in
    let none = early_told c.args.now c.max-until.result n.wake n.ledger (omega (arith, c.max-until.ensures, c.moment.ensures)) (omega arith) c.self.invariant.0 in
    told_as {O = g.row.O.Denot} g.O.Observer.Notes [] (tick_told c.args.now c.args.self.now) c.args.observer.now c.args.observer.now (sym none ∙ ap (tick_told c.args.now) c.self.view_is)
    (told_nothing {O = g.row.O.Denot} g.O.Observer.Notes c.args.observer.now)

pub returns-then-until-self-clause-network : goal.returns-then-until-self-clause-network
returns-then-until-self-clause-network g c =
    let n = c.self.inside in
    let is = early_ledger c.args.now c.max-until.result n.wake n.ledger (omega (arith, c.max-until.ensures, c.moment.ensures)) (omega arith) c.self.invariant.0 in
    ap (λ (b : Book). let m : Ledger = record n.ledger { monitor = b } in m) c.tick.ensures.book ∙ sym is ∙ ap (ticked c.args.now) c.self.view_is

pub returns-then-until-self-clause-silent : goal.returns-then-until-self-clause-silent
returns-then-until-self-clause-silent g c m by below =
    let n = c.self.inside in
    let quiet = early_quiet c.args.now c.max-until.result n.wake n.ledger (omega (arith, c.max-until.ensures, c.moment.ensures)) (omega arith) c.self.invariant.0 in
    let until = ap (λ (l : Ledger). max l.monitor.moment c.args.now) c.self.view_is in
    omega (arith, by, until, quiet, c.max-until.ensures, c.moment.ensures, ap (λ (b : Book). next_loss b.streams) c.tick.ensures.book)

pub returns-clause-silent : goal.returns-clause-silent
returns-clause-silent g c m by below =
    let n = c.self.inside.ledger in
    let silent = all_ended MOST_LIGHTS c.max-until.result n (omega arith) (omega (arith, c.max-until.ensures, c.moment.ensures)) c.self.invariant.1 in
    let later = none_before c.max-until.result _ silent.none in
    let until = ap (λ (l : Ledger). max l.monitor.moment c.args.now) c.self.view_is in
    omega (arith, by, below, until, later, c.max-until.ensures, c.moment.ensures, ap (λ (l : Ledger). next_loss l.monitor.streams) c.tell_ends-is_lost.ensures.ledger)

pub returns-then-until-self-clause-later : goal.returns-then-until-self-clause-later
returns-then-until-self-clause-later g c =
    subst (JoinsLater c.args.now c.args.self.now) (sym (returns-then-until-self-clause-network g c))
    (joins c.args.now c.args.self.now (subst (λ (l : Ledger). length l.monitor.streams ≤ MAX_STREAMS) c.self.view_is c.self.invariant.1))

pub returns-clause-later : goal.returns-clause-later
returns-clause-later g c =
    let n = c.self.inside.ledger in
    let until : c.max-until.result ≡ max n.monitor.moment c.args.now = omega (arith, c.max-until.ensures, c.moment.ensures) in
    let is = c.tell_ends-is_lost.ensures.ledger ∙ ap (λ (t : ℕ). after_ends MOST_LIGHTS t n) until ∙ ap (ticked c.args.now) c.self.view_is in
    subst (JoinsLater c.args.now c.args.self.now) (sym is)
    (joins c.args.now c.args.self.now (subst (λ (l : Ledger). length l.monitor.streams ≤ MAX_STREAMS) c.self.view_is c.self.invariant.1))
