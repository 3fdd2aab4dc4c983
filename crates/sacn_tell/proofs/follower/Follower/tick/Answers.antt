use Rattle.std.proofs.Common.{ℕ, arith, refl, subst, ◌∙◌}
use Rattle.sacn_network.specs.Networks.{tick_told}
use Rattle.sacn_tell.specs.declared.follower.Follower.{Follower}
use Rattle.sacn_tell.specs.Silences.{TellsSilence}
use Rattle.sacn_tell.proofs.Turning.{settled, settled_options, silence_is_told, silence_ticked}
use Rattle.sacn_tell.proofs.follower.Follower.tick.Goals as goal

pub returns-in_err-settle-clause-options : goal.returns-in_err-settle-clause-options
returns-in_err-settle-clause-options g c =
    settled_options {O = g.row.O.Denot} g.O.Write.contents (tick_told c.in_ok-until.until c.tell_dark.new.self.network) c.tell_dark.new.self.writer c.tick.new.observer c.settle.new.self c.tick.ensures.told c.settle.ensures.options
    ∙ c.tell_dark.ensures.options

pub returns-clause-options : goal.returns-clause-options
returns-clause-options g c =
    settled_options {O = g.row.O.Denot} g.O.Write.contents (tick_told c.in_ok-until.until c.tell_dark.new.self.network) c.tell_dark.new.self.writer c.tick.new.observer c.settle.new.self c.tick.ensures.told c.settle.ensures.options
    ∙ c.tell_dark.ensures.options

pub returns-clause-told : goal.returns-clause-told
returns-clause-told g c =
    let O = g.row.O.Denot in
    let mid = c.tell_dark.new.self in
    let until = c.in_ok-until.until in
    let new : Follower g.row.O.Denot = record { network = c.tick.new.self; listings = mid.listings; stage = mid.stage; writer = c.settle.new.self } in
    let text = settled {O = O} g.O.Write.contents (tick_told until mid.network) mid.writer c.tick.new.observer c.settle.new.self c.tick.ensures.told c.in_ok-settle.ensures.none c.settle.ensures.teller in
    subst (λ (t : ℕ). TellsSilence {O = O} g.O.Write.contents t c.args.self.now new) c.in_ok-until.ensures.moment
    (silence_is_told {O = O} g.O.Write.contents until c.args.self.now mid new c.tell_dark.ensures.options c.in_ok-until.ensures.told text c.tick.ensures.network refl)

pub returns-clause-ticked : goal.returns-clause-ticked
returns-clause-ticked g c =
    let mid = c.tell_dark.new.self in
    let new : Follower g.row.O.Denot = record { network = c.tick.new.self; listings = mid.listings; stage = mid.stage; writer = c.settle.new.self } in
    silence_ticked {O = g.row.O.Denot} g.O.Write.contents _ c.args.self.now new (returns-clause-told g c)

pub returns-clause-quiet : goal.returns-clause-quiet
returns-clause-quiet g c = (
  λ m by below. c.tick.ensures.silent m (omega (arith, by, c.in_ok-until.ensures.moment)) below,
  λ m by below. c.in_ok-until.ensures.lit m (omega (arith, by, c.in_ok-until.ensures.moment)) below,
)
