use Rattle.std.proofs.Common.{◌≡◌, ℕ, ◌+◌, set, arith, subst, suc}
use Rattle.sacn_gateway.specs.Interfaces.{IsServed}
use Rattle.sacn_gateway.proofs.Pairing.{DoneTo, none_done, more_done, all_done}
use Rattle.sacn_gateway.proofs.interface.serve_interfaces.Goals as goal

pub loop-interface-init : goal.loop-interface-init
loop-interface-init g c = none_done (IsServed g.D.Device.told c.args.now c.args.ports.now) c.args.interfaces.now

pub loop-interface-preserved : goal.loop-interface-preserved
loop-interface-preserved g c =
    let R = IsServed g.D.Device.told c.args.now c.args.ports.now in
    let i = c.loop-interface.interface-index in
    let next : suc i ≡ i + 1 = omega arith in
    subst (λ (k : ℕ). DoneTo R k c.args.interfaces.now (set c.loop-interface.interfaces i c.serve.new.interface)) next
    (more_done R i c.args.interfaces.now c.loop-interface.interfaces c.interface-item.result c.serve.new.interface c.loop-interface.invariant c.loop-interface-test.true c.serve.ensures)

pub returns : goal.returns
returns g c =
    all_done (IsServed g.D.Device.told c.args.now c.args.ports.now) c.loop-interface.interface-index c.args.interfaces.now c.loop-interface.interfaces (omega (arith, c.loop-interface-test.false, c.loop-interface.auto.interface-index-end)) c.loop-interface.invariant
