use Rattle.std.proofs.Common.{◌+◌, ◌-◌, ◌∙◌, arith}
use Rattle.sacn_patch.proofs.Runs.{run_on, run_same, run_ended}
use Rattle.sacn_patch.proofs.flat.copy_octets.Goals as goal

pub loop-done-init : goal.loop-done-init
loop-done-init c = run_same c.args.octets.now 1 (c.args.count - 0) c.args.count c.args.slot (c.args.slot + 0) c.args.octet (c.args.octet + 0) c.args.slots.now (omega arith) (omega arith) (omega arith)

pub loop-done-preserved : goal.loop-done-preserved
loop-done-preserved c =
    run_on c.args.octets.now 1 (c.args.count - (c.loop-done.done + 1)) (c.args.count - c.loop-done.done) (c.args.slot + c.loop-done.done) _ _ (c.args.octet + c.loop-done.done) _ c.loop-done.slots (omega arith) (omega arith) (omega arith) (omega arith) (omega arith) (omega arith)
    ∙ c.loop-done.invariant

pub returns : goal.returns
returns c = run_ended c.args.octets.now 1 (c.args.count - c.loop-done.done) _ _ c.loop-done.slots (omega arith) ∙ c.loop-done.invariant
