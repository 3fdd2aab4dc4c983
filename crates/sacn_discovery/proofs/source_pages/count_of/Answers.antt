use Rattle.std.proofs.Common.{◌^◌, ◌-◌, ◌∙◌, sym, arith}
use Rattle.sacn_discovery.proofs.Loops.{none_counted, all_counted}
use Rattle.sacn_discovery.proofs.source_pages.count_of.Goals as goal

pub returns : goal.returns
returns c = sym (none_counted (2 ^ 64 - 1) _ ∙ all_counted (2 ^ 64 - 1) c.loop-i.count c.args.pages.now c.loop-i.i _ c.loop-i.invariant.0 (omega arith) c.loop-i.invariant.1)
