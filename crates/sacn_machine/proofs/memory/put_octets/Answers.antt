use Rattle.std.proofs.Common.{refl}
use Rattle.sacn_edge.proofs.MemoryLemmas.{brought}
use Rattle.sacn_machine.proofs.memory.put_octets.Goals as goal

pub returns-clause-put : goal.returns-clause-put
returns-clause-put c =
    brought c.copy_from_slice.new.self _ c.args.octets.now c.min-count.result _ c.copy_from_slice.ensures.after c.min-count.ensures refl
