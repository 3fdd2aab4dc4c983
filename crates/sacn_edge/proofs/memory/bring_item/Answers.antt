use Rattle.std.proofs.Common.{rules, ap, ◌∙◌}
use Rattle.sacn_edge.specs.Hearings.{Octets}
use Rattle.sacn_edge.proofs.MemoryLemmas.{brought}
use Rattle.sacn_edge.proofs.memory.bring_item.Goals as goal

pub returns-in-Datagram-clause-brings : goal.returns-in-Datagram-clause-brings
returns-in-Datagram-clause-brings c =
    rw c.in-Datagram.is
    (ap Octets (brought c.copy_from_slice.new.self _ c.in-Datagram.octets.items c.min-count.result c.len.result (rw c.deref.ensures.value at c.copy_from_slice.ensures.after) c.min-count.ensures (c.len.ensures ∙ search rules)))
