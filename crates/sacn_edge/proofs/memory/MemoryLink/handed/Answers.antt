use Rattle.std.proofs.Common.{◌==◌, ◌||◌}
use Rattle.sacn_edge.specs.MemoryItems.{first_heard}
use Rattle.sacn_edge.proofs.MemoryLemmas.{told_handed}
use Rattle.sacn_edge.proofs.memory.MemoryLink.handed.Goals as goal

pub returns : goal.returns
returns c =
    let l = c.args.self.now in
    told_handed (l.lost || (l.received == 18446744073709551615)) (first_heard l.incoming.items l.received) l.failing l.handed.items c.as_slice.result.now c.as_slice.ensures.value
