use Rattle.std.proofs.Common.{arith}
use Rattle.sacn_console.proofs.Lawful.{small_each}
use Rattle.sacn_source.proofs.source.tell_ranges.Goals as goal

pub returns-clause-listed : goal.returns-clause-listed
returns-clause-listed c = small_each c.args.listed.now (λ i. omega (arith, c.type_inv.listed i))
