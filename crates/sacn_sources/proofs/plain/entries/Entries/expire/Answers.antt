use Rattle.std.proofs.Common.{length, ap, arith}
use Rattle.sacn_sources.specs.Rows.{Table, row_renewed}
use Rattle.sacn_sources.specs.PlainStorage.{plain_row, plain_rows}
use Rattle.std.proofs.lemmas.List.{length-map}
use Rattle.sacn_sources.proofs.Sweeps.{length_left}
use Rattle.sacn_sources.proofs.plain.entries.Entries.expire.Goals as goal

pub overflow_sub-result : goal.overflow_sub-result
overflow_sub-result c = omega (arith, c.count.ensures, c.count-held.ensures, ap (λ (t : Table). length t.rows) c.sweep.ensures, length_left (row_renewed c.max-self-inside.result) (plain_rows c.self.inside.items.items))

pub returns-clause-few : goal.returns-clause-few
returns-clause-few c = omega (arith, c.count-held.ensures, length-map c.self.inside.items.items plain_row, c.self.invariant.within)
