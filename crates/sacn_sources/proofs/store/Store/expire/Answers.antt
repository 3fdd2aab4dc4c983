use Rattle.std.proofs.Common.{length, ap, arith}
use Rattle.sacn_sources.specs.Rows.{Table, row_renewed}
use Rattle.sacn_sources.specs.Storage.{row_in, rows_in}
use Rattle.std.proofs.lemmas.List.{length-map}
use Rattle.sacn_sources.proofs.Sweeps.{length_left}
use Rattle.sacn_sources.proofs.store.Store.expire.Goals as goal

pub overflow_sub-result : goal.overflow_sub-result
overflow_sub-result c = omega (arith, c.count.ensures, c.count-held.ensures, ap (λ (t : Table). length t.rows) c.sweep-live.ensures.table, length_left (row_renewed c.max-self-inside.result) (rows_in c.self.inside.frames c.self.inside.entries.items))

pub returns-clause-few : goal.returns-clause-few
returns-clause-few c = omega (arith, c.count-held.ensures, length-map c.self.inside.entries.items (row_in c.self.inside.frames), c.self.invariant.within)
