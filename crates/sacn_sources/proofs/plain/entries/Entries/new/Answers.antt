use Rattle.std.proofs.Common.{ap}
use Rattle.sacn_sources.specs.Rows.{Table}
use Rattle.sacn_sources.specs.PlainStorage.{plain_rows}
use Rattle.sacn_sources.proofs.plain.entries.Entries.new.Goals as goal

pub returns : goal.returns
returns c = ap (λ es. let t : Table = record { rows = plain_rows es; moment = 0 } in t) c.new.ensures
