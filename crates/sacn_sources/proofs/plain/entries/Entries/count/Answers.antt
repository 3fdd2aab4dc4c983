use Rattle.std.proofs.Common.{ap, ◌∙◌}
use Rattle.sacn_sources.specs.Rows.{Table}
use Rattle.sacn_sources.proofs.PlainEdits.{length_plain}
use Rattle.sacn_sources.proofs.plain.entries.Entries.count.Goals as goal

pub returns : goal.returns
returns c = c.len.ensures.value ∙ length_plain c.self.inside.items.items c.args.self.now.rows (ap (λ (t : Table). t.rows) c.self.view_is)
