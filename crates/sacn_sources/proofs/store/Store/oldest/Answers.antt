use Rattle.std.proofs.Common.{ap, ◌∙◌}
use Rattle.sacn_sources.specs.declared.entry.Entry.{Entry}
use Rattle.sacn_sources.specs.Rows.{Table}
use Rattle.sacn_sources.specs.Wakes.{oldest_by, oldest_of}
use Rattle.sacn_sources.proofs.Wakes.{oldest_stored}
use Rattle.sacn_sources.proofs.store.Store.oldest.Goals as goal

pub returns : goal.returns
returns c =
    c.oldest_entry.ensures ∙ ap (oldest_by (λ (e : Entry). e.moment)) c.as_slice.ensures.value
    ∙ oldest_stored c.self.inside.frames c.self.inside.entries.items
    ∙ ap (λ (t : Table). oldest_of t.rows) c.self.view_is
