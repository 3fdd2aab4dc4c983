use Rattle.std.proofs.Common.{◌∙◌}
use Rattle.sacn_sources.proofs.Copies.{stored_again}
use Rattle.sacn_sources.proofs.store.copying.StoreClone.clone.Goals as goal

pub invariant_of-result : goal.invariant_of-result
invariant_of-result c =
    stored_again c.self.inside.entries.items c.same_entries.result.items c.self.inside.frames c.in_ok-same_frames.field-0
    (c.same_entries.ensures ∙ c.as_slice.ensures.value) c.in_ok-same_frames.ensures.slots c.in_ok-same_frames.ensures.room c.self.invariant
