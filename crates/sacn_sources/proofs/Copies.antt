-- Entries and frames that are the same again.
use Rattle.std.proofs.Common.{◌≡◌, ℕ, ◌≤◌, List, length, get_or, Some, None, IsSome, is_some, count_by, ap, sym, subst, ◌∙◌}
use Rattle.std.specs.Prelude.{slice_index_or}
use Rattle.sacn_sources.specs.declared.entry.Entry.{Entry}
use Rattle.sacn_sources.specs.declared.limits.TheConstants.{MAX_SOURCES}
use Rattle.sacn_sources.specs.Storage.{Frames, AreStored}

pub stored_again : (es again : List Entry) (frames copy : Frames) → again ≡ es → copy.slots ≡ frames.slots → MAX_SOURCES ≤ copy.capacity → AreStored es frames → AreStored again copy
stored_again es again frames copy same slots room old =
    let here : AreStored es copy = record {
      apart = old.apart;
      stored = λ k d lt. subst (λ s. IsSome (slice_index_or s (get_or es k d).key None)) (sym slots) (old.stored k d lt);
      counted = ap (count_by is_some) slots ∙ old.counted;
      within = old.within;
      room = room;
    } in
    subst (λ l. AreStored l copy) (sym same) here
