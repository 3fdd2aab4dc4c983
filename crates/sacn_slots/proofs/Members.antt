-- What a table hands to the merge, source by source.
use Rattle.std.proofs.Common.{◌≡◌, ℕ, ◌+◌, ◌<◌, List, [], ◌∷◌, ◌++◌, length, map, take, set, get_or, Option, Some, None, sym, ap, ◌∙◌, append-nil}
use Rattle.std.specs.List.{filter_map, cons_option}
use Rattle.std.proofs.lemmas.List.{take_more, take_more_set, map-append}
use Rattle.std.proofs.lemmas.List.Elements.{filter_map-append}
use Rattle.sacn_slots.specs.SlotMerge.{Member}
use Rattle.sacn_slots.specs.SlotLayers.{member_of}
use Rattle.sacn_slots.specs.declared.layer.SlotLayer.{SlotLayer}

module _ {R : Type 0} (h : R → Option Member) (rs : List R) (i : ℕ) (d : R) (within : i < length rs) where
  more : filter_map h (take (i + 1) rs) ≡ filter_map h (take i rs) ++ cons_option (h (get_or rs i d)) []
  more = ap (filter_map h) (take_more rs i d within) ∙ filter_map-append h (take i rs) (get_or rs i d ∷ [])

  pub more_none : None ≡ h (get_or rs i d) → filter_map h (take i rs) ≡ filter_map h (take (i + 1) rs)
  more_none none = sym (more ∙ ap (λ o. filter_map h (take i rs) ++ cons_option o []) (sym none) ∙ append-nil (filter_map h (take i rs)))

  pub more_some : (ls : List SlotLayer) (count : ℕ) (layer : SlotLayer) → count < length ls → map member_of (take count ls) ≡ filter_map h (take i rs) → Some (member_of layer) ≡ h (get_or rs i d) → map member_of (take (count + 1) (set ls count layer)) ≡ filter_map h (take (i + 1) rs)
  more_some ls count layer room same some =
      ap (map member_of) (take_more_set ls count layer room) ∙ map-append member_of (take count ls) (layer ∷ [])
      ∙ ap (λ l. l ++ member_of layer ∷ []) same
      ∙ sym (more ∙ ap (λ o. filter_map h (take i rs) ++ cons_option o []) (sym some))
