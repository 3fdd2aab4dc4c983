-- What a `SlotLayer` shows.
use Rattle.std.specs.Prelude.{option_map}
use Rattle.sacn_sources.specs.Layers.{shown_of}
use Rattle.sacn_slots.specs.declared.layer.SlotLayer.{SlotLayer}
use Rattle.sacn_slots.specs.SlotMerge.{Member}

-- what a layer shows, and the priorities that it has for slots
abbrev pub member_of : SlotLayer → Member
member_of layer = record { shown = shown_of layer.shown; slot_priorities = option_map (λ p. p.now) layer.slot_priorities }
