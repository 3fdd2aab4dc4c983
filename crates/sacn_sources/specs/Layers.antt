-- What a `Layer` shows.
use Rattle.sacn_sources.specs.declared.slots.merge.Layer.{Layer}
use Rattle.sacn_sources.specs.Merge.{Shown}

-- the priority and the levels of a layer
abbrev pub shown_of : Layer → Shown
shown_of layer = record { priority = layer.priority; levels = layer.levels.now }
