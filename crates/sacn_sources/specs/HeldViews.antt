-- What a `HeldView` shows of a source.
use Rattle.std.specs.Prelude.{ℕ, List, Option, Some, None}
use Rattle.std.specs.Option.{option_map}
use Rattle.sacn_sources.specs.Merge.{Shown}
use Rattle.sacn_sources.specs.Layers.{shown_of}
use Rattle.sacn_sources.specs.declared.held_view.HeldView.TheInside.{Inside}
use Rattle.sacn_sources.specs.Rows.{Row}

abbrev pub held_row : Inside → Row
held_row view = record { source = view.cid; sequence_number = view.sequence_number; shown = option_map shown_of view.shown; moment = view.moment }

-- the priority that is shown, 0 where the source has ended
abbrev pub priority_shown : Option Shown → ℕ
priority_shown None = 0
priority_shown (Some shown) = shown.priority

abbrev pub levels_shown : Shown → List ℕ
levels_shown shown = shown.levels
