-- The lists of sources that are kept, beside those that their pages give.
use Rattle.std.specs.Prelude.{◌≡◌, ℕ, List, Option, None, slice_get}
use Rattle.std.specs.Str.{bytes_eq}
use Rattle.std.specs.List.{position}
use Rattle.std.specs.Option.{option_and_then}
use Rattle.sacn_discovery.specs.Collection.{State, known_list}
use Rattle.sacn_tell.specs.Lines.{KeptList}
use Rattle.sacn_tell.specs.Lists.{beside}

-- the universes that are kept of the source of this CID: its list has the place that it has itself
abbrev pub kept_universes : List ℕ → List (List ℕ) → List KeptList → Option (List ℕ)
kept_universes cid sources lists = option_and_then (λ l. l.universes) (option_and_then (λ place. slice_get lists place) (position (λ source. bytes_eq source cid) sources))

-- of each source the pages give the list that is kept, or none
abbrev pub AgreeWithPages : List (List ℕ) → List KeptList → State → Type 0
AgreeWithPages sources lists pages = (cid : List ℕ) → beside (kept_universes cid sources lists) (known_list pages cid) ≡ None
