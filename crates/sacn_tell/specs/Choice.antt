-- Which universes are asked for.
use Rattle.std.specs.Prelude.{ℕ, Bool, List, length, ◌||◌, ◌==◌}
use Rattle.std.specs.List.{list_any}

-- every universe where none is named, else the named ones
abbrev pub is_wanted : List ℕ → ℕ → Bool
is_wanted universes universe = (length universes == 0) || list_any (λ named. named == universe) universes
