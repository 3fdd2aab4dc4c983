-- Universes and priorities, as the standard bounds them, and lists of universes.
use Rattle.std.specs.Prelude.{ℕ, ◌≤◌, ◌<◌, List, [], ◌∷◌, ⊤}
use Rattle.std.specs.List.{AllByRecursion}

-- a universe that carries data (E1.31, 6.2.7)
abbrev pub IsUniverse : ℕ → Type 0
IsUniverse number = (1 ≤ number) × (number ≤ 63999)

-- a source's priority (E1.31, 6.2.3)
abbrev pub IsPriority : ℕ → Type 0
IsPriority priority = priority ≤ 200

-- universes that strictly rise: each is below all later ones
abbrev pub Rising : List ℕ → Type 0
Rising [] = ⊤
Rising (x ∷ xs) = AllByRecursion (λ y. x < y) xs × Rising xs
