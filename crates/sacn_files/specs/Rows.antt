-- Lists of a file, read row by row (profile).
use Rattle.std.specs.Prelude.{List, [], ◌∷◌, Option, Some, option_and_then, option_map}
use Rattle.toml.specs.Data.{Data}

-- what each row gives; none where some row gives none
abbrev pub each : {X : Type 0} → (Data → Option X) → List Data → Option (List X)
each read [] = Some []
each read (d ∷ ds) = option_and_then (λ x. option_map (λ xs. x ∷ xs) (each read ds)) (read d)
