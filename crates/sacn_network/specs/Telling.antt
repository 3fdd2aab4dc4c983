-- What an observer is told, and that it was told it.
use Rattle.std.specs.Prelude.{◌≡◌, List, [], ◌∷◌}
use Rattle.sacn_monitor.specs.Books.{Book}
use Rattle.sacn_network.specs.declared.occurrence.Occurrence.{Occurrence}
use Rattle.sacn_network.specs.declared.occurrence.What.{What}

-- something happened, and the accounts are these then
pub record Told : Type 0 where
  pub occurrence : Occurrence
  pub book : Book

-- something happened now
abbrev pub told_now : What → Book → Told
told_now what b = record { occurrence = record { at = b.moment; what = what }; book = b }

-- an observer was told each of these once, in order, and nothing else, by what each one makes of it
unfoldable pub AreTold : {O : Type 0} → (O → Told → O → Type 0) → List Told → O → O → Type 0
AreTold Notes [] old new = new ≡ old
AreTold {O = O} Notes (told ∷ more) old new = (mid : O) × Notes old told mid × AreTold Notes more mid new
