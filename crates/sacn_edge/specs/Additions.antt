-- What a device tells of the calls made on it.
use Rattle.std.specs.Prelude.{◌≡◌, ℕ, ◌<◌, List, ◌++◌, length, take, Option, None, Some, ⊤}

-- whatever octets are told after a call: some were told before it, and these were added
abbrev pub Adds : (List ℕ → Type 0) → (List ℕ → Type 0) → List ℕ → Type 0
Adds old new more = (ys : List ℕ) → new ys → (xs : List ℕ) × old xs × (ys ≡ xs ++ more)

-- a proper part of these was added, from the front
abbrev pub AddsPart : (List ℕ → Type 0) → (List ℕ → Type 0) → List ℕ → Type 0
AddsPart old new more = (k : ℕ) × (k < length more) × Adds old new (take k more)

-- a list told after a call was told before it, and has these added
abbrev pub Extends : {X : Type 0} → Option (List X) → Option (List X) → List X → Type 0
Extends old None more = ⊤
Extends None (Some ys) more = ⊥
Extends (Some xs) (Some ys) more = ys ≡ xs ++ more
