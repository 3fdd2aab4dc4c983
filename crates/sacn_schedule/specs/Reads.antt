-- What a reader of a file or a text gives (profile).
use Rattle.std.specs.Prelude.{◌≡◌, ◌⊎◌, Result, Ok, Err}

-- a call gives what stands for this value, or this fault, unless a request for memory was refused
abbrev pub GivesAs : {X Y F : Type 0} → (X → Y) → F → Result X F → Result Y F → Type 0
GivesAs value memory (Ok x) wanted = wanted ≡ Ok (value x)
GivesAs value memory (Err fault) wanted = (fault ≡ memory) ⊎ (wanted ≡ Err fault)
