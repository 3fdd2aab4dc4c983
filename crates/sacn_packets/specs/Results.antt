-- What a reading answers, a value or a fault.
use Rattle.std.specs.Prelude.{Result, Ok, Err}

-- the value seen by view
abbrev pub map_ok : {F A B : Type 0} → (A → B) → Result A F → Result B F
map_ok view (Ok value) = Ok (view value)
map_ok view (Err fault) = Err fault

-- one reading after another: what the last gives, or the first fault
infixl 10 ◌>>=◌
abbrev pub ◌>>=◌ : {F A B : Type 0} → Result A F → (A → Result B F) → Result B F
(Ok value) >>= next = next value
(Err fault) >>= next = Err fault
