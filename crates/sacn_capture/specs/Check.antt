-- An ordered list of checks. The first that fails answers.
use Rattle.std.specs.Prelude.{List, [], ◌∷◌, Bool, Result, Ok, Err, if◌then◌else◌}

-- the value where every check passes, and otherwise the fault beside the first that fails
abbrev pub checked : {F A : Type 0} → List (Bool × F) → A → Result A F
checked [] value = Ok value
checked (c ∷ checks) value = if c.0 then checked checks value else Err c.1

-- what a result is, its value seen by view
abbrev pub map_ok : {F A B : Type 0} → (A → B) → Result A F → Result B F
map_ok view (Ok value) = Ok (view value)
map_ok view (Err fault) = Err fault

infixl 10 ◌>>=◌
abbrev pub ◌>>=◌ : {F A B : Type 0} → Result A F → (A → Result B F) → Result B F
(Ok value) >>= next = next value
(Err fault) >>= next = Err fault
