-- A list whose elements are found by their keys, in the order in which they appeared: no two have one key.
use Rattle.std.specs.Prelude.{ℕ, nat_lt, Bool, true, List, [], ◌∷◌, ◌++◌, length, slice_get, slice_set, Option, Some, None, if◌then◌else◌}
use Rattle.sacn_audit.specs.declared.limits.TheConstants.{MAX_STREAMS}

abbrev pub changed : {S : Type 0} → (S → S) → ℕ → List S → Option S → List S
changed f i ss None = ss
changed f i ss (Some s) = slice_set ss i (f s)

-- what has a place hears; what has none begins, where there are fewer than so many
abbrev pub heard_within : {S : Type 0} → ℕ → (S → S) → S → List S → Option ℕ → List S
heard_within most f begun ss None = if nat_lt (length ss) most then ss ++ begun ∷ [] else ss
heard_within most f begun ss (Some i) = changed f i ss (slice_get ss i)

abbrev pub heard_at : {S : Type 0} → (S → S) → S → List S → Option ℕ → List S
heard_at f begun ss place = heard_within MAX_STREAMS f begun ss place

-- there is a place for it
abbrev pub has_room_of : {S : Type 0} → ℕ → List S → Option ℕ → Bool
has_room_of most ss None = nat_lt (length ss) most
has_room_of most ss (Some i) = true

abbrev pub has_room : {S : Type 0} → List S → Option ℕ → Bool
has_room ss place = has_room_of MAX_STREAMS ss place
