-- How C is given a list, in a room of its own.
use Rattle.std.specs.Prelude.{ℕ, List, ◌++◌, length, drop, nat_lt, if◌then◌else◌}
use Rattle.sacn_c.specs.declared.status.TheConstants.{DONE, LENGTH}

-- the status, by whether there is room for it
abbrev pub room_status : {X : Type 0} → List X → List X → ℕ
room_status room list = if nat_lt (length room) (length list) then LENGTH else DONE

-- the room with the list at its front; as it was where there is too little
abbrev pub room_with : {X : Type 0} → List X → List X → List X
room_with room list = if nat_lt (length room) (length list) then room else list ++ drop (length list) room
