-- Lines that wait for an output that doesn't take them now.
use Rattle.std.specs.Prelude.{◌≡◌, ◌+◌, ◌++◌, ◌&&◌, ◌==◌, ◌^◌, ◌-◌, ◌∷◌, [], not, filter, ℕ, Bool, List, Option, Some, None, length, take, drop, min, nat_le, if◌then◌else◌}
use Rattle.sacn_machine.specs.declared.room.TheConstants.{ROOM_OCTETS, TOLD_AT, MAX_FRAMES}
use Rattle.sacn_machine.specs.declared.room.FrameLine.{FrameLine}

-- whole lines in order, of which the first may have begun to go out, and how many found no room since that was told
pub record Waiting : Type 0 where
  pub octets : List ℕ
  pub lost : ℕ

-- a line finds room where it fits, and no loss is left to be told
abbrev pub has_room : ℕ → Waiting → Bool
has_room count w = (w.lost == 0) && nat_le (length w.octets + count) ROOM_OCTETS

-- a line is lost
abbrev pub after_loss : Waiting → Waiting
after_loss w = record { octets = w.octets; lost = min (w.lost + 1) (2 ^ 64 - 1) }

-- a line waits as a whole, or is lost as a whole
abbrev pub after_line : List ℕ → Waiting → Waiting
after_line line w = if has_room (length line) w then (record { octets = w.octets ++ line; lost = w.lost }) else after_loss w

-- an output took so many octets
abbrev pub after_taken : ℕ → Waiting → Waiting
after_taken count w = record { octets = drop count w.octets; lost = w.lost }

-- a loss is told where half of the room is free
abbrev pub is_told : Waiting → Bool
is_told w = not (w.lost == 0) && nat_le (length w.octets) TOLD_AT

abbrev pub told_in : Waiting → Option ℕ
told_in w = if is_told w then Some w.lost else None

abbrev pub after_told : Waiting → Waiting
after_told w = if is_told w then (record { octets = w.octets; lost = 0 }) else w

-- a frame's line waits as the last, in place of an earlier one of its port
abbrev pub held : FrameLine → List FrameLine → List FrameLine
held line lines = filter (λ l. not (l.port == line.port)) lines ++ line ∷ []

-- what happens to what waits: a line comes, an output takes octets, a loss is told if it can be
pub data Event : Type 0 where
  Comes : List ℕ → Event
  Goes : ℕ → Event
  Tells : Event

abbrev pub after : Event → Waiting → Waiting
after (Comes line) w = after_line line w
after (Goes count) w = after_taken count w
after Tells w = after_told w

abbrev pub waiting_after : List Event → Waiting → Waiting
waiting_after [] w = w
waiting_after (e ∷ es) w = waiting_after es (after e w)

-- the octets that went out
abbrev pub gone_in : Event → Waiting → List ℕ
gone_in (Comes _) w = []
gone_in (Goes count) w = take count w.octets
gone_in Tells w = []

abbrev pub gone : List Event → Waiting → List ℕ
gone [] w = []
gone (e ∷ es) w = gone_in e w ++ gone es (after e w)

-- the lines that found room, whole and in order
abbrev pub kept_in : Event → Waiting → List ℕ
kept_in (Comes line) w = if has_room (length line) w then line else []
kept_in (Goes _) w = []
kept_in Tells w = []

abbrev pub kept : List Event → Waiting → List ℕ
kept [] w = []
kept (e ∷ es) w = kept_in e w ++ kept es (after e w)

-- what went out, and then what waits, is what waited and each line that found room
abbrev pub NothingIsCut : Type 0
NothingIsCut = (es : List Event) (w : Waiting) → gone es w ++ (waiting_after es w).octets ≡ w.octets ++ kept es w
