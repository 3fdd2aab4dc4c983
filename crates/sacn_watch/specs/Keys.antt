-- What the octets that a terminal sends for its keys say.
use Rattle.std.specs.Prelude.{ℕ, ◌-◌, Bool, nat_le, ◌&&◌, ◌||◌, ◌==◌, List, [], ◌∷◌, ◌++◌, Option, None, Some, if◌then◌else◌}
use Rattle.sacn_watch.specs.declared.keys.Key.{Key}
use Rattle.sacn_watch.specs.declared.keys.Key.TheVariants.{Left, Right, Up, Down, Digit, Enter, Escape, Backspace, Letter}
use Rattle.sacn_watch.specs.declared.keys.Awaited.{Awaited}
use Rattle.sacn_watch.specs.declared.keys.Awaited.TheVariants.{AnyKey, Bracket, Final}

-- an octet that stands for a key by itself: ESC, line feed and carriage return, backspace and DEL, and what ASCII shows
abbrev pub plain_key : ℕ → Option Key
plain_key octet =
    if octet == 27 then Some Escape
    else if octet == 10 || octet == 13 then Some Enter
    else if octet == 8 || octet == 127 then Some Backspace
    else if nat_le 48 octet && nat_le octet 57 then Some (Digit (octet - 48))
    else if nat_le 33 octet && nat_le octet 126 then Some (Letter octet)
    else None

-- the last octet of a sequence: `A` to `D` are the arrows (ECMA-48's CUU, CUD, CUF and CUB)
abbrev pub final_key : ℕ → Option Key
final_key octet =
    if octet == 65 then Some Up
    else if octet == 66 then Some Down
    else if octet == 67 then Some Right
    else if octet == 68 then Some Left
    else None

-- `[` and `O` behind ESC begin a sequence; in one, octets up to `?` are parameters, and one from `@` to `~` is its last
abbrev pub begins_sequence : ℕ → Bool
begins_sequence octet = octet == 91 || octet == 79

abbrev pub is_parameter : ℕ → Bool
is_parameter octet = nat_le 32 octet && nat_le octet 63

abbrev pub is_final : ℕ → Bool
is_final octet = nat_le 64 octet && nat_le octet 126

-- the key that an octet is or ends; ESC is a key, also where a sequence follows
abbrev pub key_of : Awaited → ℕ → Option Key
key_of AnyKey octet = plain_key octet
key_of Bracket octet = if begins_sequence octet then None else plain_key octet
key_of Final octet = if is_parameter octet then None else if is_final octet then final_key octet else plain_key octet

-- what is awaited behind a key that stands alone
abbrev pub awaited_behind : ℕ → Awaited
awaited_behind octet = if octet == 27 then Bracket else AnyKey

abbrev pub awaited_after : Awaited → ℕ → Awaited
awaited_after AnyKey octet = awaited_behind octet
awaited_after Bracket octet = if begins_sequence octet then Final else awaited_behind octet
awaited_after Final octet = if is_parameter octet then Final else awaited_behind octet
