-- Multicast groups: to which addresses the packets of a universe go.
use Rattle.std.specs.Prelude.{ℕ, nat_le, Bool, false, not, ◌&&◌, List, [], ◌∷◌}
use Rattle.std.specs.Str.{bytes_eq}
use Rattle.sacn_packets.specs.Naming.{group_of}

-- an IPv4 address of 224.0.0.0/4
abbrev pub is_multicast : List ℕ → Bool
is_multicast [] = false
is_multicast (octet ∷ others) = nat_le 224 octet && nat_le octet 239

-- a multicast address that isn't the group of this universe
abbrev pub is_other_group : List ℕ → ℕ → Bool
is_other_group address universe = is_multicast address && not (bytes_eq address (group_of universe))
