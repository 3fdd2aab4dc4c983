-- Where the packet of IPv4 begins in a frame of each link.
use Rattle.std.specs.Prelude.{ℕ, List, ◌+◌, ◌/◌, ◌^◌, ◌==◌, ◌&&◌, ◌||◌, Bool, length, nat_le, nat_lt, slice_index, Option, None, Some, Result, Ok, Err, if◌then◌else◌}
use Rattle.sacn_capture.specs.declared.links.LinkType.{LinkType}
use Rattle.sacn_capture.specs.declared.links.LinkType.TheVariants.{Ethernet, RawIp, CookedV1, CookedV2, BsdNull, BsdLoop}
use Rattle.sacn_capture.specs.declared.links.Passed.{Passed}
use Rattle.sacn_capture.specs.declared.links.Passed.TheVariants.{NotIp, Ipv6 as OfIpv6, Cut}
use Rattle.sacn_capture.specs.declared.links.NetworkProtocol.{NetworkProtocol}
use Rattle.sacn_capture.specs.declared.links.NetworkProtocol.TheVariants.{Ipv4, Ipv6, Other}
use Rattle.sacn_capture.specs.declared.octets.ByteOrder.TheVariants.{Big, Little}
use Rattle.sacn_capture.specs.Octets.{number16, number32}

-- the links whose frames are read, by their numbers in the registry of link types
abbrev pub link_of : ℕ → Option LinkType
link_of n =
    if n == 0 then Some BsdNull
    else if n == 1 then Some Ethernet
    else if n == 12 then Some RawIp
    else if n == 14 then Some RawIp
    else if n == 101 then Some RawIp
    else if n == 108 then Some BsdLoop
    else if n == 113 then Some CookedV1
    else if n == 228 then Some RawIp
    else if n == 276 then Some CookedV2
    else None

-- what an Ethernet type names
abbrev pub network_by_type : ℕ → NetworkProtocol
network_by_type t = if t == 0x0800 then Ipv4 else if t == 0x86dd then Ipv6 else Other

-- what the version in a packet's high four bits says
abbrev pub network_by_version : ℕ → NetworkProtocol
network_by_version v = if v == 4 then Ipv4 else if v == 6 then Ipv6 else Other

-- what an address family names: 2 is IPv4 everywhere; 24, 28 and 30 are IPv6 on the BSDs and macOS
abbrev pub network_by_family : ℕ → NetworkProtocol
network_by_family f = if f == 2 then Ipv4 else if f == 24 then Ipv6 else if f == 28 then Ipv6 else if f == 30 then Ipv6 else Other

-- whether the type at a place is that of a VLAN's tag
abbrev pub is_tagged_at : List ℕ → ℕ → Bool
is_tagged_at frame at = nat_le (at + 2) (length frame) && (number16 Big frame at == 0x8100 || number16 Big frame at == 0x88a8)

-- where an Ethernet frame has the type of what it carries: after two addresses, and after up to two tags
abbrev pub type_place : List ℕ → ℕ
type_place frame = if is_tagged_at frame 12 then if is_tagged_at frame 16 then 20 else 16 else 12

-- a place, where IPv4 stands there
abbrev pub placed_at : NetworkProtocol → ℕ → Result ℕ Passed
placed_at Ipv4 place = Ok place
placed_at Ipv6 place = Err OfIpv6
placed_at Other place = Err NotIp

-- what a header of so many octets gives, where the frame has them
abbrev pub within : ℕ → List ℕ → Result ℕ Passed → Result ℕ Passed
within need frame place = if nat_le need (length frame) then place else Err Cut

-- the family that a BSD's own loopback names, in either order: families are below 2^16
abbrev pub family_of : List ℕ → ℕ
family_of frame = if nat_lt (number32 Big frame 0) (2 ^ 16) then number32 Big frame 0 else number32 Little frame 0

-- Linux cooked: a header of so many octets, with the type at a place
abbrev pub cooked_place_of : ℕ → ℕ → List ℕ → Result ℕ Passed
cooked_place_of at head frame = within head frame (placed_at (network_by_type (number16 Big frame at)) head)

abbrev pub place_of : LinkType → List ℕ → Result ℕ Passed
place_of Ethernet frame = within (type_place frame + 2) frame (placed_at (network_by_type (number16 Big frame (type_place frame))) (type_place frame + 2))
place_of RawIp frame = within 1 frame (placed_at (network_by_version (slice_index frame 0 / 16)) 0)
place_of CookedV1 frame = cooked_place_of 14 16 frame
place_of CookedV2 frame = cooked_place_of 0 20 frame
place_of BsdNull frame = within 4 frame (placed_at (network_by_family (family_of frame)) 4)
place_of BsdLoop frame = within 4 frame (placed_at (network_by_family (number32 Big frame 0)) 4)
