-- What a desk sends where.
use Rattle.std.specs.Prelude.{◌≡◌, ◌==◌, ℕ, nat_le, Bool, true, false, not, ◌&&◌, ◌||◌, All, List, [], ◌∷◌, ◌++◌, length, map, filter, count_by, Option, None, Some}
use Rattle.std.specs.List.{list_any}
use Rattle.std.specs.declared.net.socket_addr.SocketAddrV4.{SocketAddrV4}
use Rattle.std.specs.Net.Socket.{v4_ip, v4_port}
use Rattle.std.specs.Net.Addr.{ipv4_octets}
use Rattle.sacn_packets.specs.PacketReading.{reading_packet}
use Rattle.sacn_files.specs.declared.limits.TheConstants.{DEFAULT_UDP_PORT}
use Rattle.sacn_desk.specs.declared.destinations.UniverseRange.{UniverseRange}
use Rattle.sacn_desk.specs.declared.destinations.Destination.{Destination}
use Rattle.sacn_desk.specs.declared.destinations.Destinations.{Destinations}
use Rattle.sacn_desk.specs.Groups.{destination_by, universe_read}
use Rattle.sacn_machine.specs.Sendings.{Sending}

abbrev pub receivers : List Sending → List SocketAddrV4
receivers ss = map (λ (s : Sending). s.to) ss

-- how many weren't taken
abbrev pub failures : List Sending → ℕ
failures ss = count_by (λ (s : Sending). not s.taken) ss

-- each carried these octets
abbrev pub AllCarry : List ℕ → List Sending → Type 0
AllCarry octets ss = All (λ (s : Sending). s.octets ≡ octets) ss

-- ---- groups

-- the address of a group, at the port of the standard
abbrev pub IsGroupAddress : List ℕ → SocketAddrV4 → Type 0
IsGroupAddress group a = (ipv4_octets (v4_ip a) ≡ group) × (v4_port a ≡ DEFAULT_UDP_PORT)

-- sent to the group once, and nowhere where there is none
abbrev pub IsSentToGroup : Option (List ℕ) → List SocketAddrV4 → Type 0
IsSentToGroup None hosts = hosts ≡ []
IsSentToGroup (Some group) hosts = (a : SocketAddrV4) × IsGroupAddress group a × (hosts ≡ a ∷ [])

-- ---- hosts

abbrev pub is_within : ℕ → UniverseRange → Bool
is_within universe range = nat_le range.first universe && nat_le universe range.last

-- a host takes each universe that it names, and all where it names none; it takes every page
abbrev pub takes : Option ℕ → Destination → Bool
takes None host = true
takes (Some universe) host = (length host.universes.items == 0) || list_any (is_within universe) host.universes.items

-- once to each host that takes it, in their order
abbrev pub hosts_of : Option ℕ → List Destination → List SocketAddrV4
hosts_of universe hosts = map (λ (host : Destination). host.address) (filter (takes universe) hosts)

abbrev pub hosts_told : Option (Option ℕ) → List Destination → List SocketAddrV4
hosts_told None hosts = []
hosts_told (Some universe) hosts = hosts_of universe hosts

-- ---- a datagram

-- to its group where groups are sent to, and else to none
abbrev pub AreGroups : Bool → Option (List ℕ) → List SocketAddrV4 → Type 0
AreGroups true group to = IsSentToGroup group to
AreGroups false group to = to ≡ []

-- to each host that takes its universe, a page to all, once each and in their order; then to its universe's group, a page to that of
-- discovery, where groups are sent to
abbrev pub IsSentTo : Destinations → List ℕ → List SocketAddrV4 → Type 0
IsSentTo places octets to =
    (groups : List SocketAddrV4)
    × (to ≡ hosts_told (universe_read (reading_packet octets)) places.hosts.items ++ groups)
    × AreGroups places.is_multicast (destination_by (reading_packet octets)) groups
