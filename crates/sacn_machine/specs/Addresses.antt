-- Addresses in words.
use Rattle.std.specs.Prelude.{◌≡◌, ◌<◌, ◌⊎◌, List, ℕ, Result, MatchResult}
use Rattle.std.specs.declared.net.ipv4_addr.Ipv4Addr.{Ipv4Addr}
use Rattle.std.specs.declared.net.socket_addr.SocketAddrV4.{SocketAddrV4}
use Rattle.std.specs.Net.Socket.{v4_ip, v4_port}
use Rattle.std.specs.Net.Grammar.{IsIpv4Text, IsSocketV4Text, Parses}
use Rattle.sacn_machine.specs.declared.address.AddressFault.{AddressFault}

-- a word reads as the address that it spells, and is refused where it spells none
abbrev pub HostReadsAs : List ℕ → Result Ipv4Addr AddressFault → Type 0
HostReadsAs word result = Parses IsIpv4Text word result

-- a word spells a destination: an address alone, whose port is then this one, or an address with its port
abbrev pub Spells : ℕ → List ℕ → SocketAddrV4 → Type 0
Spells port word a = (IsIpv4Text word (v4_ip a) × (v4_port a ≡ port)) ⊎ IsSocketV4Text word a

-- it reads as the destination that it spells; it is refused where it spells none, or one of port 0
abbrev pub DestinationReadsAs : ℕ → List ℕ → Result SocketAddrV4 AddressFault → Type 0
DestinationReadsAs port word result =
    MatchResult result
    (λ a. Spells port word a × (0 < v4_port a))
    (λ _. ((a : SocketAddrV4) → Spells port word a → ⊥) ⊎ ((a : SocketAddrV4) × Spells port word a × (v4_port a ≡ 0)))
