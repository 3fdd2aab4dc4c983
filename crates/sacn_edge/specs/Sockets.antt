-- What a link over a socket was bound with.
use Rattle.std.specs.Prelude.{ℕ, List}
use Rattle.sacn_edge.specs.declared.udp.UdpLink.{UdpLink}

-- the ports to which it sends, in order
abbrev pub destinations_of : UdpLink → List ℕ
destinations_of l = l.destinations.items
