-- What is sent through sockets.
use Rattle.std.specs.Prelude.{ℕ, Bool, List}
use Rattle.std.specs.declared.net.socket_addr.SocketAddrV4.{SocketAddrV4}

-- a datagram that was sent to a destination, and whether it was taken there
pub record Sending : Type 0 where
  pub to : SocketAddrV4
  pub octets : List ℕ
  pub taken : Bool

abbrev pub sending : SocketAddrV4 → List ℕ → Bool → Sending
sending to octets taken = record { to = to; octets = octets; taken = taken }
