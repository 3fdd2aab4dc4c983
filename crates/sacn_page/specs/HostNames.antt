-- The names under which a server is asked.
use Rattle.std.specs.Prelude.{ℕ, ◌==◌, List, [], ◌∷◌, ◌++◌, codes, decimal, if◌then◌else◌}
use Rattle.std.specs.Net.Addr.{ipv4_octets}
use Rattle.std.specs.Net.Text.{ipv4_text}
use Rattle.std.specs.declared.net.ipv4_addr.Ipv4Addr.{Ipv4Addr}

-- a host, a colon and a port
abbrev pub at_port : List ℕ → ℕ → List ℕ
at_port host port = host ++ (codes ":" ++ decimal port)

-- a host with its port; where that is 80, which a Host field leaves out (RFC 9110, 4.2.1), without it too
unfoldable pub names_of : List ℕ → ℕ → List (List ℕ)
names_of host port = if port == 80 then at_port host port ∷ host ∷ [] else at_port host port ∷ []

-- the names of a server at an address and a port: those of the address, of 127.0.0.1 and of localhost, in that order
abbrev pub host_names : Ipv4Addr → ℕ → List (List ℕ)
host_names address port = names_of (ipv4_text (ipv4_octets address)) port ++ (names_of (codes "127.0.0.1") port ++ names_of (codes "localhost") port)
