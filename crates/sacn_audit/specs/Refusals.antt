-- What can't be read: datagrams of a network that are no packets, by their senders and the first check that they fail.
use Rattle.std.specs.Prelude.{◌≡◌, ℕ, ◌≤◌, ◌⊎◌, Bool, ◌&&◌, ◌==◌, List, [], ◌∷◌, length, find, Option, Some, None, if◌then◌else◌}
use Rattle.std.specs.List.{position}
use Rattle.std.specs.Option.{option_map}
use Rattle.std.specs.Str.{bytes_eq}
use Rattle.sacn_packets.specs.declared.root.fault.PacketFault.{PacketFault}
use Rattle.sacn_packets.specs.PacketFaults.{fault_number}
use Rattle.sacn_audit.specs.declared.limits.TheConstants.{MAX_REFUSED}
use Rattle.sacn_audit.specs.declared.breach.Breach.{Breach}
use Rattle.sacn_audit.specs.declared.refused.RefusedPackets.{RefusedPackets}
use Rattle.sacn_audit.specs.Breaches.{breach_by, no_breach, noted}
use Rattle.sacn_audit.specs.Registers.{has_room_of, heard_within}

-- those of this sender that fail this check
abbrev pub is_alike : List ℕ → PacketFault → RefusedPackets → Bool
is_alike address fault r = bytes_eq r.address address && (fault_number r.fault == fault_number fault)

abbrev pub place_refused : List ℕ → PacketFault → List RefusedPackets → Option ℕ
place_refused address fault rs = position (is_alike address fault) rs

abbrev pub first_refused : ℕ → List ℕ → PacketFault → RefusedPackets
first_refused t address fault = record { address = address; fault = fault; breach = noted t no_breach }

abbrev pub refused_again : ℕ → RefusedPackets → RefusedPackets
refused_again t r = record r { breach = noted t r.breach }

-- a datagram more at t
abbrev pub refused_after : ℕ → List ℕ → PacketFault → List RefusedPackets → List RefusedPackets
refused_after t address fault rs =
    heard_within MAX_REFUSED (refused_again t) (first_refused t address fault) rs (place_refused address fault rs)

-- there is a place for it
abbrev pub is_kept : List ℕ → PacketFault → List RefusedPackets → Bool
is_kept address fault rs = has_room_of MAX_REFUSED rs (place_refused address fault rs)

-- ---- over any datagrams that can't be read: a list, the latest first

-- a datagram, when it came, from which IPv4 address, and the first check that it fails
pub record Refused : Type 0 where
  pub moment : ℕ
  pub address : List ℕ
  pub fault : PacketFault

-- what the contracts of the calls say
abbrev pub refused_by : List Refused → List RefusedPackets
refused_by [] = []
refused_by (x ∷ earlier) = refused_after x.moment x.address x.fault (refused_by earlier)

abbrev pub is_of_pair : List ℕ → PacketFault → Refused → Bool
is_of_pair address fault x = bytes_eq x.address address && (fault_number x.fault == fault_number fault)

-- the moments of those of this sender that fail this check, the latest first
abbrev pub refused_at : List ℕ → PacketFault → List Refused → List ℕ
refused_at address fault [] = []
refused_at address fault (x ∷ earlier) =
    if is_of_pair address fault x then x.moment ∷ refused_at address fault earlier else refused_at address fault earlier

-- how many they are, the first and the latest; nothing where there are none
abbrev pub breach_at : List ℕ → Option Breach
breach_at [] = None
breach_at (m ∷ earlier) = Some (breach_by (m ∷ earlier))

-- what is kept of them
abbrev pub breach_kept : List ℕ → PacketFault → List RefusedPackets → Option Breach
breach_kept address fault rs = option_map (λ r. r.breach) (find (is_alike address fault) rs)

-- After any datagrams what is kept of a sender and a check is how many of its datagrams failed that, the first and the
-- latest moment of these, whatever else came; or it is nothing, and there is no room for a further pair.
abbrev pub RefusalsAreOfTheirPackets : Type 0
RefusalsAreOfTheirPackets = (xs : List Refused) (address : List ℕ) (fault : PacketFault) →
    (breach_kept address fault (refused_by xs) ≡ breach_at (refused_at address fault xs))
    ⊎ ((breach_kept address fault (refused_by xs) ≡ None) × (MAX_REFUSED ≤ length (refused_by xs)))
