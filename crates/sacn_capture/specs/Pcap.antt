-- The headers of a pcap file and of its records.
use Rattle.std.specs.Prelude.{ℕ, ◌+◌, ◌*◌, ◌/◌, ◌%◌, ◌^◌, ◌==◌, List, [], ◌∷◌, length, nat_le, Option, None, Some, Result, Ok, Err, if◌then◌else◌}
use Rattle.sacn_capture.specs.declared.faults.FaultKind.{FaultKind}
use Rattle.sacn_capture.specs.declared.faults.FaultKind.TheVariants.{NotACapture, CutShort, Version, LinkType, Length}
use Rattle.sacn_capture.specs.declared.octets.ByteOrder.{ByteOrder}
use Rattle.sacn_capture.specs.declared.octets.ByteOrder.TheVariants.{Big, Little}
use Rattle.sacn_capture.specs.declared.pcap.Fraction.{Fraction}
use Rattle.sacn_capture.specs.declared.pcap.Fraction.TheVariants.{Micro, Nano}
use Rattle.sacn_capture.specs.declared.pcap.Stamp.{Stamp}
use Rattle.sacn_capture.specs.declared.pcap.PcapHeader.{PcapHeader}
use Rattle.sacn_capture.specs.declared.pcap.RecordHead.{RecordHead}
use Rattle.sacn_capture.specs.Check.{checked, ◌>>=◌}
use Rattle.sacn_capture.specs.Octets.{number16, number32}
use Rattle.sacn_capture.specs.Links.{link_of}

-- what the first number of a file says of its moments
abbrev pub fraction_of : ℕ → Option Fraction
fraction_of magic = if magic == 0xa1b2c3d4 then Some Micro else if magic == 0xa1b23c4d then Some Nano else None

abbrev pub stamped : ByteOrder → Option Fraction → Option Stamp → Option Stamp
stamped order (Some fraction) other = Some (record { order = order; fraction = fraction })
stamped order None other = other

-- the byte order is the one in which the first number is known
abbrev pub stamp_of : List ℕ → Option Stamp
stamp_of octets = stamped Big (fraction_of (number32 Big octets 0)) (stamped Little (fraction_of (number32 Little octets 0)) None)

abbrev pub link_number : ByteOrder → List ℕ → ℕ
link_number order octets = number32 order octets 20 % 2 ^ 16

abbrev pub given : {A : Type 0} → FaultKind → Option A → Result A FaultKind
given fault None = Err fault
given fault (Some x) = Ok x

-- magic number, version (major, minor), zone, accuracy, longest frame, link
abbrev pub header_at : Stamp → List ℕ → Result PcapHeader FaultKind
header_at stamp octets =
    checked ((nat_le 24 (length octets), CutShort) ∷ (number16 stamp.order octets 4 == 2, Version) ∷ []) (link_of (link_number stamp.order octets))
    >>= (λ link. given LinkType link >>= (λ l. Ok (record { stamp = stamp; link = l })))

abbrev pub reading_header : List ℕ → Result PcapHeader FaultKind
reading_header octets = (if nat_le 4 (length octets) then given NotACapture (stamp_of octets) else Err NotACapture) >>= (λ stamp. header_at stamp octets)

-- seconds, and the fraction in whole milliseconds
abbrev pub record_milliseconds : Fraction → ℕ → ℕ → ℕ
record_milliseconds Micro seconds fraction = seconds * 1000 + fraction / 1000
record_milliseconds Nano seconds fraction = seconds * 1000 + fraction / 1000000

-- seconds, fraction, octets captured, octets of the frame on the link
abbrev pub reading_record : Stamp → List ℕ → Result RecordHead FaultKind
reading_record stamp octets =
    checked ((nat_le 16 (length octets), CutShort) ∷ (nat_le (number32 stamp.order octets 8) 262144, Length) ∷ [])
    (record { moment = record_milliseconds stamp.fraction (number32 stamp.order octets 0) (number32 stamp.order octets 4); captured = number32 stamp.order octets 8 })
