-- The blocks of a pcapng file.
use Rattle.std.specs.Prelude.{ℕ, ◌≤◌, ◌+◌, ◌*◌, ◌/◌, ◌%◌, ◌^◌, ◌==◌, List, [], ◌∷◌, length, drop, min, nat_le, nat_lt, zero, suc, slice_index, slice_range, Option, None, Some, Result, Ok, Err, if◌then◌else◌, unwrap_or}
use Rattle.sacn_capture.specs.declared.faults.FaultKind.{FaultKind}
use Rattle.sacn_capture.specs.declared.faults.FaultKind.TheVariants.{NotACapture, CutShort, Version, Length}
use Rattle.sacn_capture.specs.declared.links.LinkType.{LinkType}
use Rattle.sacn_capture.specs.declared.octets.ByteOrder.{ByteOrder}
use Rattle.sacn_capture.specs.declared.octets.ByteOrder.TheVariants.{Big, Little}
use Rattle.sacn_capture.specs.declared.pcapng.BlockKind.{BlockKind}
use Rattle.sacn_capture.specs.declared.pcapng.BlockKind.TheVariants.{Interface, Simple, Enhanced, Other}
use Rattle.sacn_capture.specs.declared.pcapng.BlockHead.{BlockHead}
use Rattle.sacn_capture.specs.declared.pcapng.Section.{Section}
use Rattle.sacn_capture.specs.declared.pcapng.EnhancedHead.{EnhancedHead}
use Rattle.sacn_capture.specs.declared.interface.Described.{Described}
use Rattle.sacn_capture.specs.declared.clock.Shift.{Shift}
use Rattle.sacn_capture.specs.Check.{checked, ◌>>=◌}
use Rattle.sacn_capture.specs.Clocks.{reading_units, shift_of}
use Rattle.sacn_capture.specs.Octets.{number16, number32, number64}
use Rattle.sacn_capture.specs.Links.{link_of}
use Rattle.sacn_capture.specs.Pcap.{given}

-- the type of a section header
abbrev pub section_type : ℕ
section_type = 0x0a0d0d0a

abbrev pub kind_of : ℕ → BlockKind
kind_of n = if n == 1 then Interface else if n == 3 then Simple else if n == 6 then Enhanced else Other

-- a block: type, length of the whole, body, length again
abbrev pub reading_block : ByteOrder → List ℕ → Result BlockHead FaultKind
reading_block order octets =
    checked ((nat_le 8 (length octets), CutShort) ∷ (nat_le 12 (number32 order octets 4), Length) ∷ (number32 order octets 4 % 4 == 0, Length) ∷ [])
    (record { kind = kind_of (number32 order octets 0); length = number32 order octets 4 })

-- the byte order is the one in which the third number of a section header is known
abbrev pub order_of : List ℕ → Option ByteOrder
order_of octets = if number32 Big octets 8 == 0x1a2b3c4d then Some Big else if number32 Little octets 8 == 0x1a2b3c4d then Some Little else None

abbrev pub section_at : ByteOrder → List ℕ → Result Section FaultKind
section_at order octets =
    checked ((number16 order octets 12 == 1, Version) ∷ (nat_le 28 (number32 order octets 4), Length) ∷ (number32 order octets 4 % 4 == 0, Length) ∷ [])
    (record { order = order; length = number32 order octets 4 })

abbrev pub reading_section : List ℕ → Result Section FaultKind
reading_section octets =
    checked ((nat_le 4 (length octets), NotACapture) ∷ (number32 Big octets 0 == section_type, NotACapture) ∷ (nat_le 16 (length octets), CutShort) ∷ []) (order_of octets)
    >>= (λ order. given NotACapture order >>= (λ o. section_at o octets))

-- an option's octets: its code and its length, two each, and its value, filled up to fours
abbrev pub option_size : ByteOrder → List ℕ → ℕ
option_size order options = 4 + (number16 order options 2 + 3) / 4 * 4

-- a whole option stands at the front
pub record IsOption (order : ByteOrder) (options : List ℕ) : Type 0 where
  pub head : 4 ≤ length options
  pub whole : option_size order options ≤ length options

-- what the option at the front answers where a code is looked for: its value where it has that code, none where the options end; no answer where the next one is to be asked
abbrev pub option_answer : ℕ → ByteOrder → List ℕ → Option (Result (Option (List ℕ)) FaultKind)
option_answer code order options =
    if nat_lt (length options) 4 then Some (Ok None)
    else if number16 order options 0 == 0 then Some (Ok None)
    else if nat_lt (length options) (option_size order options) then Some (Err Length)
    else if number16 order options 0 == code then Some (Ok (Some (slice_range options 4 (4 + number16 order options 2))))
    else None

-- the first answer among at most so many options
abbrev pub value_among : ℕ → ℕ → ByteOrder → List ℕ → Result (Option (List ℕ)) FaultKind
value_among zero code order options = Ok None
value_among (suc most) code order options = unwrap_or (option_answer code order options) (value_among most code order (drop (option_size order options) options))

-- the value of the first option of a code
abbrev pub option_value : ℕ → ByteOrder → List ℕ → Result (Option (List ℕ)) FaultKind
option_value code order options = value_among (length options) code order options

-- if_tsresol, an octet; 6 where it is absent
abbrev pub resolution_by : Option (List ℕ) → Result ℕ FaultKind
resolution_by None = Ok 6
resolution_by (Some value) = checked ((length value == 1, Length) ∷ []) (slice_index value 0)

-- if_tsoffset, seconds in eight octets
abbrev pub shift_by : ByteOrder → Option (List ℕ) → Result (Option Shift) FaultKind
shift_by order None = Ok None
shift_by order (Some value) = checked ((length value == 8, Length) ∷ []) (Some (shift_of (number64 order value 0)))

abbrev pub units_of_options : ByteOrder → List ℕ → Result ℕ FaultKind
units_of_options order options = option_value 9 order options >>= (λ value. resolution_by value >>= reading_units)

abbrev pub shift_of_options : ByteOrder → List ℕ → Result (Option Shift) FaultKind
shift_of_options order options = option_value 14 order options >>= (λ value. shift_by order value)

-- an interface: its link, the most that is kept of a frame, the ticks of a second, and how much later or earlier its moments are than its ticks say
pub record Taken : Type 0 where
  pub link : Option LinkType
  pub longest : ℕ
  pub units : ℕ
  pub shift : Option Shift

-- link, two octets of nothing, longest frame, options
abbrev pub reading_interface : ByteOrder → List ℕ → Result Taken FaultKind
reading_interface order body =
    checked ((nat_le 8 (length body), Length) ∷ []) (drop 8 body)
    >>= (λ options. units_of_options order options
    >>= (λ units. shift_of_options order options
    >>= (λ shift. Ok (record { link = link_of (number16 order body 0); longest = number32 order body 4; units = units; shift = shift }))))

-- what an interface shows
abbrev pub interface_of : Described → Taken
interface_of i = record { link = i.link; longest = i.longest; units = i.units; shift = i.shift }

-- interface, ticks (the high half first), octets captured, octets of the frame on the link
abbrev pub reading_enhanced : ByteOrder → ℕ → List ℕ → Result EnhancedHead FaultKind
reading_enhanced order size octets =
    checked ((nat_le 32 size, Length) ∷ (nat_le 20 (length octets), CutShort) ∷ (nat_le (number32 order octets 12 + 32) size, Length) ∷ [])
    (record { interface = number32 order octets 0; ticks = number32 order octets 4 * 2 ^ 32 + number32 order octets 8; captured = number32 order octets 12 })

abbrev pub kept_of : ℕ → ℕ → ℕ
kept_of longest original = if longest == 0 then original else min original longest

-- octets of the frame on the link
abbrev pub reading_simple : ByteOrder → ℕ → ℕ → List ℕ → Result ℕ FaultKind
reading_simple order size longest octets =
    checked ((nat_le 16 size, Length) ∷ (nat_le 4 (length octets), CutShort) ∷ (nat_le (kept_of longest (number32 order octets 0) + 16) size, Length) ∷ []) (kept_of longest (number32 order octets 0))
