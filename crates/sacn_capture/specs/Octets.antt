-- Numbers among octets, in either byte order.
use Rattle.std.specs.Prelude.{ℕ, List, ◌+◌, ◌*◌, ◌^◌, slice_index}
use Rattle.sacn_capture.specs.declared.octets.ByteOrder.{ByteOrder}
use Rattle.sacn_capture.specs.declared.octets.ByteOrder.TheVariants.{Big, Little}

-- the number in the two octets at a place
abbrev pub number16 : ByteOrder → List ℕ → ℕ → ℕ
number16 Big octets at = 2 ^ 8 * slice_index octets at + slice_index octets (at + 1)
number16 Little octets at = slice_index octets at + 2 ^ 8 * slice_index octets (at + 1)

-- the number in the four octets at a place
abbrev pub number32 : ByteOrder → List ℕ → ℕ → ℕ
number32 Big octets at = 2 ^ 16 * number16 Big octets at + number16 Big octets (at + 2)
number32 Little octets at = number16 Little octets at + 2 ^ 16 * number16 Little octets (at + 2)

-- the number in the eight octets at a place
abbrev pub number64 : ByteOrder → List ℕ → ℕ → ℕ
number64 Big octets at = 2 ^ 32 * number32 Big octets at + number32 Big octets (at + 4)
number64 Little octets at = number32 Little octets at + 2 ^ 32 * number32 Little octets (at + 4)
