-- The octet of options of a data packet (E1.31, 6.2.6).
use Rattle.std.specs.Prelude.{ℕ, ◌%◌, Bool, not, ◌==◌}

-- a bit below bit 5 is set: these are reserved, and sent as 0
abbrev pub has_reserved_bits : ℕ → Bool
has_reserved_bits options = not (options % 32 == 0)
