-- Octets given as hexadecimal digits.
use Rattle.std.specs.Prelude.{ℕ, Bool, List, filter, not, ◌==◌, ◌||◌}

-- a space, a tab, LF or CR
abbrev pub is_skipped : ℕ → Bool
is_skipped octet = (octet == 32) || ((octet == 9) || ((octet == 10) || (octet == 13)))

-- the digits, without what is skipped
abbrev pub digits_of : List ℕ → List ℕ
digits_of text = filter (λ octet. not (is_skipped octet)) text
