-- Places of streams as the document tells them.
use Rattle.std.specs.Prelude.{ℕ, ◌+◌, nat_lt, Option, None, Some, if◌then◌else◌}

-- one more than the place, where 16 bits hold it, and 0 for none
abbrev pub mark_of : Option ℕ → ℕ
mark_of None = 0
mark_of (Some place) = if nat_lt place 65535 then place + 1 else 0
