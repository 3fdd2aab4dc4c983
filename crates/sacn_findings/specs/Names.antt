-- Two sources of one name. Names needn't be unique (E1.31, 6.2.2), but a crew tells sources apart by them.
use Rattle.std.specs.Prelude.{ℕ, nat_le, nat_lt, Bool, not, ◌&&◌, ◌==◌, List, length, Option}
use Rattle.std.specs.List.{before_first, position}
use Rattle.std.specs.Str.{bytes_eq}
use Rattle.sacn_audit.specs.declared.source.SourceAudit.{SourceAudit}

-- the octets of its name, which stand before the first NUL
abbrev pub name_of : SourceAudit → List ℕ
name_of s = before_first (λ octet. octet == 0) s.name

-- the spans of both, each from the first moment to the latest, have a moment in common
abbrev pub spans_meet : SourceAudit → SourceAudit → Bool
spans_meet s other = nat_le s.first other.moment && nat_le other.first s.moment

-- it is another source of the same name, which isn't empty, at the same time
abbrev pub is_namesake : SourceAudit → SourceAudit → Bool
is_namesake s other = not (bytes_eq s.cid other.cid) && nat_lt 0 (length (name_of s)) && bytes_eq (name_of s) (name_of other) && spans_meet s other

-- the place of the first such one
abbrev pub namesake_at : SourceAudit → List SourceAudit → Option ℕ
namesake_at s ss = position (is_namesake s) ss
