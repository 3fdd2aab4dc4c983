-- How often a rule was broken, and when.
use Rattle.std.specs.Prelude.{ℕ, ◌+◌, ◌-◌, ◌^◌, min, Bool, ◌==◌, List, [], ◌∷◌, length, if◌then◌else◌}
use Rattle.sacn_audit.specs.declared.rule.Rule.{Rule}
use Rattle.sacn_audit.specs.declared.rule.Rule.TheVariants.{TooFast, Silent, ShortChange, ShortEnd, CloseEnds, NameNotEnded, NameNotText, NumberStays, NumberLeftOut, ReservedBits, OtherGroup, OtherStart}
use Rattle.sacn_audit.specs.declared.breach.Breach.{Breach}
use Rattle.sacn_audit.specs.declared.breach.Breaches.{Breaches}

abbrev pub no_breach : Breach
no_breach = record { times = 0; first = 0; latest = 0 }

-- the last of a list behind this
abbrev pub last_of : ℕ → List ℕ → ℕ
last_of m [] = m
last_of m (n ∷ earlier) = last_of n earlier

-- by the moments at which it was broken, the latest first: how many they are, at most what 64 bits hold, the first and the latest
abbrev pub breach_by : List ℕ → Breach
breach_by [] = no_breach
breach_by (m ∷ earlier) = record { times = min (length (m ∷ earlier)) (2 ^ 64 - 1); first = last_of m earlier; latest = m }

-- ---- kept with each packet

-- broken once more, at t
abbrev pub noted : ℕ → Breach → Breach
noted t b = record { times = min (b.times + 1) (2 ^ 64 - 1); first = if b.times == 0 then t else b.first; latest = t }

abbrev pub noted_if : Bool → ℕ → Breach → Breach
noted_if is_broken t b = if is_broken then noted t b else b

abbrev pub no_breaches : Breaches
no_breaches = record {
  too_fast = no_breach;
  silent = no_breach;
  short_change = no_breach;
  short_end = no_breach;
  close_ends = no_breach;
  name_not_ended = no_breach;
  name_not_text = no_breach;
  number_stays = no_breach;
  number_left_out = no_breach;
  reserved_bits = no_breach;
  other_group = no_breach;
  other_start = no_breach;
}

abbrev pub breach_of : Rule → Breaches → Breach
breach_of TooFast b = b.too_fast
breach_of Silent b = b.silent
breach_of ShortChange b = b.short_change
breach_of ShortEnd b = b.short_end
breach_of CloseEnds b = b.close_ends
breach_of NameNotEnded b = b.name_not_ended
breach_of NameNotText b = b.name_not_text
breach_of NumberStays b = b.number_stays
breach_of NumberLeftOut b = b.number_left_out
breach_of ReservedBits b = b.reserved_bits
breach_of OtherGroup b = b.other_group
breach_of OtherStart b = b.other_start
