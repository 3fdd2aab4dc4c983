-- One counter for several universes: what a packet changes in what is kept of the numbers of its source.
use Rattle.std.specs.Prelude.{◌+◌, min, Bool, not, ◌&&◌, ◌==◌, Option, Some, None, if◌then◌else◌}
use Rattle.sacn_packets.specs.Data.{Data}
use Rattle.sacn_audit.specs.declared.source_numbers.SourceNumbers.{SourceNumbers}
use Rattle.sacn_audit.specs.Arrivals.{number_after}

abbrev pub first_numbers : Data → SourceNumbers
first_numbers d = record { universe = d.universe; number = d.number; counted_on = 0 }

-- a packet is on another universe than the latest one, and has the number after that one's
abbrev pub counts_on : Data → SourceNumbers → Bool
counts_on d n = not (d.universe == n.universe) && (d.number == number_after n.number)

abbrev pub numbers_after : Data → Option SourceNumbers → SourceNumbers
numbers_after d None = first_numbers d
numbers_after d (Some n) = record {
  universe = d.universe;
  number = d.number;
  counted_on = if counts_on d n then min (n.counted_on + 1) 8 else 0;
}

abbrev pub has_one_counter : SourceNumbers → Bool
has_one_counter n = n.counted_on == 8
