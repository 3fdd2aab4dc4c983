-- Packets that came twice, as where two interfaces are heard at once.
use Rattle.std.specs.Prelude.{ℕ, ◌-◌, ◌==◌, nat_le, nat_lt, ◌&&◌, List, [], ◌++◌, codes, decimal, if◌then◌else◌}
use Rattle.sacn_monitor.specs.declared.stream.Stream.{Stream}
use Rattle.sacn_monitor.specs.Kinds.{total}
use Rattle.sacn_tell.specs.declared.options.Form.{Form}
use Rattle.sacn_tell.specs.declared.options.Form.TheVariants.{Text, Json}
use Rattle.sacn_tell.specs.Amounts.{in_all}
use Rattle.sacn_tell.specs.Choice.{is_wanted}
use Rattle.sacn_tell.specs.Tellings.{where_so}

-- the packets of a source on a universe that came again behind one with the same number, where these are at least half
-- as many as were taken, and no more than these
abbrev pub twice_of : List ℕ → Stream → ℕ
twice_of wanted s =
    if is_wanted wanted s.universe && (nat_le (total s.account.kinds - s.account.repeats) s.account.repeats && nat_le s.account.repeats (total s.account.kinds))
    then s.account.repeats else 0

-- those of all universes that are asked for
abbrev pub twice_in : List ℕ → List Stream → ℕ
twice_in wanted streams = in_all (twice_of wanted) streams

unfoldable pub twice_count : ℕ → List ℕ
twice_count count = if count == 1 then codes "\n1 packet" else codes "\n" ++ (decimal count ++ codes " packets")

unfoldable pub twice_text : ℕ → List ℕ
twice_text count =
    twice_count count ++ codes " came twice (same source, universe and number), as where two interfaces are heard at once"

-- for people; nothing where none came twice
abbrev pub twice_row : ℕ → List ℕ
twice_row count = where_so (nat_lt 0 count) (twice_text count)

abbrev pub twice_told : Form → List ℕ → List Stream → List ℕ
twice_told Text wanted streams = twice_row (twice_in wanted streams)
twice_told Json wanted streams = []
