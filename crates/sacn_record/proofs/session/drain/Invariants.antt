use Rattle.std.proofs.Common.{◌≡◌, List, ◌++◌, length}
use Rattle.std.specs.List.{flat_map}
use Rattle.sacn_edge.specs.Additions.{Extends}
use Rattle.sacn_record.specs.Recordings.{datagram_block}
use Rattle.sacn_record.specs.Laws.{AllFit}
use Rattle.sacn_record.specs.Hearing.{Catch, in_order, reading_after, asked_in}
use Rattle.sacn_record.specs.Sessions.{counted_on}
use Rattle.sacn_record.proofs.session.drain.Given as goal

-- what came so far waits
abbrev pub invariant-loop-count : goal.invariant-loop-count
invariant-loop-count g l =
    (cs : List Catch)
    × Extends (g.L.Wire.told l.fn.wire) (g.L.Wire.told l.wire) (in_order cs)
    × (l.now ≡ reading_after l.fn.now cs)
    × (l.waiting.blocks.items ≡ l.fn.waiting.blocks.items ++ flat_map datagram_block (asked_in l.plan cs))
    × (l.waiting.count ≡ counted_on l.fn.waiting.count (length (asked_in l.plan cs)))
    × AllFit (asked_in l.plan cs)
