-- The records of a tape over memory.
use Rattle.std.specs.Prelude.{ℕ, List, map, drop, Option, Some}
use Rattle.sacn_replay.specs.declared.memory.MemoryRecord.{MemoryRecord}
use Rattle.sacn_replay.specs.declared.memory.MemoryTape.{MemoryTape}
use Rattle.sacn_replay.specs.Playing.{Recorded}
use Rattle.sacn_replay.specs.Reels.{Reel}

abbrev pub recorded : MemoryRecord → Recorded
recorded r = record { moment = r.moment; datagram = r.octets.items }

-- some records, of which so many are behind
abbrev pub reel_of : ℕ → List MemoryRecord → Reel
reel_of behind rs = record { whole = map recorded rs; left = map recorded (drop behind rs) }

abbrev pub tape_told : MemoryTape → Option Reel
tape_told t = Some (reel_of t.next t.records.items)
