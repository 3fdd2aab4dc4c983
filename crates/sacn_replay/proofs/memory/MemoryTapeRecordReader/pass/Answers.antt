use Rattle.std.proofs.Common.{Option, Some, ap, arith}
use Rattle.sacn_replay.specs.Reels.{Reel}
use Rattle.sacn_replay.proofs.Tapes.{passes, stays}
use Rattle.sacn_replay.proofs.memory.MemoryTapeRecordReader.pass.Goals as goal

pub returns-then-self-len : goal.returns-then-self-len
returns-then-self-len c =
    let t = c.args.self.now in
    record { told = ap (λ (reel : Reel). let r : Option Reel = Some reel in r) (passes t.records.items t.next) }

pub returns-else-self-len : goal.returns-else-self-len
returns-else-self-len c =
    let t = c.args.self.now in
    record { told = ap (λ (reel : Reel). let r : Option Reel = Some reel in r) (stays t.records.items t.next (omega (arith, c.if-self-len.false, c.len.ensures))) }
