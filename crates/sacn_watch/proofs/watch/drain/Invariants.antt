use Rattle.std.proofs.Common.{◌≡◌, List, ◌++◌, length}
use Rattle.sacn_edge.specs.Additions.{Extends}
use Rattle.sacn_machine.specs.Hearings.{in_order}
use Rattle.sacn_monitor.specs.Histories.{Call}
use Rattle.sacn_watch.specs.Watches.{Receive, heard_in, reading_after, calls_in}
use Rattle.sacn_watch.proofs.watch.drain.Given as goal

-- what came so far was handed on
abbrev pub invariant-loop-count : goal.invariant-loop-count
invariant-loop-count g l =
    (rs : List Receive)
    × (length rs ≡ l._count)
    × Extends (g.L.Receiver.told l.fn.listener) (g.L.Receiver.told l.listener) (in_order (heard_in rs))
    × (l.heard.now ≡ reading_after l.fn.heard.now rs)
    × ((calls : List Call) → g.W.Watcher.Handed l.fn.watcher calls → g.W.Watcher.Handed l.watcher (calls_in rs ++ calls))
