use Rattle.std.proofs.Common.{◌≡◌, List, ◌++◌, length}
use Rattle.sacn_edge.specs.Additions.{Extends}
use Rattle.sacn_monitor.specs.Histories.{Call}
use Rattle.sacn_watch.specs.Watches.{Receive, heard_by, reading_by, calls_by, AreBefore}
use Rattle.sacn_watch.proofs.watch.watch.Given as goal

-- the turns so far
abbrev pub invariant-loop-turn : goal.invariant-loop-turn
invariant-loop-turn g l =
    (turns : List (List Receive))
    × (length turns ≡ l._turn)
    × AreBefore l.until turns
    × Extends (g.L.Receiver.told l.fn.listener) (g.L.Receiver.told l.listener) (heard_by turns)
    × (l.heard.now ≡ reading_by turns)
    × ((calls : List Call) → g.W.Watcher.Handed l.fn.watcher calls → g.W.Watcher.Handed l.watcher (calls_by turns ++ calls))
