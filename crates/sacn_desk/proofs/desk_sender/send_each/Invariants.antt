use Rattle.std.proofs.Common.{◌≡◌, ◌≤◌, List, take}
use Rattle.sacn_edge.specs.Additions.{Extends}
use Rattle.sacn_machine.specs.Sendings.{Sending}
use Rattle.sacn_desk.specs.SentTo.{receivers, failures, hosts_of, AllCarry}
use Rattle.sacn_desk.proofs.desk_sender.send_each.Given as goal

-- the sends so far
abbrev pub invariant-loop-place : goal.invariant-loop-place
invariant-loop-place g l = record {
  few : l.failed ≤ l.place;
  run :
      (ss : List Sending)
      × Extends (g.S.Sockets.told l.fn.sockets) (g.S.Sockets.told l.sockets) ss
      × (receivers ss ≡ hosts_of l.universe (take l.place l.hosts))
      × AllCarry l.datagram ss
      × (l.failed ≡ failures ss);
}
