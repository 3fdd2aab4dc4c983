use Rattle.std.proofs.Common.{◌≡◌, false, drop, List, ℕ}
use Rattle.sacn_discovery.specs.Collection.{nothing_known}
use Rattle.sacn_edge.specs.Additions.{Adds}
use Rattle.sacn_text.specs.Decoding.{decoded, then_text, octets_of}
use Rattle.sacn_text.proofs.decode.decode_text.Given as goal

abbrev pub invariant-loop-i : goal.invariant-loop-i
invariant-loop-i g l = record {
  works : g.O.Out.failed l.out ≡ false;
  so_far :
      (told : List ℕ)
      × Adds (g.O.Out.Tells l.fn.out) (g.O.Out.Tells l.out) told
      × (decoded nothing_known 0 (octets_of l.datagrams) ≡ then_text told (decoded l.collector l.i (drop l.i (octets_of l.datagrams))));
}
