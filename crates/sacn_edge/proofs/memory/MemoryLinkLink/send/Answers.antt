use Rattle.std.proofs.Common.{◌∙◌, ap, refl, rules, ◌==◌}
use Rattle.sacn_edge.specs.MemoryItems.{answered_from, first_heard}
use Rattle.sacn_edge.proofs.MemoryLemmas.{hands_more, sent_more}
use Rattle.sacn_edge.proofs.memory.MemoryLinkLink.send.Goals as goal
use Rattle.sacn_edge.proofs.memory.MemoryLinkLink.send.Goals.{in-Ok-push, in-Err}

pub returns : goal.returns
returns c = elim c.match-push.branch [
  | in-Ok-push w ↦
      record {
        told = rw (w.self-is, w.result-is)
            (hands_more c.args.self.now.lost (c.args.self.now.received == 18446744073709551615) (first_heard c.args.self.now.incoming.items c.args.self.now.received) _ _ _
            (ap (answered_from c.args.self.now.failing 0) w.in-Ok-push.ensures.items
            ∙ sent_more c.args.self.now.failing c.args.self.now.handed.items c.in-Ok.octets c.args.datagram.now _ w.fails_at.result c.len-place.result (c.in-Ok.ensures.items_if_clones_equal (λ x y e. e)) refl w.fails_at.ensures (c.len-place.ensures ∙ search rules)));
      }
  | in-Err w ↦ record { told = rw (w.self-is) tt }
]
