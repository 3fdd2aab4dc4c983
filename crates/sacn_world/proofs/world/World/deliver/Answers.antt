use Rattle.std.proofs.Common.{rules, refl, sym, ap, subst, ◌∙◌, arith, inl, inr, ◌≡◌, None}
use Rattle.std.proofs.lemmas.Option.{slice_get_read, same_Some}
use Rattle.sacn_packets.specs.PacketReading.{reading_packet}
use Rattle.sacn_world.specs.declared.datagram.SentDatagram.{SentDatagram}
use Rattle.sacn_world.specs.Watches.{Watch, taken_by}
use Rattle.sacn_world.specs.Wire.{came_of, refusal_by}
use Rattle.sacn_world.specs.Invariants.{seen_world}
use Rattle.sacn_world.proofs.Keeping.{no_node_deliver, no_datagram, deliver_refused, deliver_is, deliver_done, put_back, there_is}
use Rattle.sacn_world.proofs.world.World.deliver.Goals as goal

pub returns-then-node-len : goal.returns-then-node-len
returns-then-node-len c =
    let s = c.self.inside in
    (inl (no_node_deliver s.consoles.items s.sent.items s.nodes.items c.self.invariant c.args.self.now c.self.view_is c.args.datagram c.args.node c.args.now (omega arith)), refl)

pub returns-then-datagram-len : goal.returns-then-datagram-len
returns-then-datagram-len c =
    let s = c.self.inside in
    let y = there_is s.nodes.items c.args.node (omega arith) in
    (inl (no_datagram s.consoles.items s.sent.items s.nodes.items c.self.invariant c.args.self.now c.self.view_is c.args.datagram c.args.node c.args.now y.0 y.1 (omega arith)), refl)

pub returns-in-Some : goal.returns-in-Some
returns-in-Some c =
    let s = c.self.inside in
    let f : SentDatagram = c.index-sent.result.now in
    let y : Watch = c.index.result.now in
    let ef = slice_get_read s.sent.items s.sent.len c.args.datagram f (search rules) (omega arith) c.index-sent.ensures in
    let ey = slice_get_read s.nodes.items s.nodes.len c.args.node y (search rules) (omega arith) c.index.ensures in
    (inl (deliver_refused s.consoles.items s.sent.items s.nodes.items c.self.invariant c.args.self.now c.self.view_is c.args.datagram c.args.node c.args.now y f ey ef c.in-Some.fault (sym c.refusal.ensures ∙ c.in-Some.is)), refl)

pub returns-in_default-take : goal.returns-in_default-take
returns-in_default-take c =
    let s = c.self.inside in
    let f : SentDatagram = c.index-sent.result.now in
    let y : Watch = c.index.result.now in
    let x : Watch = c.index_mut.result.now in
    let ef = slice_get_read s.sent.items s.sent.len c.args.datagram f (search rules) (omega arith) c.index-sent.ensures in
    let ey = slice_get_read s.nodes.items s.nodes.len c.args.node y (search rules) (omega arith) c.index.ensures in
    let ex = slice_get_read s.nodes.items s.nodes.len c.args.node x (search rules) (omega arith) c.index_mut.ensures.value in (
      inr (refl, deliver_is s.consoles.items s.sent.items s.nodes.items c.self.invariant c.args.self.now c.self.view_is c.args.datagram c.args.node c.args.now y f ey ef (sym c.refusal.ensures ∙ c.in_default.is)),
      ap (seen_world s.consoles.items s.sent.items) (put_back s.nodes.items c.args.node x c.take.new.self ex c.in_default-take.ensures.unchanged) ∙ c.self.view_is,
    )

pub invariant_of-self-2 : goal.invariant_of-self-2
invariant_of-self-2 c =
    let s = c.self.inside in
    let f : SentDatagram = c.index-sent.result.now in
    let y : Watch = c.index.result.now in
    let x : Watch = c.index_mut.result.now in
    let ef = slice_get_read s.sent.items s.sent.len c.args.datagram f (search rules) (omega arith) c.index-sent.ensures in
    let ey = slice_get_read s.nodes.items s.nodes.len c.args.node y (search rules) (omega arith) c.index.ensures in
    let ex = slice_get_read s.nodes.items s.nodes.len c.args.node x (search rules) (omega arith) c.index_mut.ensures.value in
    let is : y ≡ x = same_Some y x (sym ey ∙ ex) in
    let may : refusal_by f x.marks ≡ None = subst (λ (w : Watch). refusal_by f w.marks ≡ None) is (sym c.refusal.ensures ∙ c.in_default.is) in
    let ez = c.in-Ok.ensures.taken ∙ ap (λ o. taken_by (reading_packet c.as_slice.result.now) c.args.now o x) c.mark.ensures ∙ ap (λ os. taken_by (reading_packet os) c.args.now (came_of f) x) c.as_slice.ensures.value in
    let er = c.in-Ok.ensures.reply ∙ ap (λ os. Rattle.sacn_node.specs.Readings.reply_to (reading_packet os) c.args.now x.node.core) c.as_slice.ensures.value in
    (deliver_done s.consoles.items s.sent.items s.nodes.items c.self.invariant c.args.self.now c.self.view_is c.args.datagram c.args.node c.args.now x f ex ef may c.take.new.self ez c.in-Ok.reply er).kept

pub returns : goal.returns
returns c =
    let s = c.self.inside in
    let f : SentDatagram = c.index-sent.result.now in
    let y : Watch = c.index.result.now in
    let x : Watch = c.index_mut.result.now in
    let ef = slice_get_read s.sent.items s.sent.len c.args.datagram f (search rules) (omega arith) c.index-sent.ensures in
    let ey = slice_get_read s.nodes.items s.nodes.len c.args.node y (search rules) (omega arith) c.index.ensures in
    let ex = slice_get_read s.nodes.items s.nodes.len c.args.node x (search rules) (omega arith) c.index_mut.ensures.value in
    let is : y ≡ x = same_Some y x (sym ey ∙ ex) in
    let may : refusal_by f x.marks ≡ None = subst (λ (w : Watch). refusal_by f w.marks ≡ None) is (sym c.refusal.ensures ∙ c.in_default.is) in
    let ez = c.in-Ok.ensures.taken ∙ ap (λ o. taken_by (reading_packet c.as_slice.result.now) c.args.now o x) c.mark.ensures ∙ ap (λ os. taken_by (reading_packet os) c.args.now (came_of f) x) c.as_slice.ensures.value in
    let er = c.in-Ok.ensures.reply ∙ ap (λ os. Rattle.sacn_node.specs.Readings.reply_to (reading_packet os) c.args.now x.node.core) c.as_slice.ensures.value in
    (deliver_done s.consoles.items s.sent.items s.nodes.items c.self.invariant c.args.self.now c.self.view_is c.args.datagram c.args.node c.args.now x f ex ef may c.take.new.self ez c.in-Ok.reply er).step
