use Rattle.std.proofs.Common.{rules, refl, sym, ap, ◌∙◌, arith}
use Rattle.std.proofs.lemmas.Option.{slice_get_read}
use Rattle.sacn_packets.specs.PacketReading.{reading_packet}
use Rattle.sacn_node.specs.Readings.{reply_to}
use Rattle.std.specs.Prelude.{is_ok, None}
use Rattle.sacn_world.specs.Watches.{Watch, taken_by}
use Rattle.sacn_world.proofs.Keeping.{no_node_noise, noise_refused, noise_done, some_packet, some_fault, there_is}
use Rattle.sacn_world.proofs.world.World.noise.Goals as goal

pub returns-then-node-len : goal.returns-then-node-len
returns-then-node-len c =
    let s = c.self.inside in
    (no_node_noise s.consoles.items s.sent.items s.nodes.items c.self.invariant c.args.self.now c.self.view_is c.args.node c.args.now c.args.octets.now (omega arith), refl)

pub returns-then-is_ok : goal.returns-then-is_ok
returns-then-is_ok c =
    let s = c.self.inside in
    let y = there_is s.nodes.items c.args.node (omega arith) in
    let read = c.read_packet.ensures.exact ∙ ap reading_packet c.as_slice.ensures.value in
    let p = some_packet (reading_packet c.args.octets.now.items) (ap is_ok (sym read) ∙ sym c.is_ok.ensures.value ∙ c.if-is_ok.true) in
    (noise_refused s.consoles.items s.sent.items s.nodes.items c.self.invariant c.args.self.now c.self.view_is c.args.node c.args.now c.args.octets.now y.0 y.1 p.0 p.1, refl)

pub invariant_of-self : goal.invariant_of-self
invariant_of-self c =
    let s = c.self.inside in
    let y : Watch = c.index_mut.result.now in
    let ey = slice_get_read s.nodes.items s.nodes.len c.args.node y (search rules) (omega arith) c.index_mut.ensures.value in
    let read = c.read_packet.ensures.exact ∙ ap reading_packet c.as_slice.ensures.value in
    let f = some_fault (reading_packet c.args.octets.now.items) (ap is_ok (sym read) ∙ sym c.is_ok.ensures.value ∙ c.if-is_ok.false) in
    let ez = c.hear.ensures.taken ∙ ap (λ os. taken_by (reading_packet os) c.args.now None y) c.as_slice-2.ensures.value in
    let er = c.hear.ensures.reply ∙ ap (λ os. reply_to (reading_packet os) c.args.now y.node.core) c.as_slice-2.ensures.value in
    (noise_done s.consoles.items s.sent.items s.nodes.items c.self.invariant c.args.self.now c.self.view_is c.args.node c.args.now c.args.octets.now y ey f.0 f.1 c.hear.new.self ez c.hear.result er).kept

pub returns : goal.returns
returns c =
    let s = c.self.inside in
    let y : Watch = c.index_mut.result.now in
    let ey = slice_get_read s.nodes.items s.nodes.len c.args.node y (search rules) (omega arith) c.index_mut.ensures.value in
    let read = c.read_packet.ensures.exact ∙ ap reading_packet c.as_slice.ensures.value in
    let f = some_fault (reading_packet c.args.octets.now.items) (ap is_ok (sym read) ∙ sym c.is_ok.ensures.value ∙ c.if-is_ok.false) in
    let ez = c.hear.ensures.taken ∙ ap (λ os. taken_by (reading_packet os) c.args.now None y) c.as_slice-2.ensures.value in
    let er = c.hear.ensures.reply ∙ ap (λ os. reply_to (reading_packet os) c.args.now y.node.core) c.as_slice-2.ensures.value in
    (noise_done s.consoles.items s.sent.items s.nodes.items c.self.invariant c.args.self.now c.self.view_is c.args.node c.args.now c.args.octets.now y ey f.0 f.1 c.hear.new.self ez c.hear.result er).step
