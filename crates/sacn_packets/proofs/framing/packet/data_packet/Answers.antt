use Rattle.std.proofs.Common.{sym, arith}
use Rattle.std.proofs.lemmas.Result.{err_from_is_err_and}
use Rattle.sacn_packets.specs.RootText.{root_of}
use Rattle.sacn_packets.proofs.RootLayer.{body_bytes, root_only}
use Rattle.sacn_packets.specs.DataLayers.{data_in}
use Rattle.sacn_packets.specs.declared.framing.packet.Packet.TheVariants.{DataPacket}
use Rattle.sacn_packets.proofs.Packets.{data_found}
use Rattle.sacn_packets.proofs.LayersChecked.{framing_refused, dmp_refused, data_passed}
use Rattle.sacn_packets.proofs.framing.packet.data_packet.Goals as goal

pub returns-in_err-body : goal.returns-in_err-body
returns-in_err-body c =
    let p = err_from_is_err_and c.from_residual.result c.from_residual.ensures.1 in
    rw (p.1, p.2) (framing_refused (root_of c.args.root) c.in_err-body.field-0.0 c.in_err-body.ensures)

pub returns-in_err-check_dmp : goal.returns-in_err-check_dmp
returns-in_err-check_dmp c =
    let p = err_from_is_err_and c.from_residual-in_err-check_dmp.result c.from_residual-in_err-check_dmp.ensures.1 in
    rw (p.1, p.2) (dmp_refused (root_of c.args.root) c.in_ok-body.body.now c.in_err-check_dmp.field-0.0 c.in_ok-body.ensures c.in_err-check_dmp.ensures)

pub invariant_of-result : goal.invariant_of-result
invariant_of-result c =
    let octets = c.args.octets.now in
    let root = root_of c.args.root in
    let fits = body_bytes octets root (λ i. omega (arith, c.type_inv.octets i)) (root_only octets root c.requires.begins) in
    let passed = data_passed octets root c.in_ok-body.body.now c.requires.begins c.in_ok-body.ensures c.in_ok-check_dmp.ensures in
    record { is_data = (data_found octets root (DataPacket (data_in octets)) fits c.requires.vector c.requires.begins passed.0).is_data; laid_out = passed.1 }

pub returns : goal.returns
returns c = sym (data_passed c.args.octets.now (root_of c.args.root) c.in_ok-body.body.now c.requires.begins c.in_ok-body.ensures c.in_ok-check_dmp.ensures).0
