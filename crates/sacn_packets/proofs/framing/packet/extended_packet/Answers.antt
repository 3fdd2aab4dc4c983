use Rattle.std.proofs.Common.{sym, arith}
use Rattle.std.proofs.lemmas.Bool.{ne_eqb}
use Rattle.std.proofs.lemmas.Result.{err_from_is_err_and}
use Rattle.sacn_packets.specs.RootText.{root_of}
use Rattle.sacn_packets.proofs.LayersChecked.{page_refused, page_passed, page_is_shown}
use Rattle.sacn_packets.proofs.framing.packet.extended_packet.Goals as goal

pub returns-in_err-check_page : goal.returns-in_err-check_page
returns-in_err-check_page c =
    let p = err_from_is_err_and c.from_residual-in_err-check_page.result c.from_residual-in_err-check_page.ensures.1 in
    rw (p.1, p.2) (page_refused (root_of c.args.root) c.in_ok-vector.vector c.in_err-check_page.field-0.0 c.in_ok-vector.ensures (ne_eqb c.in_ok-vector.vector 1 c.if-vector-eq-SYNC_VECTOR.false) c.in_err-check_page.ensures)

pub invariant_of-result : goal.invariant_of-result
invariant_of-result c =
    let is = page_is_shown c.args.octets.now (root_of c.args.root) (λ i. omega (arith, c.type_inv.octets i)) c.requires.begins c.in_ok-check_page.ensures in
    record { is_page = is.0; laid_out = is.1 }

pub returns : goal.returns
returns c =
    sym (page_passed c.args.octets.now (root_of c.args.root) c.in_ok-vector.vector c.requires.begins c.in_ok-vector.ensures (ne_eqb c.in_ok-vector.vector 1 c.if-vector-eq-SYNC_VECTOR.false) c.in_ok-check_page.ensures)
