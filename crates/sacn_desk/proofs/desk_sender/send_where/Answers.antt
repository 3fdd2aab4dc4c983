use Rattle.std.proofs.Common.{◌≡◌, ◌==◌, ℕ, Bool, false, ◌&&◌, sym, ap, ◌∙◌}
use Rattle.sacn_edge.proofs.ToldLemmas.{not_zero}
use Rattle.sacn_desk.proofs.SendingPlaces.{sent_where}
use Rattle.sacn_desk.proofs.desk_sender.send_where.Goals as goal

pub returns-then-failed-eq0 : goal.returns-then-failed-eq0
returns-then-failed-eq0 g c =
    let taken = c.send_group-is_taken.result in
    let sent = sent_where _ _ _ c.args.destinations.now _ _ _ _ _ _ c.universe-universe.ensures c.as_slice-hosts.ensures.value c.octets-octets.ensures c.send_each-failed.ensures c.send_group-is_taken.ensures in
    let begins : taken ≡ ((c.send_each-failed.result == 0) && taken) = sym (ap (λ (n : ℕ). (n == 0) && taken) c.if-failed-eq0.true) in
    (sent.0, sent.1, sent.2, sent.3, begins ∙ sent.4)

pub returns-else-failed-eq0 : goal.returns-else-failed-eq0
returns-else-failed-eq0 g c =
    let taken = c.send_group-is_taken.result in
    let sent = sent_where _ _ _ c.args.destinations.now _ _ _ _ _ _ c.universe-universe.ensures c.as_slice-hosts.ensures.value c.octets-octets.ensures c.send_each-failed.ensures c.send_group-is_taken.ensures in
    let some : (c.send_each-failed.result == 0) ≡ false = not_zero c.send_each-failed.result c.if-failed-eq0.false in
    let begins : (c.send_each-failed.result == 0) ≡ ((c.send_each-failed.result == 0) && taken) = some ∙ ap (λ (b : Bool). b && taken) (sym some) in
    (sent.0, sent.1, sent.2, sent.3, begins ∙ sent.4)
