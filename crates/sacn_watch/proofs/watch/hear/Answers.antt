use Rattle.std.proofs.Common.{◌∷◌, [], refl, subst}
use Rattle.std.proofs.lemmas.Result.{err_from_is_err_and}
use Rattle.sacn_edge.specs.Additions.{Extends}
use Rattle.sacn_machine.specs.Hearings.{hearing_in}
use Rattle.sacn_machine.specs.declared.receiver.Arrival.{Arrival}
use Rattle.sacn_machine.specs.declared.receiver.Arrival.TheVariants.{Nothing, Datagram, Failed}
use Rattle.sacn_watch.proofs.Handing.{heard_still}
use Rattle.sacn_watch.proofs.watch.hear.Goals as goal

pub returns-in_err-tell_stop : goal.returns-in_err-tell_stop
returns-in_err-tell_stop g c =
    let p = err_from_is_err_and c.from_residual.result c.from_residual.ensures.1 in
    let receipt = c.receive-receipt.result in
    let new = c.receive-receipt.new in
    rw p.1 (
      record { hearing = hearing_in receipt.now receipt.arrival new.buffer; port = 0 },
      heard_still _ _ _ _ c.receive-receipt.ensures.told c.tell_stop.ensures.told,
      refl,
      tt,
    )

pub returns-in_err-take-in-Datagram : goal.returns-in_err-take-in-Datagram
returns-in_err-take-in-Datagram g c =
    let p = err_from_is_err_and c.from_residual-in_err-take-in-Datagram.result c.from_residual-in_err-take-in-Datagram.ensures.1 in
    let receipt = c.receive-receipt.result in
    let new = c.receive-receipt.new in
    rw p.1 (
      record { hearing = hearing_in receipt.now (Datagram c.in-Datagram.octets c.in-Datagram.sender) new.buffer; port = c.sender_port.result },
      heard_still _ _ _ _ (subst (λ (a : Arrival). Extends (g.L.Receiver.told c.args.listener.now) (g.L.Receiver.told new.self) (hearing_in receipt.now a new.buffer ∷ [])) c.in-Datagram.is c.receive-receipt.ensures.told) c.tell_stop.ensures.told,
      refl,
      tt,
    )

pub returns-in_ok-take-in-Datagram : goal.returns-in_ok-take-in-Datagram
returns-in_ok-take-in-Datagram g c =
    let receipt = c.receive-receipt.result in
    let new = c.receive-receipt.new in (
      record { hearing = hearing_in receipt.now (Datagram c.in-Datagram.octets c.in-Datagram.sender) new.buffer; port = c.sender_port.result },
      heard_still _ _ _ _ (subst (λ (a : Arrival). Extends (g.L.Receiver.told c.args.listener.now) (g.L.Receiver.told new.self) (hearing_in receipt.now a new.buffer ∷ [])) c.in-Datagram.is c.receive-receipt.ensures.told) c.tell_stop.ensures.told,
      refl,
      (refl, λ calls was. c.in_ok-take-in-Datagram.ensures.handed calls _ c.read_packet-reading.ensures.exact (c.in_ok-tell_stop.ensures.handed calls was)),
    )

pub returns-in-Nothing : goal.returns-in-Nothing
returns-in-Nothing g c =
    let receipt = c.receive-receipt.result in
    let new = c.receive-receipt.new in (
      record { hearing = hearing_in receipt.now Nothing new.buffer; port = 0 },
      heard_still _ _ _ _ (subst (λ (a : Arrival). Extends (g.L.Receiver.told c.args.listener.now) (g.L.Receiver.told new.self) (hearing_in receipt.now a new.buffer ∷ [])) c.in-Nothing.is c.receive-receipt.ensures.told) c.tell_stop.ensures.told,
      refl,
      (refl, c.in_ok-tell_stop.ensures.handed),
    )

pub returns-in-Failed : goal.returns-in-Failed
returns-in-Failed g c =
    let receipt = c.receive-receipt.result in
    let new = c.receive-receipt.new in (
      record { hearing = hearing_in receipt.now Failed new.buffer; port = 0 },
      heard_still _ _ _ _ (subst (λ (a : Arrival). Extends (g.L.Receiver.told c.args.listener.now) (g.L.Receiver.told new.self) (hearing_in receipt.now a new.buffer ∷ [])) c.in-Failed.is c.receive-receipt.ensures.told) c.tell_stop.ensures.told,
      refl,
      (refl, c.in_ok-tell_stop.ensures.handed),
    )
