use Rattle.std.proofs.Common.{◌∷◌, [], Option, None, Some, refl, sym, subst, append-nil}
use Rattle.std.proofs.lemmas.Result.{err_from_is_err_and}
use Rattle.sacn_edge.specs.Additions.{Extends}
use Rattle.sacn_record.specs.declared.wire.Arrived.{Arrived}
use Rattle.sacn_record.specs.Hearing.{datagram_of}
use Rattle.sacn_record.proofs.session.hear.Goals as goal

pub returns-in-None : goal.returns-in-None
returns-in-None g c =
    let caught = c.receive-caught.result in
    let new = c.receive-caught.new in (
      record { now = caught.now; datagram = None },
      subst (λ (a : Option Arrived). Extends (g.L.Wire.told c.args.wire.now) (g.L.Wire.told new.self) (record { now = caught.now; datagram = datagram_of a new.buffer } ∷ [])) c.in-None.is c.receive-caught.ensures.told,
      refl,
      (sym (append-nil c.args.waiting.now.blocks.items), refl, tt),
    )

pub returns-in_err-add-in-Some : goal.returns-in_err-add-in-Some
returns-in_err-add-in-Some g c =
    let p = err_from_is_err_and c.from_residual.result c.from_residual.ensures.1 in
    let caught = c.receive-caught.result in
    let new = c.receive-caught.new in
    rw p.1 (
      record { now = caught.now; datagram = datagram_of (Some c.in-Some.arrived) new.buffer },
      subst (λ (a : Option Arrived). Extends (g.L.Wire.told c.args.wire.now) (g.L.Wire.told new.self) (record { now = caught.now; datagram = datagram_of a new.buffer } ∷ [])) c.in-Some.is c.receive-caught.ensures.told,
      refl,
      tt,
    )

pub returns-in_ok-add-in-Some : goal.returns-in_ok-add-in-Some
returns-in_ok-add-in-Some g c =
    let caught = c.receive-caught.result in
    let new = c.receive-caught.new in
    let added = c.in_ok-add-in-Some.ensures in (
      record { now = caught.now; datagram = datagram_of (Some c.in-Some.arrived) new.buffer },
      subst (λ (a : Option Arrived). Extends (g.L.Wire.told c.args.wire.now) (g.L.Wire.told new.self) (record { now = caught.now; datagram = datagram_of a new.buffer } ∷ [])) c.in-Some.is c.receive-caught.ensures.told,
      refl,
      (added.blocks, added.count, added.fits),
    )
