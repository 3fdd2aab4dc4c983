use Rattle.std.proofs.Common.{sym, ap, ◌∙◌, arith}
use Rattle.std.specs.List.{position}
use Rattle.sacn_audit.specs.Networks.{is_of}
use Rattle.sacn_audit.proofs.Finding.{stream_found}
use Rattle.sacn_audit.proofs.stream_register.StreamRegister.place_of.Goals as goal

pub returns-then-is_of : goal.returns-then-is_of
returns-then-is_of c =
    let ss = c.self.inside.streams.items in
    sym (stream_found c.args.universe c.args.cid.now c.guess-place.result c.index.result.now ss c.self.invariant.1 (omega (arith, c.if-place-len.true, c.len.ensures)) c.index.ensures (sym c.is_of.ensures ∙ c.if-is_of.true))
    ∙ ap (position (is_of c.args.universe c.args.cid.now)) c.self.view_is
