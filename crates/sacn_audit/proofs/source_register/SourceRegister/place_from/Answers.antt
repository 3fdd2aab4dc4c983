use Rattle.std.proofs.Common.{sym, ap, ◌∙◌, arith}
use Rattle.std.specs.List.{position}
use Rattle.sacn_audit.specs.Networks.{is_from}
use Rattle.sacn_audit.proofs.Finding.{source_found}
use Rattle.sacn_audit.proofs.source_register.SourceRegister.place_from.Goals as goal

pub returns-then-is_from : goal.returns-then-is_from
returns-then-is_from c =
    let ss = c.self.inside.sources.items in
    sym (source_found c.args.cid.now c.guess-place.result c.index.result.now ss c.self.invariant.1 (omega (arith, c.if-place-len.true, c.len.ensures)) c.index.ensures (sym c.is_from.ensures ∙ c.if-is_from.true))
    ∙ ap (position (is_from c.args.cid.now)) c.self.view_is
