use Rattle.std.proofs.Common.{ap, ◌∙◌, arith}
use Rattle.std.specs.List.{position}
use Rattle.sacn_audit.specs.Networks.{is_from}
use Rattle.sacn_audit.proofs.Finding.{source_admitted}
use Rattle.sacn_audit.proofs.source_register.SourceRegister.push.Goals as goal

pub invariant_of-self : goal.invariant_of-self
invariant_of-self c =
    let ss = c.self.inside.sources.items in (
      omega (arith, c.push_reserved.ensures.capacity, c.self.invariant.0),
      source_admitted ss c.push_reserved.new.self.items c.args.source c.self.invariant.1 (ap (position (is_from c.args.source.cid)) c.self.view_is ∙ c.requires.unknown) c.push_reserved.ensures.items,
    )
