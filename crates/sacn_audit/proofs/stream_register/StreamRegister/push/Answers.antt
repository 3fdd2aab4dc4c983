use Rattle.std.proofs.Common.{ap, ◌∙◌, arith}
use Rattle.std.specs.List.{position}
use Rattle.sacn_audit.specs.Networks.{is_of}
use Rattle.sacn_audit.proofs.Finding.{stream_admitted}
use Rattle.sacn_audit.proofs.stream_register.StreamRegister.push.Goals as goal

pub invariant_of-self : goal.invariant_of-self
invariant_of-self c =
    let ss = c.self.inside.streams.items in (
      omega (arith, c.push_reserved.ensures.capacity, c.self.invariant.0),
      stream_admitted ss c.push_reserved.new.self.items c.args.stream c.self.invariant.1 (ap (position (is_of c.args.stream.universe c.args.stream.cid)) c.self.view_is ∙ c.requires.unknown) c.push_reserved.ensures.items,
    )
