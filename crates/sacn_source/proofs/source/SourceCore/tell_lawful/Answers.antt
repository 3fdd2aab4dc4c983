use Rattle.std.proofs.Common.{subst, ◌<◌, ◌^◌}
use Rattle.std.specs.List.{AllByRecursion}
use Rattle.sacn_source.proofs.Lawful.{lawful}
use Rattle.sacn_source.proofs.source.SourceCore.tell_lawful.Goals as goal

pub returns : goal.returns
returns c =
    lawful _ c.args.self.now c.args.now c.self.view_is c.tell_ranges.ensures.cid c.tell_ranges.ensures.name c.tell.ensures (subst (AllByRecursion (λ n. n < 2 ^ 16)) c.as_slice.ensures.value c.tell_ranges.ensures.listed)
