use Rattle.std.proofs.Common.{◌++◌, take}
use Rattle.std.proofs.KnownBytes.{Appends-trans}
use Rattle.sacn_record.proofs.Written.{moved}
use Rattle.sacn_record.proofs.recorder.write_octets.Goals as goal

pub loop-preserved : goal.loop-preserved
loop-preserved g c =
    let (done, split, appended) = c.loop.invariant in
    let rest = c.loop.rest.now in
    let n = c.in-Ok.n in
    (done ++ take n rest, moved c.args.octets.now done rest n split, Appends-trans _ _ _ _ _ appended c.in-Ok.ensures.bytes)
