use Rattle.std.proofs.Common.{◌∙◌}
use Rattle.sacn_record.specs.Recordings.{taken_of}
use Rattle.sacn_record.proofs.Growing.{records_put}
use Rattle.sacn_record.proofs.recorder.record.Goals as goal

pub returns-clause-recording : goal.returns-clause-recording
returns-clause-recording g c =
    records_put c.write_octets.result (g.W.Write.contents c.args.writer.now) (g.W.Write.contents c.write_octets.new.writer) c.as_slice.result.now (taken_of c.args.heard.now) (c.as_slice.ensures.value ∙ c.put_datagram.ensures.block) c.write_octets.ensures.all c.write_octets.ensures.front

pub returns-clause-fits : goal.returns-clause-fits
returns-clause-fits g c = c.put_datagram.ensures.fits
