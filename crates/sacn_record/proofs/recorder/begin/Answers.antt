use Rattle.std.proofs.Common.{◌∙◌}
use Rattle.sacn_record.proofs.Growing.{begun}
use Rattle.sacn_record.proofs.recorder.begin.Goals as goal

pub returns-clause-recording : goal.returns-clause-recording
returns-clause-recording g c =
    begun c.write_octets.result (g.W.Write.contents c.args.writer.now) (g.W.Write.contents c.write_octets.new.writer) c.as_slice.result.now c.args.program.now (c.as_slice.ensures.value ∙ c.put_beginning.ensures) c.write_octets.ensures.all
