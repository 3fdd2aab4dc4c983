-- What a sink over a writer shows.
use Rattle.std.specs.Prelude.{Bool}
use Rattle.sacn_edge.specs.declared.writer.WriterOut.{WriterOut}

-- its writer failed
abbrev pub has_failed : {W : Type 0} → WriterOut W → Bool
has_failed out = out.failed
