use Rattle.std.proofs.Common.{sym, arith}
use Rattle.sacn_packets.proofs.SourceNames.{name_back}
use Rattle.sacn_packets.proofs.framing.names.source_name.Goals as goal

pub returns-clause-back : goal.returns-clause-back
returns-clause-back c = rw (c.padded.ensures, ← c.as_bytes-octets.ensures.value) (name_back _ (omega arith) (sym c.if-has_nul.ensures))
