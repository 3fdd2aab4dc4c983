use Rattle.std.proofs.Common.{rules}
use Rattle.sacn_text.proofs.ReadLemmas.{whole}
use Rattle.sacn_text.proofs.input.read_limited.Goals as goal

pub returns-in-Ok-clause-whole : goal.returns-in-Ok-clause-whole
returns-in-Ok-clause-whole g c =
    whole (g.R.Read.remaining c.args.reader) c.args.limit c.read_to_end.new.buf.items (search rules)
    (rw (c.new-octets.ensures.items, c.take-reader.ensures.inner, c.take-reader.ensures.limit) at c.in-Ok.ensures.bytes)
