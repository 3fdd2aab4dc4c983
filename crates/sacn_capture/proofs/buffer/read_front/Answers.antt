use Rattle.std.proofs.Common.{List, ℕ, subst, sym, arith}
use Rattle.std.specs.Prelude.{OnOk}
use Rattle.std.specs.Io.KnownBytes.{Consumes}
use Rattle.sacn_capture.proofs.Fronts.{front_again}
use Rattle.sacn_capture.proofs.buffer.read_front.Goals as goal

pub returns-clause-octets : goal.returns-clause-octets
returns-clause-octets g c =
    subst (λ (xs : List ℕ). OnOk c.fill_front.result (Consumes (g.R.Read.remaining c.args.input.now.reader) (g.R.Read.remaining c.fill_front.new.self.reader) xs))
    (sym (front_again c.fill_front.new.buffer c.args.buffer.now.items c.args.buffer.now.len c.args.len (omega (arith, c.fill_front.ensures.len, c.deref_mut.ensures.len))))
    c.fill_front.ensures.octets
