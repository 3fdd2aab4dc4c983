use Rattle.std.proofs.Common.{◌==◌, ℕ, ap, ◌∙◌}
use Rattle.sacn_c.proofs.faults.put_faults.Goals as goal

-- the lines' octets are counted
pub returns-in-Ok-clause-faults : goal.returns-in-Ok-clause-faults
returns-in-Ok-clause-faults c = λ lacks short text.
    ap (λ (n : ℕ). n == 0) (c.put_list.ensures.count ∙ c.as_bytes.ensures.len) ∙ c.in-Ok.ensures.text text
