use Rattle.std.proofs.Common.{◌≡◌, ◌+◌, ◌*◌, ◌++◌, drop}
use Rattle.arrayvec.specs.ArrayVec.{array_vec_len}
use Rattle.sacn_record.specs.Writing.{shorts}
use Rattle.sacn_record.proofs.put.put_shorts.Given as goal

-- what is put, then what is left, is all
abbrev pub invariant-loop-number : goal.invariant-loop-number
invariant-loop-number g l =
    (l.out.items ++ shorts (drop l.number-index l.numbers) ≡ l.initial.out.items ++ shorts l.numbers) × (array_vec_len l.out ≡ array_vec_len l.initial.out + 2 * l.number-index)
