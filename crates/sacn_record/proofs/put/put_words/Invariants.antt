use Rattle.std.proofs.Common.{◌≡◌, ◌+◌, ◌*◌, ◌++◌, drop}
use Rattle.arrayvec.specs.ArrayVec.{array_vec_len}
use Rattle.sacn_record.specs.Writing.{words}
use Rattle.sacn_record.proofs.put.put_words.Given as goal

-- what is put, then what is left, is all
abbrev pub invariant-loop-number : goal.invariant-loop-number
invariant-loop-number g l =
    (l.out.items ++ words (drop l.number-index l.numbers) ≡ l.initial.out.items ++ words l.numbers) × (array_vec_len l.out ≡ array_vec_len l.initial.out + 4 * l.number-index)
