-- Octets that are left out piece by piece.
use Rattle.std.proofs.Common.{◌≡◌, ℕ, ◌+◌, List, ◌++◌, length, Option, None, Some, sym, ap, ◌∙◌, append_assoc, length-append, arith}
use Rattle.std.specs.Prelude.{OnOk, Result, Ok, Err}
use Rattle.std.specs.Io.KnownBytes.{Consumes}
use Rattle.sacn_capture.specs.declared.faults.FaultKind.{FaultKind}
use Rattle.sacn_capture.specs.Inputs.{LeavesOut}

pub left_out_more : (a b c : Option (List ℕ)) (n m k : ℕ) → LeavesOut a b n → LeavesOut b c m → k ≡ n + m → LeavesOut a c k
left_out_more None b c n m k h e l = (h.0 ++ e.0, h.1, omega (arith, length-append h.0 e.0, h.2, e.2, l))
left_out_more (Some xs) None c n m k h e l = absurd h.1
left_out_more (Some xs) (Some ys) None n m k h e l = absurd e.1
left_out_more (Some xs) (Some ys) (Some zs) n m k h e l =
    (h.0 ++ e.0, h.1 ∙ (ap (λ (rest : List ℕ). h.0 ++ rest) e.1 ∙ sym (append_assoc h.0 e.0 zs)), omega (arith, length-append h.0 e.0, h.2, e.2, l))

-- what was read is left out
pub left_out : {T : Type 0} (a b : Option (List ℕ)) (count : ℕ) (r : Result T FaultKind) (piece : List ℕ) → OnOk r (Consumes a b piece) → length piece ≡ count → OnOk r (LeavesOut a b count)
left_out a b count (Ok x) piece h l = (piece, h, l)
left_out a b count (Err fault) piece h l = tt
