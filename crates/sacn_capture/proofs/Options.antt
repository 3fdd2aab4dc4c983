-- The first answer among options, one option on.
use Rattle.std.proofs.Common.{◌≡◌, ℕ, ◌<◌, zero, suc, List, drop, Option, None, Some, Result, sym, ◌∙◌, ap, arith}
use Rattle.sacn_capture.specs.declared.faults.FaultKind.{FaultKind}
use Rattle.std.specs.Prelude.{unwrap_or}
use Rattle.sacn_capture.specs.declared.octets.ByteOrder.{ByteOrder}
use Rattle.sacn_capture.specs.Pcapng.{option_answer, option_size, value_among}

pub answered : (n code : ℕ) (order : ByteOrder) (options : List ℕ) (found whole : Result (Option (List ℕ)) FaultKind) → 0 < n → option_answer code order options ≡ Some found
    → value_among n code order options ≡ whole → found ≡ whole
answered zero code order options found whole some e h = absurd (omega arith)
answered (suc n) code order options found whole some e h =
    sym (ap (λ (a : Option (Result (Option (List ℕ)) FaultKind)). unwrap_or a (value_among n code order (drop (option_size order options) options))) e) ∙ h

pub asked_on : (n m code : ℕ) (order : ByteOrder) (options : List ℕ) (whole : Result (Option (List ℕ)) FaultKind) → n ≡ suc m → option_answer code order options ≡ None
    → value_among n code order options ≡ whole → value_among m code order (drop (option_size order options) options) ≡ whole
asked_on n m code order options whole next e h =
    sym (ap (λ (a : Option (Result (Option (List ℕ)) FaultKind)). unwrap_or a (value_among m code order (drop (option_size order options) options))) e)
    ∙ (sym (ap (λ (k : ℕ). value_among k code order options) next) ∙ h)
