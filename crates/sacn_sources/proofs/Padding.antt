-- Levels that were given, with zeros after them.
use Rattle.std.proofs.Common.{◌≡◌, ℕ, ◌+◌, ◌≤◌, ◌-◌, List, length, ◌++◌, drop, replicate, get_or, refl, arith, inl, inr, ◌∙◌, length-append, length-drop}
use Rattle.std.proofs.lemmas.List.{get_or-append_right, get_or_past, get_or-drop}
use Rattle.std.proofs.lemmas.Simd.{get_or-replicate, length-replicate}
use Rattle.std.proofs.lemmas.Bool.{cases_lt}
use Rattle.sacn_sources.specs.LevelStorage.{IsPadded}

abbrev zeros : ℕ → List ℕ
zeros n = replicate n 0

zeros_past : (n k : ℕ) → get_or (zeros n) k 0 ≡ 0
zeros_past n k = elim (cases_lt k n) [
  | inl below ↦ get_or-replicate n k 0 0 below
  | inr past ↦ get_or_past (zeros n) k 0 (omega (arith, length-replicate {A = ℕ} n 0))
]

padded_to : (n : ℕ) (given : List ℕ) → length given ≤ n → length (given ++ drop (length given) (zeros n)) ≡ n
padded_to n given le = omega (arith, length-append given (drop (length given) (zeros n)), length-drop (length given) (zeros n), length-replicate {A = ℕ} n 0)

zeros_after : (n : ℕ) (given : List ℕ) (k : ℕ) → length given ≤ k → get_or (given ++ drop (length given) (zeros n)) k 0 ≡ 0
zeros_after n given k past =
    get_or-append_right given (drop (length given) (zeros n)) (length given) k 0 refl past
    ∙ get_or-drop (length given) (zeros n) (k - length given) 0
    ∙ zeros_past n (length given + (k - length given))

pub padded : (given new : List ℕ) → new ≡ given → length given ≤ 512 → IsPadded (new ++ drop (length given) (zeros 512)) (length given)
padded given new same le = rw same (record { whole = padded_to 512 given le; within = le; rest = zeros_after 512 given })
