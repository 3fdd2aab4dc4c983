-- The front of a vector that was lent as a slice.
use Rattle.std.proofs.Common.{◌≡◌, ℕ, List, ◌++◌, length, take, drop, ap}
use Rattle.std.proofs.lemmas.List.{take_at}

pub front_again : (lent items : List ℕ) (n len : ℕ) → length lent ≡ n → take len (take n (lent ++ drop (length lent) items)) ≡ take len lent
front_again lent items n len e = ap (λ (xs : List ℕ). take len xs) (take_at lent (drop (length lent) items) n e)
