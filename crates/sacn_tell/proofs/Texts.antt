-- A text that is pushed piece by piece.
use Rattle.std.proofs.Common.{◌≡◌, ℕ, List, ◌++◌, Result, Ok, Err, OnOk, ap, ◌∙◌, append_assoc}

-- a piece, and then another
pub two_pieces : {T E : Type 0} (r : Result T E) (a b c p q : List ℕ) → b ≡ a ++ p → OnOk r (c ≡ b ++ q) → OnOk r (c ≡ a ++ (p ++ q))
two_pieces (Err fault) a b c p q first next = tt
two_pieces (Ok x) a b c p q first next = next ∙ ap (λ (t : List ℕ). t ++ q) first ∙ append_assoc a p q
