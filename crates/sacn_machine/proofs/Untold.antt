-- What a device tells of which nothing was asked.
use Rattle.std.proofs.Common.{◌≡◌, List, [], ◌∷◌, ◌++◌, sym, ap, refl, Option, Some, None}
use Rattle.sacn_edge.specs.Additions.{Extends}

pub Extends-none : {X : Type 0} (a : Option (List X)) → Extends a a []
Extends-none None = tt
Extends-none (Some xs) = sym (append_nil xs)
  where
    append_nil : {X : Type 0} (xs : List X) → xs ++ [] ≡ xs
    append_nil [] = refl
    append_nil (x ∷ xs) = ap (λ t. x ∷ t) (append_nil xs)
