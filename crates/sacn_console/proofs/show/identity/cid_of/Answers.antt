use Rattle.std.proofs.Common.{◌≡◌, Option, Some, None, List, ℕ, refl}
use Rattle.uuid.specs.Text.{parsed}
use Rattle.sacn_console.proofs.show.identity.cid_of.Goals as goal

none_of : (o : Option (List ℕ)) → ¬ ((u : List ℕ) × (o ≡ Some u)) → None ≡ o
none_of None h = refl
none_of (Some u) h = absurd (h (u, refl))

pub returns-in-Err : goal.returns-in-Err
returns-in-Err c = rw (← c.in_ok-text.ensures) (none_of (parsed c.in_ok-text.text.now) (λ p. let bad = c.in-Err.ensures.ok.1 p in cc))
