-- Powers are positive.
use Rattle.std.proofs.Common.{ℕ, ◌<◌, ◌^◌, Option, None, Some, arith}
use Rattle.std.specs.Prelude.{IfSome, SomeIff}
use Rattle.std.proofs.Math.Nat.{one-le-pow}

pub some_power : (r : Option ℕ) (base exponent : ℕ) → 0 < base → SomeIff r (base ^ exponent < 2 ^ 64) (base ^ exponent) → IfSome r (λ p. 0 < p)
some_power None base exponent h f = tt
some_power (Some x) base exponent h f = omega (arith, f.1, one-le-pow exponent base h)
