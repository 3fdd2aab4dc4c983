-- Packets of which none is before an earlier one are in turn as they are.
use Rattle.std.proofs.Common.{◌≡◌, ◌≤◌, ℕ, [], ◌∷◌, max, refl, arith}
use Rattle.sacn_audit.specs.Arrivals.{latest_moment}
use Rattle.sacn_audit.specs.Histories.{OrderIsKept}

latest : (t before : ℕ) → before ≤ t → max t before ≡ t
latest t before e = omega arith

pub order_is_kept : OrderIsKept
order_is_kept [] e = refl
order_is_kept (x ∷ earlier) e =
    let moment = latest x.moment (latest_moment earlier) e.0 in
    let rest = order_is_kept earlier e.1 in
    λ i. record x { moment = moment i } ∷ rest i
