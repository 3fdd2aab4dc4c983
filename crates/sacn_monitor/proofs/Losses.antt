-- The next loss is a moment that 64 bits hold, and no stream falls silent before it.
use Rattle.std.proofs.Common.{◌≡◌, ◌<◌, ◌≤◌, ◌+◌, ◌-◌, ◌^◌, ℕ, zero, suc, Bool, true, false, not, ◌||◌, ◌&&◌, cond, List, [], ◌∷◌, ◌++◌, length, set, Some, None, min, nat_lt, refl, ap, ◌∙◌, arith}
use Rattle.std.specs.List.{position_or_len}
use Rattle.std.proofs.lemmas.Bool.{lt-ltb, le-ltb}
use Rattle.sacn_sources.specs.declared.limits.TheConstants.{NETWORK_DATA_LOSS}
use Rattle.sacn_monitor.specs.declared.stream.Stream.{Stream}
use Rattle.sacn_monitor.specs.Streams.{loss_of, falls_silent}
use Rattle.sacn_monitor.specs.Books.{next_loss, silent_place, with_told}

pub loss_most : (ss : List Stream) → next_loss ss ≤ 2 ^ 64 - 1
loss_most [] = omega arith
loss_most (s ∷ ss) = omega (arith, loss_most ss)

-- ---- no stream falls silent before the next loss

spared : (over : Bool) (t latest : ℕ) → t < cond over (2 ^ 64 - 1) (min (latest + NETWORK_DATA_LOSS) (2 ^ 64 - 1)) → not over && not (nat_lt (t - latest) NETWORK_DATA_LOSS) ≡ false
spared true t latest before = refl
spared false t latest before = ap not (lt-ltb (t - latest) NETWORK_DATA_LOSS (omega (arith, before)))

all_spared : (t : ℕ) (ss : List Stream) → t < next_loss ss → position_or_len (falls_silent t) ss ≡ length ss
all_spared t [] before = refl
all_spared t (s ∷ ss) before =
    let rest : 1 + position_or_len (falls_silent t) ss ≡ length (s ∷ ss) = omega (arith, all_spared t ss (omega (arith, before))) in
    ap (λ (b : Bool). cond (not b) (1 + position_or_len (falls_silent t) ss) 0) (spared (s.told || s.account.ended) t s.account.latest (omega (arith, before))) ∙ rest

pub silent_later : (t : ℕ) (ss : List Stream) → t < next_loss ss → silent_place t ss ≡ None
silent_later t ss before =
    ap (λ (n : ℕ). cond (nat_lt n (length ss)) (Some n) None) (all_spared t ss before)
    ∙ ap (λ (b : Bool). cond b (Some (length ss)) None) (le-ltb (length ss) (length ss) (omega arith))

-- ---- a moment that no loss comes before, through what changes a register

pub quiet_changed : (quiet at : ℕ) (y : Stream) (ss : List Stream) → quiet ≤ next_loss ss → min quiet (loss_of y) ≤ next_loss (set ss at y)
quiet_changed quiet at y [] e = omega (arith, e)
quiet_changed quiet zero y (s ∷ ss) e = omega (arith, e)
quiet_changed quiet (suc at) y (s ∷ ss) e = omega (arith, e, quiet_changed quiet at y ss (omega (arith, e)))

pub quiet_more : (quiet : ℕ) (y : Stream) (ss : List Stream) → quiet ≤ next_loss ss → min quiet (loss_of y) ≤ next_loss (ss ++ y ∷ [])
quiet_more quiet y [] e = omega (arith, e)
quiet_more quiet y (s ∷ ss) e = omega (arith, e, quiet_more quiet y ss (omega (arith, e)))

pub quiet_told : (quiet at : ℕ) (s : Stream) (ss : List Stream) → quiet ≤ next_loss ss → quiet ≤ next_loss (set ss at (with_told s))
quiet_told quiet at s ss e = omega (arith, e, loss_most ss, quiet_changed quiet at (with_told s) ss e)
