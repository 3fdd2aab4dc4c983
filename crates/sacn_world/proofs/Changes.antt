-- What a change leaves: of the holdings of a node that of each universe, and of a list each element.
use Rattle.std.proofs.Common.{◌≡◌, ℕ, zero, suc, Bool, true, false, cond, List, [], ◌∷◌, Some, refl, sym, ap, ◌∙◌, arith}
use Rattle.std.specs.Prelude.{find, slice_get, slice_set, option_map, ◌==◌, if◌then◌else◌}
use Rattle.std.proofs.lemmas.Bool.{eqb-true, ne_eqb}
use Rattle.std.proofs.lemmas.Option.{same_Some, none-some as none_some}
use Rattle.sacn_world.proofs.Lists.{find-map}
use Rattle.sacn_world.specs.Holdings.{Hold, unexpired}
use Rattle.sacn_world.specs.Nodes.{Holding, unexpired_all, change}

abbrev pub on : ℕ → Holding → Bool
on u g = g.universe == u

-- ---- the holding of a universe, after expiry and after a change

pub find_kept : (u t : ℕ) (gs : List Holding) → find (on u) (unexpired_all t gs) ≡ option_map (λ (g : Holding). record { universe = g.universe; held = unexpired t g.held }) (find (on u) gs)
find_kept u t gs = find-map (λ (g : Holding). record { universe = g.universe; held = unexpired t g.held }) (on u) (on u) (λ x. refl) gs

pub find_change : (u : ℕ) (f : List Hold → List Hold) (gs : List Holding) → find (on u) (change u f gs) ≡ option_map (λ (g : Holding). record { universe = g.universe; held = f g.held }) (find (on u) gs)
find_change u f [] = refl
find_change u f (g ∷ gs) =
    elim (g.universe == u) as (λ b. (g.universe == u) ≡ b → find (on u) (if b then record { universe = g.universe; held = f g.held } ∷ gs else g ∷ change u f gs) ≡ option_map (λ (h : Holding). record { universe = h.universe; held = f h.held }) (cond b (Some g) (find (on u) gs))) [
      | true ↦ λ e. ap (λ b. cond b (Some (record { universe = g.universe; held = f g.held })) (find (on u) gs)) e
      | false ↦ λ e. ap (λ b. cond b (Some g) (find (on u) (change u f gs))) e ∙ find_change u f gs
    ] refl

pub find_change_other : (u v : ℕ) (f : List Hold → List Hold) (gs : List Holding) → (v ≡ u → ⊥) → find (on u) (change v f gs) ≡ find (on u) gs
find_change_other u v f [] ne = refl
find_change_other u v f (g ∷ gs) ne =
    elim (g.universe == v) as (λ b. (g.universe == v) ≡ b → find (on u) (if b then record { universe = g.universe; held = f g.held } ∷ gs else g ∷ change v f gs) ≡ cond (g.universe == u) (Some g) (find (on u) gs)) [
      | true ↦ λ e.
          let no : (g.universe == u) ≡ false = ne_eqb _ _ (λ e'. ne (sym (eqb-true _ _ e) ∙ e')) in
          ap (λ b. cond b (Some (record { universe = g.universe; held = f g.held })) (find (on u) gs)) no ∙ sym (ap (λ b. cond b (Some g) (find (on u) gs)) no)
      | false ↦ λ e. ap (λ o. cond (g.universe == u) (Some g) o) (find_change_other u v f gs ne)
    ] refl

-- ---- a list of which one place was written

pub set_same : {X : Type 0} (xs : List X) (i : ℕ) (y n : X) → slice_get (slice_set xs i y) i ≡ Some n → y ≡ n
set_same [] i y n e = cc
set_same (x ∷ xs) zero y n e = same_Some y n e
set_same (x ∷ xs) (suc i) y n e = set_same xs i y n e

pub set_other : {X : Type 0} (xs : List X) (i j : ℕ) (y : X) → (j ≡ i → ⊥) → slice_get (slice_set xs j y) i ≡ slice_get xs i
set_other [] i j y ne = refl
set_other (x ∷ xs) zero zero y ne = absurd (ne refl)
set_other (x ∷ xs) zero (suc j) y ne = refl
set_other (x ∷ xs) (suc i) zero y ne = refl
set_other (x ∷ xs) (suc i) (suc j) y ne = set_other xs i j y (λ e. ne (ap suc e))

pub set_there : {X : Type 0} (xs : List X) (i : ℕ) (x y : X) → slice_get xs i ≡ Some x → slice_get (slice_set xs i y) i ≡ Some y
set_there [] i x y e = absurd (none_some x e)
set_there (z ∷ zs) zero x y e = refl
set_there (z ∷ zs) (suc i) x y e = set_there zs i x y e
