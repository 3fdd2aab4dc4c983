-- A line's pieces before and behind a place.
use Rattle.std.proofs.Common.{Bor, ◌≡◌, ◌∙◌, ap, ap₂, sym, ℕ, ◌-◌, ◌≤◌, List, map, length, take, drop, arith, length-drop, take_all}
use Rattle.std.specs.List.{position_or_len}
use Rattle.std.proofs.lemmas.List.{drop-map, take-map}
use Rattle.sacn_orders.specs.Orders.{is_at, levels_in, levels_said}

rest_is_all : (ws : List (Bor (List ℕ))) (at : ℕ) → take (length ws - at) (drop at ws) ≡ drop at ws
rest_is_all ws at =
    let le : length (drop at ws) ≤ length ws - at = omega (arith, length-drop at ws) in
    take_all (length ws - at) (drop at ws) le

pub parted : (ws : List (Bor (List ℕ))) (at : ℕ) → at ≡ position_or_len is_at (map (λ w. w.now) ws)
    → levels_said (map (λ w. w.now) (take at ws)) (map (λ w. w.now) (take (length ws - at) (drop at ws))) ≡ levels_in (map (λ w. w.now) ws)
parted ws at e =
    ap (λ (xs : List (Bor (List ℕ))). levels_said (map (λ (w : Bor (List ℕ)). w.now) (take at ws)) (map (λ (w : Bor (List ℕ)). w.now) xs)) (rest_is_all ws at)
    ∙ ap₂ levels_said (sym (take-map (λ (w : Bor (List ℕ)). w.now) at ws)) (sym (drop-map (λ (w : Bor (List ℕ)). w.now) at ws))
    ∙ ap (λ n. levels_said (take n (map (λ (w : Bor (List ℕ)). w.now) ws)) (drop n (map (λ (w : Bor (List ℕ)). w.now) ws))) e
