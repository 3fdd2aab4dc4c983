-- Whether a live row is lost, in a scan from the last row on.
use Rattle.std.proofs.Common.{◌≡◌, ℕ, ◌+◌, ◌<◌, Bool, true, false, not, ◌&&◌, ◌||◌, List, length, drop, get_or, is_some, refl, sym, ap, ◌∙◌}
use Rattle.std.proofs.lemmas.List.{drop_more}
use Rattle.sacn_sources.specs.Rows.{Row, row_renewed}
use Rattle.sacn_sources.specs.LatestMerge.{loses_live}
use Rattle.sacn_sources.proofs.Sweeps.{swept, get_or-swept}

swapped : (a b : Bool) → (a || b) ≡ (b || a)
swapped true true = refl
swapped true false = refl
swapped false true = refl
swapped false false = refl

module _ (t : ℕ) (rs now : List Row) (i : ℕ) (within : i < length rs) (is : now ≡ swept (row_renewed t) rs (i + 1)) (d : Row) where
  there : get_or now i d ≡ get_or rs i d
  there = ap (λ l. get_or l i d) is ∙ get_or-swept (row_renewed t) rs i d within

  loses_more : loses_live t (drop i rs) ≡ ((not (row_renewed t (get_or now i d)) && is_some (get_or now i d).shown) || loses_live t (drop (i + 1) rs))
  loses_more = ap (loses_live t) (drop_more rs i d within) ∙ ap (λ r. (not (row_renewed t r) && is_some r.shown) || loses_live t (drop (i + 1) rs)) (sym there)

  module _ (live : Bool) (so_far : live ≡ loses_live t (drop (i + 1) rs)) where
    pub loses_dropped : (dropped : Bool) → true ≡ not (row_renewed t (get_or now i d)) → dropped ≡ is_some (get_or now i d).shown → (live || dropped) ≡ loses_live t (drop i rs)
    loses_dropped dropped lost shown =
        swapped live dropped
        ∙ ap (λ b. b || live) shown
        ∙ ap (λ b. (b && is_some (get_or now i d).shown) || live) lost
        ∙ ap (λ b. (not (row_renewed t (get_or now i d)) && is_some (get_or now i d).shown) || b) so_far
        ∙ sym loses_more

    pub loses_kept : false ≡ not (row_renewed t (get_or now i d)) → live ≡ loses_live t (drop i rs)
    loses_kept stays = so_far ∙ ap (λ b. (b && is_some (get_or now i d).shown) || loses_live t (drop (i + 1) rs)) stays ∙ sym loses_more
