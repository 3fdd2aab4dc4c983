-- Marks of the streams that came to a node.
use Rattle.std.proofs.Common.{◌≡◌, ℕ, zero, suc, Bool, true, List, [], ◌∷◌, ◌++◌, take, drop, Some, sym, ap, ◌∙◌}
use Rattle.std.specs.Prelude.{slice_get, slice_set, if◌then◌else◌}
use Rattle.std.proofs.lemmas.Option.{same_Some}
use Rattle.sacn_world.specs.Watches.{Mark, is_mark_of, mark_after, marked}

-- the mark that is found is written
pub noted_here : (b : Bool) (d : Mark) (ms : List Mark) (i : ℕ) (m : Mark) → slice_get ms i ≡ Some m → is_mark_of d.source d.universe m ≡ true → slice_set ms i (mark_after b d m) ≡ take i ms ++ marked b d (drop i ms)
noted_here b d [] i m e is = absurd (cc)
noted_here b d (x ∷ ms) zero m e is =
    let same' : x ≡ m = same_Some x m e in
    sym (ap (λ t. if t then mark_after b d x ∷ ms else x ∷ marked b d ms) (ap (is_mark_of d.source d.universe) same' ∙ is) ∙ ap (λ (y : Mark). mark_after b d y ∷ ms) same')
noted_here b d (x ∷ ms) (suc i) m e is = ap (λ (xs : List Mark). x ∷ xs) (noted_here b d ms i m e is)
