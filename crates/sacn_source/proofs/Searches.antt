-- The first row that passes, and the rows that pass, from a place on.
use Rattle.std.proofs.Common.{◌≡◌, ℕ, ◌+◌, ◌<◌, ◌≤◌, true, false, List, [], ◌∷◌, ◌++◌, length, get_or, drop, suc, zero, refl, add-one, arith, append_assoc, append-nil, drop-cons, sym, ◌∙◌}
use Rattle.sacn_console.specs.Lines.{is_stopped}
use Rattle.sacn_source.specs.declared.source_universe.SourceUniverse.{SourceUniverse}
use Rattle.sacn_source.specs.Table.{standing}

pub standing_past : (xs : List SourceUniverse) (i : ℕ) (d : SourceUniverse) → i < length xs → is_stopped (get_or xs i d).line.state ≡ true → standing (drop (i + 1) xs) ≡ standing (drop i xs)
unfolding standing
standing_past xs i d lt e = rw (add-one, drop-cons xs i d lt, e) refl

pub standing_here : (xs : List SourceUniverse) (i : ℕ) (d : SourceUniverse) → i < length xs → is_stopped (get_or xs i d).line.state ≡ false → standing (drop i xs) ≡ (get_or xs i d).line.universe ∷ standing (drop (i + 1) xs)
unfolding standing
standing_here xs i d lt e = rw (add-one, drop-cons xs i d lt, e) refl

pub standing_end : (xs : List SourceUniverse) (i : ℕ) → length xs ≤ i → standing (drop i xs) ≡ []
unfolding standing
standing_end [] zero le = refl
standing_end [] (suc i) le = refl
standing_end (x ∷ xs) zero le = absurd (omega arith)
standing_end (x ∷ xs) (suc i) le = standing_end xs i (omega arith)

pub standing_more : (told more : List ℕ) (xs : List SourceUniverse) (i : ℕ) (d : SourceUniverse) → i < length xs → is_stopped (get_or xs i d).line.state ≡ false → told ++ standing (drop i xs) ≡ standing xs → more ≡ told ++ (get_or xs i d).line.universe ∷ [] → more ++ standing (drop (i + 1) xs) ≡ standing xs
standing_more told more xs i d lt e all is =
    let all2 = rw (standing_here xs i d lt e) at all in
    rw is (append_assoc told ((get_or xs i d).line.universe ∷ []) (standing (drop (i + 1) xs)) ∙ all2)

pub standing_all : (told : List ℕ) (xs : List SourceUniverse) (i : ℕ) → length xs ≤ i → told ++ standing (drop i xs) ≡ standing xs → told ≡ standing xs
standing_all told xs i le all = sym (append-nil told) ∙ (rw (standing_end xs i le) at all)
