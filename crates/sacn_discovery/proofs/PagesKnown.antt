-- Pages that are a list that is known, one behind the other.
use Rattle.std.proofs.Common.{◌≡◌, ℕ, ◌+◌, ◌<◌, ◌≤◌, Bool, true, List, ◌∷◌, ◌++◌, length, get_or, take, drop, nat_eq, Option, Some, sym, ap, ◌∙◌, arith, Vec, Global}
use Rattle.std.specs.Cmp.Lexicographic.{pointwise}
use Rattle.std.specs.List.Sorted.{IsStrictlyIncreasing}
use Rattle.std.specs.Option.{option_map}
use Rattle.std.proofs.lemmas.Bool.Decides.{Decides-eqb}
use Rattle.std.proofs.lemmas.List.{drop-drop, drop_all}
use Rattle.std.proofs.lemmas.Slice.Eq.{starts_is}
use Rattle.sacn_discovery.specs.Collection.{joined, ascending}
use Rattle.sacn_discovery.specs.SourceViews.{pages_of}
use Rattle.sacn_discovery.proofs.Ascending.{risen}
use Rattle.sacn_discovery.proofs.Loops.{Pages, drop_first}

-- the pages from i on are the known list from a place on: so are those behind i, from the end of page i on
pub part_more : (pages : Pages) (i : ℕ) (known : List ℕ) (at : ℕ) (more : Vec ℕ Global) (d : Option (Vec ℕ Global)) (r : Bool) (all : Option (List ℕ)) → i < length pages → get_or pages i d ≡ Some more → r ≡ pointwise nat_eq more.items (take (length more.items) (drop at known)) → r ≡ true → (joined (pages_of (drop i pages)) ≡ Some (drop at known) → all ≡ Some known)
    → joined (pages_of (drop (i + 1) pages)) ≡ Some (drop (at + length more.items) known) → all ≡ Some known
part_more pages i known at more d r all lt here starts is so_far rest =
    let first : drop i pages ≡ Some more ∷ drop (i + 1) pages = drop_first pages i d lt ∙ ap (λ p. p ∷ drop (i + 1) pages) here in
    let parts : drop at known ≡ more.items ++ drop (length more.items) (drop at known) = (starts_is Decides-eqb (drop at known) more.items r starts).0 is in
    so_far (ap (λ l. joined (pages_of l)) first
    ∙ ap (λ (o : Option (List ℕ)). option_map (λ xs. more.items ++ xs) o) rest
    ∙ ap (λ (l : List ℕ). Some (more.items ++ l)) (sym (drop-drop (length more.items) at known))
    ∙ ap (λ (l : List ℕ). Some l) (sym parts))

pub all_parts : (pages : Pages) (i : ℕ) (known : List ℕ) (at : ℕ) (all : Option (List ℕ)) → length pages ≤ i → at ≡ length known → (joined (pages_of (drop i pages)) ≡ Some (drop at known) → all ≡ Some known) → all ≡ Some known
all_parts pages i known at all le end so_far = so_far (ap (λ l. joined (pages_of l)) (drop_all i pages le) ∙ ap (λ (l : List ℕ). Some l) (sym (drop_all at known (omega (arith, end)))))

-- pages that are a rising list have that list
pub known_rises : (pages : List (Option (List ℕ))) (known : List ℕ) → joined pages ≡ Some known → IsStrictlyIncreasing known → option_map ascending (joined pages) ≡ Some known
known_rises pages known is rising = ap (λ (o : Option (List ℕ)). option_map ascending o) is ∙ ap (λ (l : List ℕ). Some l) (sym (risen known rising))
