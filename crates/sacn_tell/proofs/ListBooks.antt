-- Lists that are kept in the place of others.
use Rattle.std.proofs.Common.{◌≡◌, ◌<◌, ℕ, List, Option, None, Some, Result, Ok, Err, OnOk, length, get_or, map, set, slice_get, slice_set, refl, sym, ap, ◌∙◌}
use Rattle.std.proofs.lemmas.List.{map-set}
use Rattle.std.proofs.lemmas.Option.{slice_get-map, slice_get_read}
use Rattle.std.specs.Option.{option_and_then, option_map}
use Rattle.sacn_tell.specs.declared.listings.Listing.{Listing}
use Rattle.sacn_tell.specs.Lines.{KeptList, kept_list}
use Rattle.sacn_tell.specs.ListBooks.{put_list, with_list}

-- one that is read at a place stands there
kept_there : (ls : List Listing) (place : ℕ) (l : Listing) → place < length ls → l ≡ get_or ls place l → slice_get (map kept_list ls) place ≡ Some (kept_list l)
kept_there ls place l within read = slice_get-map kept_list ls place ∙ ap (option_map kept_list) (slice_get_read ls (length ls) place l refl within read)

put_there : {T E : Type 0} (r : Result T E) (ls : List Listing) (place : ℕ) (new : Listing) (kept : KeptList) → OnOk r (kept_list new ≡ kept)
    → OnOk r (map kept_list (slice_set ls place new) ≡ slice_set (map kept_list ls) place kept)
put_there (Err fault) ls place new kept is = tt
put_there (Ok x) ls place new kept is = map-set kept_list ls place new ∙ ap (λ (k : KeptList). set (map kept_list ls) place k) is

-- and another one is put there
pub list_put : {T E : Type 0} (r : Result T E) (name universes : List ℕ) (ls : List Listing) (place : ℕ) (old new : Listing) → place < length ls → old ≡ get_or ls place old
    → OnOk r (kept_list new ≡ with_list name universes (kept_list (get_or ls place old)))
    → OnOk r (map kept_list (slice_set ls place new) ≡ put_list name universes place (map kept_list ls) (slice_get (map kept_list ls) place))
list_put r name universes ls place old new within read is = rw (kept_there ls place old within read ∙ ap (λ (l : Listing). Some (kept_list l)) read) (put_there r ls place new (with_list name universes (kept_list (get_or ls place old))) is)

-- the list at a place, as it is kept
pub list_found : (ls : List Listing) (place : Option ℕ) → option_map kept_list (option_and_then (λ (i : ℕ). slice_get ls i) place) ≡ option_and_then (λ (i : ℕ). slice_get (map kept_list ls) i) place
list_found ls None = refl
list_found ls (Some i) = sym (slice_get-map kept_list ls i)
