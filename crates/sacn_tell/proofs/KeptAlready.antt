-- A list that is kept already changes nothing, so it may be left out.
use Rattle.std.proofs.Common.{◌≡◌, ℕ, Bool, true, false, cond, List, Option, None, Some, slice_get, slice_set, refl, sym, ap, ◌∙◌}
use Rattle.std.specs.Bool.{one_answer}
use Rattle.std.specs.Option.{option_and_then}
use Rattle.std.specs.Str.{bytes_eq}
use Rattle.std.proofs.lemmas.List.{set-get_or}
use Rattle.std.proofs.lemmas.Option.{get_or_from_slice_get}
use Rattle.std.proofs.lemmas.Slice.Eq.{bytes_eq-Decides}
use Rattle.sacn_discovery.specs.Collection.{State, known_list}
use Rattle.sacn_tell.specs.Lines.{KeptList}
use Rattle.sacn_tell.specs.Lists.{beside}
use Rattle.sacn_tell.specs.ListBooks.{ListBook, after_list, kept_at, is_list, list_at, place_of, put_list, with_list, with_lists, with_pages}

pub either_way : (a b : List ℕ) → bytes_eq a b ≡ bytes_eq b a
either_way a b = one_answer (bytes_eq a b) (bytes_eq b a) (bytes_eq-Decides a b) ((λ is. sym ((bytes_eq-Decides b a).0 is)), (λ same. (bytes_eq-Decides b a).1 (sym same)))

abbrev pub kept_of : Option KeptList → Option (List ℕ)
kept_of q = option_and_then (λ l. l.universes) q

pub nothing_beside : (kept : Option (List ℕ)) → beside kept None ≡ None
nothing_beside None = refl
nothing_beside (Some k) = refl

put_back : {X : Type 0} (xs : List X) (i : ℕ) (x : X) → slice_get xs i ≡ Some x → slice_set xs i x ≡ xs
put_back xs i x is = ap (λ y. slice_set xs i y) (sym (get_or_from_slice_get xs i x x is)) ∙ set-get_or xs i x

abbrev pub changed : List ℕ → Option ℕ → ListBook → Option (List ℕ) → ListBook
changed name place b None = b
changed name place b (Some universes) = kept_at name universes place b

pub changed_is : (cid name : List ℕ) (list : Option (List ℕ)) (b : ListBook) → after_list cid name list b ≡ changed name (place_of cid b) b list
changed_is cid name None b = refl
changed_is cid name (Some universes) b = refl

-- a list that is kept at a place is put there once more
once_more : (name universes : List ℕ) (place : ℕ) (b : ListBook) (l : KeptList) → slice_get b.lists place ≡ Some l → is_list l.universes universes ≡ true → b ≡ with_lists (put_list name universes place b.lists (Some l)) b
once_more name universes place b l there is =
    let same : with_list name universes l ≡ l = ap (λ (t : Bool). cond t l (record { cid = l.cid; name = name; universes = Some universes })) is in
    ap (λ (ls : List KeptList). with_lists ls b) (sym (ap (λ (k : KeptList). slice_set b.lists place k) same ∙ put_back b.lists place l there))

changed_beside : (kept : Option (List ℕ)) (name universes : List ℕ) (place : ℕ) (b : ListBook) (l : KeptList) → slice_get b.lists place ≡ Some l → l.universes ≡ kept
    → changed name (Some place) b (beside kept (Some universes)) ≡ kept_at name universes (Some place) b
changed_beside None name universes place b l there is = refl
changed_beside (Some kept) name universes place b l there is =
    elim (bytes_eq universes kept) as (λ t. bytes_eq kept universes ≡ t → changed name (Some place) b (cond t None (Some universes)) ≡ kept_at name universes (Some place) b) [
      | true ↦ λ e. once_more name universes place b l there (ap (λ (k : Option (List ℕ)). is_list k universes) is ∙ e) ∙ ap (λ (q : Option KeptList). with_lists (put_list name universes place b.lists q) b) (sym there)
      | false ↦ λ e. refl
    ] (either_way kept universes)

changed_at : (name universes : List ℕ) (place : ℕ) (b : ListBook) (q : Option KeptList) → slice_get b.lists place ≡ q → changed name (Some place) b (beside (kept_of q) (Some universes)) ≡ kept_at name universes (Some place) b
changed_at name universes place b None there = refl
changed_at name universes place b (Some l) there = changed_beside l.universes name universes place b l there refl

changed_same : (name : List ℕ) (place : Option ℕ) (b : ListBook) (list : Option (List ℕ)) → changed name place b (beside (kept_of (option_and_then (λ i. slice_get b.lists i) place)) list) ≡ changed name place b list
changed_same name place b None = ap (changed name place b) (nothing_beside (kept_of (option_and_then (λ i. slice_get b.lists i) place)))
changed_same name None b (Some universes) = refl
changed_same name (Some place) b (Some universes) = changed_at name universes place b (slice_get b.lists place) refl

same_book : (cid name : List ℕ) (list : Option (List ℕ)) (b : ListBook) → after_list cid name (beside (kept_of (list_at cid b)) list) b ≡ after_list cid name list b
same_book cid name list b = changed_is cid name (beside (kept_of (list_at cid b)) list) b ∙ changed_same name (place_of cid b) b list ∙ sym (changed_is cid name list b)

left_out : (cid name : List ℕ) (list : Option (List ℕ)) (b : ListBook) (left : Option (List ℕ)) → left ≡ beside (kept_of (list_at cid b)) list → left ≡ None → b ≡ after_list cid name list b
left_out cid name list b left is none = ap (λ (o : Option (List ℕ)). after_list cid name o b) (sym none ∙ is) ∙ same_book cid name list b

-- the list of a source that is kept already, or isn't whole
pub list_left_out : (name : List ℕ) (b new : ListBook) (pages : State) (cid same : List ℕ) (left : Option (List ℕ)) → cid ≡ same → new ≡ with_pages pages b → left ≡ beside (kept_of (list_at cid b)) (known_list pages cid) → left ≡ None
    → new ≡ after_list same name (known_list pages same) (with_pages pages b)
list_left_out name b new pages cid same left is book there none =
    book ∙ left_out cid name (known_list pages cid) (with_pages pages b) left there none ∙ ap (λ (c : List ℕ). after_list c name (known_list pages c) (with_pages pages b)) is
