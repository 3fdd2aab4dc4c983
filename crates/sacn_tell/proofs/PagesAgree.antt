-- The lists that are kept stay those that the pages give.
use Rattle.std.proofs.Common.{◌≡◌, ◌≢◌, ◌==◌, ◌<◌, ◌++◌, ℕ, max, Bool, true, false, cond, ◌||◌, List, [], ◌∷◌, length, map, get_or, Option, None, Some, slice_get, slice_set, refl, sym, ap, subst, ◌∙◌, arith}
use Rattle.std.specs.List.{before_first, position}
use Rattle.std.specs.Option.{option_and_then}
use Rattle.std.specs.Str.{bytes_eq}
use Rattle.std.specs.Ordering.{nat_cmp}
use Rattle.std.specs.Cmp.Lexicographic.{nat_list_cmp_total, slice_cmp}
use Rattle.std.specs.FinMap.{get, get-insert, get-empty}
use Rattle.std.proofs.lemmas.List.{get_or_append_left, length-append, map-append}
use Rattle.std.proofs.Math.Seq.{get_or-append_seam}
use Rattle.std.proofs.lemmas.List.Quantifiers.{position-Some}
use Rattle.std.proofs.lemmas.Map.Text.{is_eq-slice_cmp}
use Rattle.std.proofs.lemmas.Option.{slice_get-get_or}
use Rattle.std.proofs.lemmas.Slice.Eq.{bytes_eq-Decides}
use Rattle.sacn_packets.specs.Page.{Page as PageFields}
use Rattle.sacn_discovery.specs.Collection.{Known, State, after_expire, after_take, is_fresh, known_list, list_for, nothing_known, with_page}
use Rattle.sacn_discovery.proofs.FreshSources.{get_fresh, unless_old}
use Rattle.sacn_tell.specs.declared.listings.Listing.{Listing}
use Rattle.sacn_tell.specs.KeptLists.{collected}
use Rattle.sacn_tell.specs.Lines.{KeptList, kept_list}
use Rattle.sacn_tell.specs.Lists.{beside}
use Rattle.sacn_tell.specs.ListBooks.{ListBook, after_heard, after_list, is_list, list_at, no_list, place_of, put_list, whole_list, with_list, with_pages}
use Rattle.sacn_tell.specs.ListsOfPages.{AgreeWithPages, kept_universes}
use Rattle.sacn_tell.proofs.FirstPlaces.{found_before, found_last, put_other, put_same}
use Rattle.sacn_tell.proofs.KeptAlready.{changed, changed_is, either_way, kept_of, list_left_out, nothing_beside}

-- where nothing is known
pub none_told : (sources : List (List ℕ)) (lists : List KeptList) → AgreeWithPages sources lists nothing_known
none_told sources lists cid = ap (λ (o : Option Known). beside (kept_universes cid sources lists) (list_for o)) (get-empty (slice_cmp nat_cmp) cid) ∙ nothing_beside (kept_universes cid sources lists)

-- ---- time goes by

not_older : (t : ℕ) (o : Option Known) (kept : Option (List ℕ)) → beside kept (list_for o) ≡ None → beside kept (list_for (unless_old t o)) ≡ None
not_older t None kept is = is
not_older t (Some k) kept is = elim (is_fresh t k) as (λ b. beside kept (list_for (cond b (Some k) None)) ≡ None) [ true ↦ is | false ↦ nothing_beside kept ]

expired : (now : ℕ) (s : State) (cid : List ℕ) (kept : Option (List ℕ)) → beside kept (known_list s cid) ≡ None → beside kept (known_list (after_expire now s) cid) ≡ None
expired now s cid kept is = ap (λ (o : Option Known). beside kept (list_for o)) (get_fresh (max s.moment now) s.sources cid) ∙ not_older (max s.moment now) (get s.sources cid) kept is

-- ---- a source more

both_none : (cid : List ℕ) (b : Bool) (lists : List KeptList) → option_and_then (λ (l : KeptList). l.universes) (option_and_then (λ place. slice_get (lists ++ no_list cid ∷ []) place) (cond b (Some (length lists)) None)) ≡ None
both_none cid true lists = ap (option_and_then (λ (l : KeptList). l.universes))
    (slice_get-get_or (lists ++ no_list cid ∷ []) (length lists) (no_list cid) (omega (arith, length-append lists (no_list cid ∷ []))) ∙ ap (λ (l : KeptList). Some l) (get_or-append_seam lists (no_list cid) [] (no_list cid)))
both_none cid false lists = refl

longer : (lists : List KeptList) (l : KeptList) (i : ℕ) → i < length lists → slice_get (lists ++ l ∷ []) i ≡ slice_get lists i
longer lists l i within =
    slice_get-get_or (lists ++ l ∷ []) i l (omega (arith, within, length-append lists (l ∷ [])))
    ∙ ap (λ (k : KeptList). Some k) (get_or_append_left lists (l ∷ []) l i within)
    ∙ sym (slice_get-get_or lists i l within)

abbrev universes_in : List KeptList → Option ℕ → Option (List ℕ)
universes_in ls q = option_and_then (λ l. l.universes) (option_and_then (λ i. slice_get ls i) q)

pub source_told : (cid : List ℕ) (sources : List (List ℕ)) (lists : List KeptList) (pages : State) → length lists ≡ length sources → AgreeWithPages sources lists pages → AgreeWithPages (sources ++ cid ∷ []) (lists ++ no_list cid ∷ []) pages
source_told cid sources lists pages paired told other =
    let test : List ℕ → Bool = λ source. bytes_eq source other in
    ap (λ (k : Option (List ℕ)). beside k (known_list pages other)) (elim (position test sources) as (λ q. position test sources ≡ q → universes_in (lists ++ no_list cid ∷ []) (position test (sources ++ cid ∷ [])) ≡ universes_in lists q) [
      | None ↦ λ none.
          ap (universes_in (lists ++ no_list cid ∷ [])) (found_last test sources cid none ∙ ap (λ (n : ℕ). cond (test cid) (Some n) None) (sym paired))
          ∙ both_none cid (test cid) lists
      | Some i ↦ λ at.
          ap (universes_in (lists ++ no_list cid ∷ [])) (found_before test sources cid i at)
          ∙ ap (option_and_then (λ (l : KeptList). l.universes)) (longer lists (no_list cid) i (omega (arith, paired, (position-Some test sources i cid at).0)))
    ] refl)
    ∙ told other

-- the lists, one being put behind them
pub one_list_more : (known mid new : List Listing) (l : Listing) (cid : List ℕ) → mid ≡ known → new ≡ mid ++ l ∷ [] → kept_list l ≡ no_list cid → map kept_list new ≡ map kept_list known ++ no_list cid ∷ []
one_list_more known mid new l cid same pushed is =
    ap (map kept_list) (pushed ∙ ap (λ (ls : List Listing). ls ++ l ∷ []) same)
    ∙ map-append kept_list known (l ∷ [])
    ∙ ap (λ (k : KeptList). map kept_list known ++ k ∷ []) is

-- and the place of their source
pub last_place : (cid : List ℕ) (sources mid new : List (List ℕ)) (place : ℕ) → place ≡ length mid → mid ≡ sources → new ≡ mid ++ cid ∷ [] → None ≡ position (λ source. bytes_eq source cid) sources → Some place ≡ position (λ source. bytes_eq source cid) new
last_place cid sources mid new place at same pushed none =
    ap (λ (n : ℕ). Some n) (at ∙ ap length same)
    ∙ sym (found_last (λ source. bytes_eq source cid) sources cid (sym none) ∙ ap (λ (b : Bool). cond b (Some (length sources)) None) ((bytes_eq-Decides cid cid).1 refl))
    ∙ ap (position (λ source. bytes_eq source cid)) (sym (pushed ∙ ap (λ (ss : List (List ℕ)). ss ++ cid ∷ []) same))

-- ---- a page

other_source : (now : ℕ) (p : PageFields) (s : State) (cid : List ℕ) → bytes_eq cid p.cid ≡ false → known_list (after_take now p s) cid ≡ known_list (after_expire now s) cid
other_source now p s cid differs =
    let e : State = after_expire now s in
    let known : Known = with_page e.moment p.page p.last p.numbers (get e.sources p.cid) in
    ap list_for (get-insert nat_list_cmp_total e.sources p.cid known cid ∙ ap (λ (b : Bool). cond b (Some known) (get e.sources cid)) (is_eq-slice_cmp cid p.cid ∙ differs))

same_source : (sources : List (List ℕ)) (c d : List ℕ) (i : ℕ) → position (λ source. bytes_eq source c) sources ≡ Some i → position (λ source. bytes_eq source d) sources ≡ Some i → c ≡ d
same_source sources c d i at and =
    let s : List ℕ = get_or sources i [] in
    sym ((bytes_eq-Decides s c).0 (position-Some (λ source. bytes_eq source c) sources i [] at).1) ∙ (bytes_eq-Decides s d).0 (position-Some (λ source. bytes_eq source d) sources i [] and).1

is_kept : (kept : Option (List ℕ)) (universes : List ℕ) → is_list kept universes ≡ true → beside kept (Some universes) ≡ None
is_kept None universes is = absurd (cc is)
is_kept (Some k) universes is = ap (λ (t : Bool). cond t None (Some universes)) (either_way universes k ∙ is)

kept_now : (name universes : List ℕ) (l : KeptList) → beside (with_list name universes l).universes (Some universes) ≡ None
kept_now name universes l =
    elim (is_list l.universes universes) as (λ t. is_list l.universes universes ≡ t → beside (cond t l (record { cid = l.cid; name = name; universes = Some universes })).universes (Some universes) ≡ None) [
      | true ↦ λ is. is_kept l.universes universes is
      | false ↦ λ other. ap (λ (t : Bool). cond t None (Some universes)) ((bytes_eq-Decides universes universes).1 refl)
    ] refl

module _ (now : ℕ) (p : PageFields) (sources : List (List ℕ)) (lists : List KeptList) (pages : State) (told : AgreeWithPages sources lists pages) where
  abbrev then_known : List ℕ → Option (List ℕ)
  then_known cid = known_list (collected now p pages) cid

  others : (cid : List ℕ) → bytes_eq cid p.cid ≡ false → beside (kept_universes cid sources lists) (then_known cid) ≡ None
  others cid differs =
      let kept : Option (List ℕ) = kept_universes cid sources lists in
      expired now (after_take now p pages) cid kept (ap (beside kept) (other_source now p pages cid differs) ∙ expired now pages cid kept (told cid))

  -- that makes no list whole
  no_list_told : then_known p.cid ≡ None → AgreeWithPages sources lists (collected now p pages)
  no_list_told none cid = elim (bytes_eq cid p.cid) as (λ t. bytes_eq cid p.cid ≡ t → beside (kept_universes cid sources lists) (then_known cid) ≡ None) [
    | true ↦ λ is. ap (beside (kept_universes cid sources lists)) (ap then_known ((bytes_eq-Decides cid p.cid).0 is) ∙ none) ∙ nothing_beside (kept_universes cid sources lists)
    | false ↦ λ other. others cid other
  ] refl

  -- whose list is put at the place of its source
  module _ (place : ℕ) (l : KeptList) (name universes : List ℕ) (at : position (λ source. bytes_eq source p.cid) sources ≡ Some place) (there : slice_get lists place ≡ Some l) (whole : then_known p.cid ≡ Some universes) where
    abbrev after : List KeptList
    after = slice_set lists place (with_list name universes l)

    own : beside (kept_universes p.cid sources after) (then_known p.cid) ≡ None
    own =
        ap (λ (q : Option ℕ). beside (universes_in after q) (then_known p.cid)) at
        ∙ ap (λ (q : Option KeptList). beside (option_and_then (λ k. k.universes) q) (then_known p.cid)) (put_same lists place (with_list name universes l) l there)
        ∙ ap (beside (with_list name universes l).universes) whole
        ∙ kept_now name universes l

    elsewhere : (cid : List ℕ) → bytes_eq cid p.cid ≡ false → kept_universes cid sources after ≡ kept_universes cid sources lists
    elsewhere cid other = elim (position (λ source. bytes_eq source cid) sources) as (λ q. position (λ source. bytes_eq source cid) sources ≡ q → universes_in after q ≡ universes_in lists q) [
      | None ↦ λ _. refl
      | Some j ↦ λ found. ap (option_and_then (λ (k : KeptList). k.universes)) (put_other lists place j (with_list name universes l) (apart cid other j found))
    ] refl
      where
        apart : (cid : List ℕ) → bytes_eq cid p.cid ≡ false → (j : ℕ) → position (λ source. bytes_eq source cid) sources ≡ Some j → j ≢ place
        apart cid other j found same =
            let is : bytes_eq cid p.cid ≡ true = (bytes_eq-Decides cid p.cid).1 (same_source sources cid p.cid place (found ∙ ap (λ (n : ℕ). Some n) same) at) in
            absurd (cc (is, other))

    list_told : AgreeWithPages sources after (collected now p pages)
    list_told cid = elim (bytes_eq cid p.cid) as (λ t. bytes_eq cid p.cid ≡ t → beside (kept_universes cid sources after) (then_known cid) ≡ None) [
      | true ↦ λ is. subst (λ (c : List ℕ). beside (kept_universes c sources after) (then_known c) ≡ None) (sym ((bytes_eq-Decides cid p.cid).0 is)) own
      | false ↦ λ other. ap (λ (k : Option (List ℕ)). beside k (then_known cid)) (elsewhere cid other) ∙ others cid other
    ] refl

abbrev pub Agrees : ListBook → Type 0
Agrees b = AgreeWithPages b.sources b.lists b.pages

-- of a source that has this place
pub heard_told : (now : ℕ) (p : PageFields) (b : ListBook) (place : ℕ) → length b.lists ≡ length b.sources → Some place ≡ place_of p.cid b → Agrees b → Agrees (after_heard now p b)
heard_told now p b place paired at told =
    let name : List ℕ = before_first (λ octet. octet == 0) p.name in
    let then : ListBook = with_pages (collected now p b.pages) b in
    let l : KeptList = get_or b.lists place (no_list []) in
    let within : place < length b.lists = omega (arith, paired, (position-Some (λ source. bytes_eq source p.cid) b.sources place [] (sym at)).0) in
    let there : slice_get b.lists place ≡ Some l = slice_get-get_or b.lists place (no_list []) within in
    subst Agrees (sym (changed_is p.cid name (whole_list now p b) then ∙ ap (λ (q : Option ℕ). changed name q then (whole_list now p b)) (sym at)))
    (elim (whole_list now p b) as (λ list. whole_list now p b ≡ list → Agrees (changed name (Some place) then list)) [
      | None ↦ λ none. no_list_told now p b.sources b.lists b.pages told none
      | Some universes ↦ λ whole.
          subst (λ (q : Option KeptList). AgreeWithPages b.sources (put_list name universes place b.lists q) (collected now p b.pages)) (sym there)
          (list_told now p b.sources b.lists b.pages told place l name universes (sym at) there whole)
    ] refl)

-- ---- a page that is kept already

-- what its source's pages give is kept
quiet : (now : ℕ) (p : PageFields) (b : ListBook) (taken : State) → known_list taken p.cid ≡ known_list (after_expire now b.pages) p.cid → Agrees b → beside (kept_of (list_at p.cid b)) (known_list (after_expire now taken) p.cid) ≡ None
quiet now p b taken same told =
    let kept : Option (List ℕ) = kept_of (list_at p.cid b) in
    expired now taken p.cid kept (ap (beside kept) same ∙ expired now b.pages p.cid kept (told p.cid))

module _ (now : ℕ) (p : PageFields) (b new : ListBook) (taken last : State) (is : taken ≡ after_take now p b.pages) (again : last ≡ after_expire now taken) (same : known_list taken p.cid ≡ known_list (after_expire now b.pages) p.cid) (book : new ≡ with_pages last b) (told : Agrees b) where
  pub again_book : new ≡ after_heard now p b
  again_book =
      let name : List ℕ = before_first (λ octet. octet == 0) p.name in
      list_left_out name b new (after_expire now taken) p.cid p.cid _ refl (book ∙ ap (λ (s : State). with_pages s b) again) refl (quiet now p b taken same told)
      ∙ ap (λ (s : State). after_list p.cid name (known_list (after_expire now s) p.cid) (with_pages (after_expire now s) b)) is

  pub again_told : (place : ℕ) → length b.lists ≡ length b.sources → Some place ≡ place_of p.cid b → Agrees new
  again_told place paired at = subst Agrees (sym again_book) (heard_told now p b place paired at told)

-- a page that the collector has, and whose list was compared
pub heard_since : (now : ℕ) (p : PageFields) (b new : ListBook) (taken : State) → taken ≡ after_take now p b.pages
    → new ≡ after_list p.cid (before_first (λ octet. octet == 0) p.name) (known_list (after_expire now taken) p.cid) (with_pages (after_expire now taken) b) → new ≡ after_heard now p b
heard_since now p b new taken is book =
    book ∙ ap (λ (s : State). after_list p.cid (before_first (λ octet. octet == 0) p.name) (known_list (after_expire now s) p.cid) (with_pages (after_expire now s) b)) is

-- neither of two
pub neither : (a b : Bool) → (a || b) ≡ false → (a ≡ false) × (b ≡ false)
neither false false is = (refl, refl)
neither false true is = absurd (cc is)
neither true b is = absurd (cc is)
