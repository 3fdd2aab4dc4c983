-- How many sources a call forgets.
use Rattle.std.proofs.Common.{◌≡◌, ℕ, ◌+◌, ◌-◌, max, nat_lt, Bool, true, false, not, cond, ◌&&◌, ◌||◌, T, List, [], ◌∷◌, length, filter, Option, Some, None, refl, sym, ap, ◌∙◌, zero-add, arith}
use Rattle.std.specs.List.{count_by}
use Rattle.std.specs.Option.{option_map}
use Rattle.std.specs.declared.cmp.Ordering.{Ordering}
use Rattle.std.specs.declared.cmp.Ordering.TheVariants.{Less, Equal, Greater}
use Rattle.std.specs.Ordering.{is_eq, eq_by_cmp}
use Rattle.std.specs.Cmp.{eq_by_cmp_equiv}
use Rattle.std.specs.Cmp.Lexicographic.{nat_list_cmp_total}
use Rattle.std.specs.FinMap.{find, get, len, entries, entries_sorted, get-entries, len-entries, entries-from_sorted, is_sorted}
use Rattle.std.specs.FinMap.Entries.{below_all}
use Rattle.std.proofs.lemmas.List.Filters.{length-filter_both}
use Rattle.std.proofs.lemmas.List.Sums.{length-filter, sum_by-cons}
use Rattle.sacn_discovery.specs.Collection.{Known, Sources, State, is_fresh, fresh, nothing_known}
use Rattle.sacn_discovery.specs.Lists.{Copy, latest_moment, fresh_moment, Call, Accepted, Refused, Expire, ListOf, after_all, copies_in, copy_in, moment_of, moment_after, has_cid, with_sender, senders, is_there, gets_old, ExpiryCountsThoseThatGetOld}
use Rattle.sacn_discovery.proofs.Stores.{cid_cmp}
use Rattle.sacn_discovery.proofs.FreshSources.{none_above, sorted_filter}
use Rattle.sacn_discovery.proofs.KnownLists.{kept_now, clock_is}

abbrev same : List ℕ → List ℕ → Bool
same a b = eq_by_cmp cid_cmp a b

abbrev EachOnce : List (List ℕ) → Type 0
EachOnce [] = Unit {0}
EachOnce (c ∷ cs) = (has_cid cs c ≡ false) × EachOnce cs

is_equal : (o : Ordering) → is_eq o ≡ true → o ≡ Equal
is_equal Less e = absurd cc
is_equal Equal e = refl
is_equal Greater e = absurd cc

left_no : (a b : Bool) → (a || b) ≡ false → a ≡ false
left_no true b e = absurd cc
left_no false b e = refl

right_no : (a b : Bool) → (a || b) ≡ false → b ≡ false
right_no true b e = absurd cc
right_no false b e = e

-- CIDs that tie are among the same
tied_same : (c k d : List ℕ) → same c k ≡ true → same d k ≡ same d c
tied_same c k d e = (eq_by_cmp_equiv nat_list_cmp_total).symm d k ∙ sym ((eq_by_cmp_equiv nat_list_cmp_total).congr c k d e) ∙ (eq_by_cmp_equiv nat_list_cmp_total).symm c d

tied_has : (c k : List ℕ) (cs : List (List ℕ)) → same c k ≡ true → has_cid cs k ≡ has_cid cs c
tied_has c k [] e = refl
tied_has c k (d ∷ cs) e = ap (λ b. b || has_cid cs k) (tied_same c k d e) ∙ ap (λ b. same d c || b) (tied_has c k cs e)

-- ---- counting over CIDs of which each stands once

more : {X : Type 0} (f : X → Bool) (x : X) (xs : List X) → count_by f (x ∷ xs) ≡ cond (f x) 1 0 + count_by f xs
more f x xs = sum_by-cons (λ y. cond (f y) 1 0) x xs

count_same : (f g : List ℕ → Bool) (k : List ℕ) (cs : List (List ℕ)) → ((c : List ℕ) → same c k ≡ false → f c ≡ g c) → has_cid cs k ≡ false → count_by f cs ≡ count_by g cs
count_same f g k [] eqs none = refl
count_same f g k (c ∷ cs) eqs none =
    more f c cs
    ∙ ap (λ b. cond b 1 0 + count_by f cs) (eqs c (left_no (same c k) (has_cid cs k) none))
    ∙ ap (λ n. cond (g c) 1 0 + n) (count_same f g k cs eqs (right_no (same c k) (has_cid cs k) none))
    ∙ sym (more g c cs)

swap : (x y z : ℕ) → x + (y + z) ≡ y + (x + z)
swap x y z = omega arith

module _ (f g : List ℕ → Bool) (a : Bool) (k : List ℕ) (others : (c : List ℕ) → same c k ≡ false → f c ≡ g c) (there : (c : List ℕ) → same c k ≡ true → (f c ≡ a) × (g c ≡ false)) where
  one_more_cid : (c : List ℕ) (cs : List (List ℕ)) → has_cid cs c ≡ false → (has_cid cs k ≡ true → count_by f cs ≡ cond a 1 0 + count_by g cs) → has_cid (c ∷ cs) k ≡ true
      → cond (f c) 1 0 + count_by f cs ≡ cond a 1 0 + (cond (g c) 1 0 + count_by g cs)
  one_more_cid c cs once later = elim (same c k) as (λ b. same c k ≡ b → (b || has_cid cs k) ≡ true → cond (f c) 1 0 + count_by f cs ≡ cond a 1 0 + (cond (g c) 1 0 + count_by g cs)) [
    | true ↦ λ e h.
        let rest : count_by f cs ≡ count_by g cs = count_same f g k cs others (tied_has c k cs e ∙ once) in
        ap (λ b. cond b 1 0 + count_by f cs) (there c e).0
        ∙ ap (λ n. cond a 1 0 + n) (rest ∙ sym (zero-add (count_by g cs)) ∙ ap (λ b. cond b 1 0 + count_by g cs) (sym (there c e).1))
    | false ↦ λ e h.
        ap (λ b. cond b 1 0 + count_by f cs) (others c e)
        ∙ ap (λ n. cond (g c) 1 0 + n) (later h)
        ∙ swap (cond (g c) 1 0) (cond a 1 0) (count_by g cs)
  ] refl

  count_one : (cs : List (List ℕ)) → EachOnce cs → has_cid cs k ≡ true → count_by f cs ≡ cond a 1 0 + count_by g cs
  count_one [] once has = absurd cc
  count_one (c ∷ cs) once has =
      more f c cs
      ∙ one_more_cid c cs once.0 (λ h. count_one cs once.1 h) has
      ∙ ap (λ n. cond a 1 0 + n) (sym (more g c cs))

-- ---- the entries that get old, by their CIDs

module _ (u : ℕ) where
  abbrev old_in : Option Known → Bool
  old_in None = false
  old_in (Some k) = not (is_fresh u k)

  first_below : (a b : Bool) → T (a && b) → T a
  first_below true b p = tt
  first_below false b p = p

  rest_below : (a b : Bool) → T (a && b) → T b
  rest_below true b p = p
  rest_below false b p = absurd p

  yes_has : (b : Bool) (x : Known) (h : List ℕ → Option Known) (k : List ℕ) → (b ≡ false → h k ≡ None) → h k ≡ Some x → b ≡ true
  yes_has true x h k none some = refl
  yes_has false x h k none some = absurd (clash (h k) x (none refl) some)
    where
      clash : (o : Option Known) (x : Known) → o ≡ None → o ≡ Some x → ⊥
      clash None x e f = absurd cc
      clash (Some y) x e f = absurd cc

  tail_none : (b : Bool) (x : Known) (o : Option Known) → cond b (Some x) o ≡ None → o ≡ None
  tail_none true x o e = absurd cc
  tail_none false x o e = e

  counted : (es : List (List ℕ × Known)) (cids : List (List ℕ)) → T (is_sorted cid_cmp es) → EachOnce cids → ((q : List ℕ) → has_cid cids q ≡ false → find cid_cmp q es ≡ None)
      → count_by (λ (e : List ℕ × Known). not (is_fresh u e.1)) es ≡ count_by (λ c. old_in (find cid_cmp c es)) cids
  counted [] cids sorted once all = sym (none_counted cids)
    where
      none_counted : (cids : List (List ℕ)) → count_by (λ (c : List ℕ). false) cids ≡ 0
      none_counted [] = refl
      none_counted (c ∷ cs) = more (λ (d : List ℕ). false) c cs ∙ omega (arith, none_counted cs)
  counted (e ∷ es) cids sorted once all =
      let below = first_below (below_all cid_cmp e.0 es) (is_sorted cid_cmp es) sorted in
      let itself : find cid_cmp e.0 (e ∷ es) ≡ Some e.1 = ap (λ b. cond b (Some e.1) (find cid_cmp e.0 es)) ((eq_by_cmp_equiv nat_list_cmp_total).refl e.0) in
      let rest = counted es cids (rest_below (below_all cid_cmp e.0 es) (is_sorted cid_cmp es) sorted) once (λ q none. tail_none (same q e.0) e.1 (find cid_cmp q es) (all q none)) in
      more (λ (x : List ℕ × Known). not (is_fresh u x.1)) e es
      ∙ ap (λ n. cond (not (is_fresh u e.1)) 1 0 + n) rest
      ∙ sym (count_one (λ c. old_in (find cid_cmp c (e ∷ es))) (λ c. old_in (find cid_cmp c es)) (not (is_fresh u e.1)) e.0
      (λ c differs. ap (λ b. old_in (cond b (Some e.1) (find cid_cmp c es))) differs)
      (λ c ties. (ap (λ b. old_in (cond b (Some e.1) (find cid_cmp c es))) ties, ap old_in (none_above c e.0 es (is_equal (cid_cmp c e.0) ties) below)))
      cids once
      (yes_has (has_cid cids e.0) e.1 (λ q. find cid_cmp q (e ∷ es)) e.0 (all e.0) itself))

  gone_count : (sources : Sources) → len sources - len (fresh u sources) ≡ count_by (λ (e : List ℕ × Known). not (is_fresh u e.1)) (entries sources)
  unfolding fresh
  gone_count sources =
      let es : List (List ℕ × Known) = entries sources in
      let kept : List (List ℕ × Known) = filter (λ e. is_fresh u e.1) es in
      let left : len (fresh u sources) ≡ length kept = len-entries (fresh u sources) ∙ ap length (entries-from_sorted cid_cmp kept (sorted_filter (λ e. is_fresh u e.1) es (entries_sorted sources))) in
      let both = length-filter_both (λ (e : List ℕ × Known). is_fresh u e.1) (λ e. not (is_fresh u e.1)) (λ e. refl) es in
      let out = length-filter (λ (e : List ℕ × Known). not (is_fresh u e.1)) es in
      omega (arith, len-entries sources, left, both, out)

-- ---- the CIDs of the accepted pages

once_added : (call : Call) (cids : List (List ℕ)) → EachOnce cids → EachOnce (with_sender call cids)
once_added (Accepted now p) cids once = elim (has_cid cids p.cid) as (λ b. has_cid cids p.cid ≡ b → EachOnce (cond b cids (p.cid ∷ cids))) [
  | true ↦ λ e. once
  | false ↦ λ e. (e, once)
] refl
once_added (Refused now p) cids once = once
once_added (Expire now) cids once = once
once_added (ListOf now cid) cids once = once

each_once : (calls : List Call) → EachOnce (senders calls)
each_once [] = tt
each_once (call ∷ calls) = once_added call (senders calls) (each_once calls)

not_added : (call : Call) (cids : List (List ℕ)) (q : List ℕ) (t : ℕ) → has_cid (with_sender call cids) q ≡ false → (copy_in q t call ≡ []) × (has_cid cids q ≡ false)
not_added (Accepted now p) cids q t = elim (has_cid cids p.cid) as (λ b. has_cid cids p.cid ≡ b → has_cid (cond b cids (p.cid ∷ cids)) q ≡ false → (copy_in q t (Accepted now p) ≡ []) × (has_cid cids q ≡ false)) [
  | true ↦ λ there none. (nothing_from (other p.cid q cids there none), none)
  | false ↦ λ fresh none. (nothing_from (left_no (same p.cid q) (has_cid cids q) none), right_no (same p.cid q) (has_cid cids q) none)
] refl
  where
    other : (c q : List ℕ) (cids : List (List ℕ)) → has_cid cids c ≡ true → has_cid cids q ≡ false → same c q ≡ false
    other c q cids there none = elim (same c q) as (λ b. same c q ≡ b → b ≡ false) [
      | true ↦ λ e. absurd (two (has_cid cids q) none (tied_has c q cids e ∙ there))
      | false ↦ λ e. refl
    ] refl
      where
        two : (b : Bool) → b ≡ false → b ≡ true → ⊥
        two true e f = absurd cc
        two false e f = absurd cc

    nothing_from : same p.cid q ≡ false → copy_in q t (Accepted now p) ≡ []
    nothing_from differs = ap (λ b. cond b (let c : Copy = record { page = p.page; last = p.last; numbers = p.numbers; moment = t } in c ∷ []) []) ((eq_by_cmp_equiv nat_list_cmp_total).symm q p.cid ∙ differs)
not_added (Refused now p) cids q t = λ none. (refl, none)
not_added (Expire now) cids q t = λ none. (refl, none)
not_added (ListOf now cid) cids q t = λ none. (refl, none)

no_copies_from : (calls : List Call) (q : List ℕ) (t : ℕ) → has_cid (senders calls) q ≡ false → copies_in q t calls ≡ []
no_copies_from [] q t none = refl
no_copies_from (call ∷ calls) q t none =
    let u : ℕ = max t (moment_of call) in
    let one = not_added call (senders calls) q u none in
    rw one.0 (no_copies_from calls q u one.1)

none_known : (o : Option Known) → option_map (λ (k : Known). k.moment) o ≡ None → o ≡ None
none_known None e = refl
none_known (Some k) e = absurd cc

abbrev old_moment : ℕ → Option ℕ → Bool
old_moment u None = false
old_moment u (Some m) = not (nat_lt (u - m) 25000)

by_moment : (u : ℕ) (o : Option Known) → old_in u o ≡ old_moment u (option_map (λ (k : Known). k.moment) o)
by_moment u None = refl
by_moment u (Some k) = refl

got_old : (t u : ℕ) (copies : List Copy) → old_moment u (fresh_moment t copies) ≡ gets_old t u copies
got_old t u [] = refl
got_old t u (c ∷ copies) =
    let m : ℕ = latest_moment c copies in
    elim (nat_lt (t - m) 25000) as (λ a. old_moment u (cond a (Some m) None) ≡ (is_there (cond a (Some m) None) && not (is_there (cond (nat_lt (u - m) 25000) (Some m) None)))) [
      | true ↦ elim (nat_lt (u - m) 25000) as (λ b. not b ≡ not (is_there (cond b (Some m) None))) [ true ↦ refl | false ↦ refl ]
      | false ↦ refl
    ]

count_alike : (f g : List ℕ → Bool) (cs : List (List ℕ)) → ((c : List ℕ) → f c ≡ g c) → count_by f cs ≡ count_by g cs
count_alike f g [] e = refl
count_alike f g (c ∷ cs) e = more f c cs ∙ ap (λ b. cond b 1 0 + count_by f cs) (e c) ∙ ap (λ n. cond (g c) 1 0 + n) (count_alike f g cs e) ∙ sym (more g c cs)

pub expiry_counts_those_that_get_old : ExpiryCountsThoseThatGetOld
expiry_counts_those_that_get_old calls now pages =
    let s : State = after_all calls nothing_known in
    let t : ℕ = moment_after 0 calls in
    let u : ℕ = max s.moment now in
    gone_count u s.sources
    ∙ counted u (entries s.sources) (senders calls) (entries_sorted s.sources) (each_once calls) (λ q none.
    sym (get-entries s.sources q) ∙ none_known (get s.sources q) (kept_now calls q pages ∙ ap (fresh_moment t) (no_copies_from calls q 0 none)))
    ∙ count_alike (λ c. old_in u (find cid_cmp c (entries s.sources))) (λ c. gets_old t u (copies_in c 0 calls)) (senders calls) (λ c.
    ap (old_in u) (sym (get-entries s.sources c)) ∙ by_moment u (get s.sources c) ∙ ap (old_moment u) (kept_now calls c pages) ∙ got_old t u (copies_in c 0 calls))
    ∙ ap (λ (m : ℕ). count_by (λ c. gets_old t (max m now) (copies_in c 0 calls)) (senders calls)) (clock_is calls)
