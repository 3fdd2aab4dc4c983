-- The list that is known of a CID, by the pages accepted from it.
use Rattle.std.specs.Prelude.{◌≡◌, ℕ, zero, suc, ◌+◌, ◌-◌, nat_lt, ◌≤◌, ⊤, max, Bool, true, false, not, List, [], ◌∷◌, ◌++◌, ◌&&◌, ◌==◌, Option, Some, None, if◌then◌else◌}
use Rattle.std.specs.List.{list_all, list_any, count_by, AllByRecursion}
use Rattle.std.specs.Option.{option_map}
use Rattle.std.specs.Ordering.{nat_cmp, eq_by_cmp}
use Rattle.std.specs.Cmp.Lexicographic.{slice_cmp}
use Rattle.std.specs.FinMap.{get, len}
use Rattle.sacn_packets.specs.Page.{Page}
use Rattle.sacn_discovery.specs.declared.limits.TheConstants.{FORGOTTEN_AFTER}
use Rattle.sacn_discovery.specs.Collection.{State, nothing_known, after_expire, after_take, ascending, joined, known_list}

-- an accepted page, with its moment in use
pub record Copy : Type 0 where
  pub page : ℕ
  pub last : ℕ
  pub numbers : List ℕ
  pub moment : ℕ

-- all have one last page number
abbrev pub has_one_last : List Copy → Bool
has_one_last [] = true
has_one_last (c ∷ copies) = list_all (λ d. c.last == d.last) copies

-- no two neighbours are 25,000 ms or more apart
abbrev pub has_no_gap : List Copy → Bool
has_no_gap [] = true
has_no_gap (c ∷ []) = true
has_no_gap (c ∷ d ∷ copies) = nat_lt (d.moment - c.moment) FORGOTTEN_AFTER && has_no_gap (d ∷ copies)

abbrev pub is_run : List Copy → Bool
is_run copies = has_one_last copies && has_no_gap copies

-- the longest suffix that is a run
abbrev pub longest_run : List Copy → List Copy
longest_run [] = []
longest_run (c ∷ copies) = if is_run (c ∷ copies) then c ∷ copies else longest_run copies

abbrev pub later_or : Option (List ℕ) → Option (List ℕ) → Option (List ℕ)
later_or None sooner = sooner
later_or (Some later) sooner = Some later

-- the latest copy of a page
abbrev pub latest_copy : ℕ → List Copy → Option (List ℕ)
latest_copy page [] = None
latest_copy page (c ∷ copies) = later_or (latest_copy page copies) (if c.page == page then Some c.numbers else None)

-- the latest copies of n pages from a page on
abbrev pub latest_copies : List Copy → ℕ → ℕ → List (Option (List ℕ))
latest_copies copies page zero = []
latest_copies copies page (suc n) = latest_copy page copies ∷ latest_copies copies (page + 1) n

abbrev pub latest_moment : Copy → List Copy → ℕ
latest_moment c [] = c.moment
latest_moment c (d ∷ copies) = latest_moment d copies

-- the list of a run at t: there if the latest moment is less than 25,000 ms before t, and each page from 0 to the last is there
abbrev pub list_of_run : ℕ → List Copy → Option (List ℕ)
list_of_run t [] = None
list_of_run t (c ∷ copies) =
    if nat_lt (t - latest_moment c copies) FORGOTTEN_AFTER then option_map ascending (joined (latest_copies (c ∷ copies) 0 (c.last + 1))) else None

-- the known list at t
abbrev pub list_by_pages : ℕ → List Copy → Option (List ℕ)
list_by_pages t copies = list_of_run t (longest_run copies)

-- the moment of the latest page, where it is less than 25,000 ms before t
abbrev pub fresh_moment : ℕ → List Copy → Option ℕ
fresh_moment t [] = None
fresh_moment t (c ∷ copies) = if nat_lt (t - latest_moment c copies) FORGOTTEN_AFTER then Some (latest_moment c copies) else None

-- ---- runs of calls on one collector

-- a call, with the moment that it hands in
pub data Call : Type 0 where
  Accepted : ℕ → Page → Call
  Refused : ℕ → Page → Call
  Expire : ℕ → Call
  ListOf : ℕ → List ℕ → Call

abbrev pub moment_of : Call → ℕ
moment_of (Accepted now p) = now
moment_of (Refused now p) = now
moment_of (Expire now) = now
moment_of (ListOf now cid) = now

abbrev pub after : Call → State → State
after (Accepted now p) s = after_take now p s
after (Refused now p) s = after_expire now s
after (Expire now) s = after_expire now s
after (ListOf now cid) s = after_expire now s

abbrev pub after_all : List Call → State → State
after_all [] s = s
after_all (call ∷ calls) s = after_all calls (after call s)

-- what a call at t accepts from a CID
abbrev pub copy_in : List ℕ → ℕ → Call → List Copy
copy_in cid t (Accepted now p) = if eq_by_cmp (slice_cmp nat_cmp) cid p.cid then record { page = p.page; last = p.last; numbers = p.numbers; moment = t } ∷ [] else []
copy_in cid t (Refused now p) = []
copy_in cid t (Expire now) = []
copy_in cid t (ListOf now other) = []

-- the pages accepted from a CID, each with its moment in use
abbrev pub copies_in : List ℕ → ℕ → List Call → List Copy
copies_in cid t [] = []
copies_in cid t (call ∷ calls) = copy_in cid (max t (moment_of call)) call ++ copies_in cid (max t (moment_of call)) calls

-- the greatest moment handed in
abbrev pub moment_after : ℕ → List Call → ℕ
moment_after t [] = t
moment_after t (call ∷ calls) = moment_after (max t (moment_of call)) calls

abbrev pub IsPageCall : Call → Type 0
IsPageCall (Accepted now p) = p.page ≤ p.last
IsPageCall (Refused now p) = ⊤
IsPageCall (Expire now) = ⊤
IsPageCall (ListOf now cid) = ⊤

-- pages are at most their last page
abbrev pub ArePages : List Call → Type 0
ArePages calls = AllByRecursion IsPageCall calls

-- after any calls the list of a CID is that of the pages accepted from it
abbrev pub ListIsThatOfThePages : Type 0
ListIsThatOfThePages =
    (calls : List Call) (now : ℕ) (cid : List ℕ) → ArePages calls
    → known_list (after_expire now (after_all calls nothing_known)) cid ≡ list_by_pages (max (moment_after 0 calls) now) (copies_in cid 0 calls)

-- the moment of the latest page that is kept of a CID
abbrev pub kept_moment : State → List ℕ → Option ℕ
kept_moment s cid = option_map (λ known. known.moment) (get s.sources cid)

-- after any calls the sources kept are those whose latest accepted page is less than 25,000 ms old
abbrev pub SourcesAreTheFreshOnes : Type 0
SourcesAreTheFreshOnes =
    (calls : List Call) (now : ℕ) (cid : List ℕ) → ArePages calls
    → kept_moment (after_expire now (after_all calls nothing_known)) cid ≡ fresh_moment (max (moment_after 0 calls) now) (copies_in cid 0 calls)

-- ---- the sources that a call forgets

-- whether a CID is among some
abbrev pub has_cid : List (List ℕ) → List ℕ → Bool
has_cid cids cid = list_any (λ other. eq_by_cmp (slice_cmp nat_cmp) other cid) cids

abbrev pub with_sender : Call → List (List ℕ) → List (List ℕ)
with_sender (Accepted now p) cids = if has_cid cids p.cid then cids else p.cid ∷ cids
with_sender (Refused now p) cids = cids
with_sender (Expire now) cids = cids
with_sender (ListOf now cid) cids = cids

-- the CIDs from which pages were accepted, each once
abbrev pub senders : List Call → List (List ℕ)
senders [] = []
senders (call ∷ calls) = with_sender call (senders calls)

abbrev pub is_there : Option ℕ → Bool
is_there None = false
is_there (Some moment) = true

-- the latest page is 25,000 ms or more before u, and was less than that before t
abbrev pub gets_old : ℕ → ℕ → List Copy → Bool
gets_old t u copies = is_there (fresh_moment t copies) && not (is_there (fresh_moment u copies))

-- what `expire` answers: how many sources it forgets
abbrev pub forgotten : ℕ → State → ℕ
forgotten now s = len s.sources - len (after_expire now s).sources

-- after any calls, `expire` answers how many CIDs there are whose latest accepted page is now 25,000 ms old or older, and was not so at the call before
abbrev pub ExpiryCountsThoseThatGetOld : Type 0
ExpiryCountsThoseThatGetOld =
    (calls : List Call) (now : ℕ) → ArePages calls
    → forgotten now (after_all calls nothing_known)
    ≡ count_by (λ cid. gets_old (moment_after 0 calls) (max (moment_after 0 calls) now) (copies_in cid 0 calls)) (senders calls)
