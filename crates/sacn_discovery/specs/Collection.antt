-- What a collector keeps: per CID the last page number, the latest copy of each page, and the latest moment.
use Rattle.std.specs.Prelude.{ℕ, ◌+◌, ◌-◌, nat_lt, max, refl, Bool, false, List, [], ◌∷◌, ◌++◌, filter, map, replicate, slice_set, Option, Some, None, if◌then◌else◌, ◌==◌}
use Rattle.std.specs.Option.{option_map}
use Rattle.std.specs.Ordering.{nat_cmp}
use Rattle.std.specs.Str.{bytes_eq}
use Rattle.std.specs.Cmp.Lexicographic.{slice_cmp}
use Rattle.std.specs.FinMap.{FinMap, get, insert, entries, from_sorted}
use Rattle.std.specs.FinMap as finmap
use Rattle.std.specs.Coded.{Coded, code_by, coded×, coded_ℕ, coded_list, coded_option}
use Rattle.sacn_packets.specs.Page.{Page}
use Rattle.sacn_discovery.specs.declared.limits.TheConstants.{FORGOTTEN_AFTER}

-- what is kept of one CID: by page number the latest copy, where one came
pub record Known : Type 0 where
  pub last : ℕ
  pub pages : List (Option (List ℕ))
  pub moment : ℕ

abbrev pub Sources : Type 0
Sources = FinMap (slice_cmp nat_cmp) Known

-- the sources, and the greatest moment handed in
pub record State : Type 0 where
  pub sources : Sources
  pub moment : ℕ

-- at t the latest page is not too old
abbrev pub is_fresh : ℕ → Known → Bool
is_fresh t known = nat_lt (t - known.moment) FORGOTTEN_AFTER

unfoldable pub fresh : ℕ → Sources → Sources
fresh t sources = from_sorted (filter (λ e. is_fresh t e.1) (entries sources))

-- a page with nothing before it
abbrev pub first_page : ℕ → ℕ → ℕ → List ℕ → Known
first_page t page last numbers = record { last = last; pages = slice_set (replicate (last + 1) None) page (Some numbers); moment = t }

-- one page more, of the same last page number
abbrev pub one_more : ℕ → ℕ → List ℕ → Known → Known
one_more t page numbers known = record { last = known.last; pages = slice_set known.pages page (Some numbers); moment = t }

-- a page of another last page number drops the pages kept before
abbrev pub with_page : ℕ → ℕ → ℕ → List ℕ → Option Known → Known
with_page t page last numbers None = first_page t page last numbers
with_page t page last numbers (Some known) = if known.last == last then one_more t page numbers known else first_page t page last numbers

-- whether what is kept has this last page number
abbrev pub goes_on : ℕ → Option Known → Bool
goes_on last None = false
goes_on last (Some known) = known.last == last

-- ---- the steps of a collector

abbrev pub nothing_known : State
nothing_known = record { sources = finmap.empty; moment = 0 }

abbrev pub after_expire : ℕ → State → State
after_expire now s = let t = max s.moment now in record { sources = fresh t s.sources; moment = t }

abbrev pub with_source : List ℕ → Known → State → State
with_source cid known s = record { sources = insert s.sources cid known; moment = s.moment }

abbrev pub after_acceptance : Page → State → State
after_acceptance p s = with_source p.cid (with_page s.moment p.page p.last p.numbers (get s.sources p.cid)) s

abbrev pub after_take : ℕ → Page → State → State
after_take now p s = after_acceptance p (after_expire now s)

-- ---- the list of a CID

-- the numbers, ascending, each once
unfoldable pub ascending : List ℕ → List ℕ
ascending numbers = finmap.keys (finmap.from_entries {R = nat_cmp} (map (λ n. (n, tt {0})) numbers))

-- all pages, joined, where each is there
abbrev pub joined : List (Option (List ℕ)) → Option (List ℕ)
joined [] = Some []
joined (None ∷ pages) = None
joined (Some numbers ∷ pages) = option_map (λ rest. numbers ++ rest) (joined pages)

abbrev pub list_in : Known → Option (List ℕ)
list_in known = option_map ascending (joined known.pages)

abbrev pub list_for : Option Known → Option (List ℕ)
list_for None = None
list_for (Some known) = list_in known

abbrev pub known_list : State → List ℕ → Option (List ℕ)
known_list s cid = list_for (get s.sources cid)

-- a list, where it is another one than this
abbrev pub other_than : List ℕ → Option (List ℕ) → Option (List ℕ)
other_than known None = None
other_than known (Some list) = if bytes_eq list known then None else Some list

-- ---- codes

abbrev pub known_code : Coded Known
known_code = code_by (ℕ × (List (Option (List ℕ)) × ℕ)) (coded× coded_ℕ (coded× (coded_list (coded_option (coded_list coded_ℕ))) coded_ℕ)) (λ k. (k.last, (k.pages, k.moment))) (λ p. record { last = p.0; pages = p.1.0; moment = p.1.1 }) (λ _. refl)

abbrev pub state_code : Coded State
state_code = code_by (Sources × ℕ) (coded× (finmap.code (coded_list coded_ℕ) known_code) coded_ℕ) (λ s. (s.sources, s.moment)) (λ p. record { sources = p.0; moment = p.1 }) (λ _. refl)
