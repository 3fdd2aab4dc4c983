-- Lists of numbers: in runs, as 1-3, 5, and with commas between them.
use Rattle.std.specs.Prelude.{ℕ, ◌+◌, ◌==◌, List, [], ◌∷◌, ◌++◌, codes, decimal, if◌then◌else◌}
use Rattle.std.specs.List.{join_by}
use Rattle.sacn_tell.specs.Members.{key_text}
use Rattle.sacn_tell.specs.declared.numbers.Run.{Run}

abbrev pub one_number : ℕ → Run
one_number n = record { first = n; last = n }

-- the first of these runs, begun at n
abbrev pub begun_at : ℕ → List Run → List Run
begun_at n [] = []
begun_at n (r ∷ rs) = record { first = n; last = r.last } ∷ rs

-- numbers in runs: one that the next follows begins the run of that one, and any other is a run by itself
abbrev pub runs : List ℕ → List Run
runs [] = []
runs (n ∷ []) = one_number n ∷ []
runs (n ∷ m ∷ ns) = if m == n + 1 then begun_at n (runs (m ∷ ns)) else one_number n ∷ runs (m ∷ ns)

-- a number, or a first and a last one
unfoldable pub run_text : Run → List ℕ
run_text r = if r.first == r.last then decimal r.first else decimal r.first ++ (codes "-" ++ decimal r.last)

-- the runs with commas between them; a dash where there is none
abbrev pub runs_text : List Run → List ℕ
runs_text [] = codes "-"
runs_text (r ∷ rs) = join_by run_text (codes ", ") (r ∷ rs)

abbrev pub ranges_text : List ℕ → List ℕ
ranges_text numbers = runs_text (runs numbers)

-- the runs of the numbers of this one and of others behind them
abbrev pub runs_from : Run → List ℕ → List Run
runs_from r ns = begun_at r.first (runs (r.last ∷ ns))

-- numbers with commas between them
abbrev pub number_list : List ℕ → List ℕ
number_list numbers = join_by decimal (codes ",") numbers

-- a member that is a list of numbers
unfoldable pub numbers_member : List ℕ → List ℕ → List ℕ
numbers_member key numbers = key_text key ++ (codes "[" ++ (number_list numbers ++ codes "]"))
