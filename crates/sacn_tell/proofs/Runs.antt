-- The runs of numbers, where a number is put behind one.
use Rattle.std.proofs.Common.{◌≡◌, ℕ, ◌+◌, ◌==◌, Bool, true, false, cond, List, [], ◌∷◌, ◌++◌, codes, refl, sym, ap, ◌∙◌, append_assoc}
use Rattle.std.specs.List.{flat_map}
use Rattle.sacn_tell.specs.declared.numbers.Run.{Run}
use Rattle.sacn_tell.specs.Numbers.{begun_at, one_number, run_text, runs, runs_from, runs_text}

begun_twice : (a b : ℕ) (rs : List Run) → begun_at a (begun_at b rs) ≡ begun_at a rs
begun_twice a b [] = refl
begun_twice a b (r ∷ rs) = refl

begun_or : (n : ℕ) (b : Bool) (rs : List Run) → begun_at n (cond b (begun_at n rs) (one_number n ∷ rs)) ≡ cond b (begun_at n rs) (one_number n ∷ rs)
begun_or n true rs = begun_twice n n rs
begun_or n false rs = refl

-- the runs of numbers begin at the first of them
pub begun_there : (n : ℕ) (ns : List ℕ) → begun_at n (runs (n ∷ ns)) ≡ runs (n ∷ ns)
begun_there n [] = refl
begun_there n (m ∷ ns) = begun_or n (m == n + 1) (runs (m ∷ ns))

-- a number that is the next one
pub gone_on : (run : Run) (n : ℕ) (ns : List ℕ) → (n == run.last + 1) ≡ true → runs_from (record { first = run.first; last = n }) ns ≡ runs_from run (n ∷ ns)
gone_on run n ns next =
    sym (ap (λ (b : Bool). begun_at run.first (cond b (begun_at run.last (runs (n ∷ ns))) (one_number run.last ∷ runs (n ∷ ns)))) next ∙ begun_twice run.first run.last (runs (n ∷ ns)))

begins_or : (n : ℕ) (b : Bool) (x : Run) (xs rs : List Run) → rs ≡ x ∷ xs → (y : Run) × (ys : List Run) × (cond b (begun_at n rs) (one_number n ∷ rs) ≡ y ∷ ys)
begins_or n true x xs rs is = (record { first = n; last = x.last }, xs, ap (begun_at n) is)
begins_or n false x xs rs is = (one_number n, rs, refl)

-- there is a first run
begins : (n : ℕ) (ns : List ℕ) → (x : Run) × (xs : List Run) × (runs (n ∷ ns) ≡ x ∷ xs)
begins n [] = (one_number n, [], refl)
begins n (m ∷ ns) = let more = begins m ns in begins_or n (m == n + 1) more.0 more.1 (runs (m ∷ ns)) more.2

comma : (a b c d : List ℕ) → ((a ++ b) ++ c) ++ d ≡ a ++ (b ++ (c ++ d))
comma a b c d = append_assoc (a ++ b) c d ∙ append_assoc a b (c ++ d)

abbrev behind : List Run → List ℕ
behind rs = flat_map (λ r. codes ", " ++ run_text r) rs

one_more : (old : List ℕ) (run x : Run) (xs rs : List Run) → rs ≡ x ∷ xs → ((old ++ run_text run) ++ codes ", ") ++ runs_text rs ≡ old ++ runs_text (run ∷ rs)
one_more old run x xs rs is =
    ap (λ (l : List Run). ((old ++ run_text run) ++ codes ", ") ++ runs_text l) is
    ∙ comma old (run_text run) (codes ", ") (run_text x ++ behind xs)
    ∙ ap (λ (t : List ℕ). old ++ (run_text run ++ t)) (sym (append_assoc (codes ", ") (run_text x) (behind xs)))
    ∙ sym (ap (λ (l : List Run). old ++ runs_text (run ∷ l)) is)

-- a number that isn't: the run ends, and the number begins another
pub ended : (old mid new : List ℕ) (run now : Run) (n : ℕ) (ns : List ℕ) → (n == run.last + 1) ≡ false → now.first ≡ n → now.last ≡ n
    → mid ≡ old ++ run_text run → new ≡ mid ++ codes ", " → new ++ runs_text (runs_from now ns) ≡ old ++ runs_text (runs_from run (n ∷ ns))
ended old mid new run now n ns other first last wrote then =
    let more = begins n ns in
    ap (λ (t : List ℕ). t ++ runs_text (runs_from now ns)) (then ∙ ap (λ (t : List ℕ). t ++ codes ", ") wrote)
    ∙ ap (λ (k : ℕ). ((old ++ run_text run) ++ codes ", ") ++ runs_text (begun_at k (runs (now.last ∷ ns)))) first
    ∙ ap (λ (k : ℕ). ((old ++ run_text run) ++ codes ", ") ++ runs_text (begun_at n (runs (k ∷ ns)))) last
    ∙ ap (λ (rs : List Run). ((old ++ run_text run) ++ codes ", ") ++ runs_text rs) (begun_there n ns)
    ∙ one_more old run more.0 more.1 (runs (n ∷ ns)) more.2
    ∙ sym (ap (λ (b : Bool). old ++ runs_text (begun_at run.first (cond b (begun_at run.last (runs (n ∷ ns))) (one_number run.last ∷ runs (n ∷ ns))))) other)

-- a number by itself begins its run
pub started : (text : List ℕ) (run : Run) (n : ℕ) (ns : List ℕ) → run.first ≡ n → run.last ≡ n → text ++ runs_text (runs_from run ns) ≡ text ++ runs_text (runs (n ∷ ns))
started text run n ns first last =
    ap (λ (k : ℕ). text ++ runs_text (begun_at k (runs (run.last ∷ ns)))) first
    ∙ ap (λ (k : ℕ). text ++ runs_text (begun_at n (runs (k ∷ ns)))) last
    ∙ ap (λ (rs : List Run). text ++ runs_text rs) (begun_there n ns)
