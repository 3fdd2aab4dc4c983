-- Lines that are read in turn, each by its words, with no list of those that say something.
use Rattle.std.proofs.Common.{◌≡◌, ◌+◌, ◌<◌, ℕ, true, false, Bool, List, [], ◌∷◌, ◌++◌, length, map, drop, get_or, append_assoc, append-nil, Bor, Result, Ok, Err, refl, ap, sym, ◌∙◌, if◌then◌else◌}
use Rattle.std.proofs.lemmas.List.{drop_more}
use Rattle.sacn_files.specs.Words.{words}
use Rattle.sacn_files.specs.Lines.{Said, is_skipped, said_after, entries_of, before, after_entries}

-- what says something, then what a line says
said_more : (skip : Bool) (done : List Said) (n : ℕ) (ws : List (List ℕ)) (later : List Said → List Said) → ((ds : List Said) → later ds ≡ ds ++ later [])
    → later (if skip then done else done ++ (n, ws) ∷ []) ≡ done ++ later (if skip then [] else [] ++ (n, ws) ∷ [])
said_more true done n ws later each = each done
said_more false done n ws later each =
    each (done ++ (n, ws) ∷ []) ∙ append_assoc done ((n, ws) ∷ []) (later []) ∙ ap (λ t. done ++ t) (sym (each ((n, ws) ∷ [])))

-- what says something of the lines so far stands in front of what does of those that are left
pub said_from : (done : List Said) (n : ℕ) (ls : List (List ℕ)) → said_after done n ls ≡ done ++ said_after [] n ls
said_from done n [] = sym (append-nil done)
said_from done n (l ∷ ls) = said_more (is_skipped (words l)) done n (words l) (λ ds. said_after ds (n + 1) ls) (λ ds. said_from ds (n + 1) ls)

skips : (n : ℕ) (l : List ℕ) (ls : List (List ℕ)) → is_skipped (words l) ≡ true → said_after [] n (l ∷ ls) ≡ said_after [] (n + 1) ls
skips n l ls h = rw h refl

says : (n : ℕ) (l : List ℕ) (ls : List (List ℕ)) → is_skipped (words l) ≡ false → said_after [] n (l ∷ ls) ≡ (n, words l) ∷ said_after [] (n + 1) ls
says n l ls h = rw h (said_from ((n, words l) ∷ []) (n + 1) ls)

-- what the lines from this place on say
abbrev pub said_in : List (Bor (List ℕ)) → ℕ → List Said
said_in lines i = said_after [] (i + 1) (map (λ t. t.now) (drop i lines))

first_in : (lines : List (Bor (List ℕ))) (i : ℕ) (line : Bor (List ℕ)) → i < length lines → line ≡ get_or lines i line
    → said_in lines i ≡ said_after [] (i + 1) (line.now ∷ map (λ t. t.now) (drop (i + 1) lines))
first_in lines i line lt is =
    ap (λ (xs : List (Bor (List ℕ))). said_after [] (i + 1) (map (λ t. t.now) xs)) (drop_more lines i line lt)
    ∙ ap (λ (x : Bor (List ℕ)). said_after [] (i + 1) (x.now ∷ map (λ t. t.now) (drop (i + 1) lines))) (sym is)

pub skips_in : (lines : List (Bor (List ℕ))) (i : ℕ) (line : Bor (List ℕ)) → i < length lines → line ≡ get_or lines i line
    → is_skipped (words line.now) ≡ true → said_in lines i ≡ said_in lines (i + 1)
skips_in lines i line lt is nothing = first_in lines i line lt is ∙ skips (i + 1) line.now (map (λ t. t.now) (drop (i + 1) lines)) nothing

pub says_in : (lines : List (Bor (List ℕ))) (i : ℕ) (line : Bor (List ℕ)) → i < length lines → line ≡ get_or lines i line
    → is_skipped (words line.now) ≡ false → said_in lines i ≡ (i + 1, words line.now) ∷ said_in lines (i + 1)
says_in lines i line lt is something = first_in lines i line lt is ∙ says (i + 1) line.now (map (λ t. t.now) (drop (i + 1) lines)) something

-- the entries so far, then those of the lines that are left, stay all as a line gives its entry
put_after : {E F : Type 0} (done : List E) (e : E) (later : Result (List E) F) → after_entries done (before (Ok e) later) ≡ after_entries (done ++ e ∷ []) later
put_after done e (Err fault) = refl
put_after done e (Ok later) = ap (λ xs. Ok xs) (sym (append_assoc done (e ∷ []) later))

pub line_read : {E F : Type 0} (read : ℕ → List (List ℕ) → Result E F) (all : Result (List E) F) (done more : List E) (e : E) (n : ℕ) (ws : List (List ℕ)) (here later : List Said)
    → here ≡ (n, ws) ∷ later → read n ws ≡ Ok e → more ≡ done ++ e ∷ []
    → all ≡ after_entries done (entries_of read here)
    → all ≡ after_entries more (entries_of read later)
line_read read all done more e n ws here later says gives pushed so_far =
    so_far
    ∙ ap (λ xs. after_entries done (entries_of read xs)) says
    ∙ ap (λ r. after_entries done (before r (entries_of read later))) gives
    ∙ put_after done e (entries_of read later)
    ∙ ap (λ es. after_entries es (entries_of read later)) (sym pushed)

-- the first line with a fault gives it for all
pub line_refused : {E F : Type 0} (read : ℕ → List (List ℕ) → Result E F) (all : Result (List E) F) (done : List E) (fault : F) (n : ℕ) (ws : List (List ℕ)) (here later : List Said)
    → here ≡ (n, ws) ∷ later → read n ws ≡ Err fault
    → all ≡ after_entries done (entries_of read here)
    → all ≡ Err fault
line_refused read all done fault n ws here later says gives so_far =
    so_far
    ∙ ap (λ xs. after_entries done (entries_of read xs)) says
    ∙ ap (λ r. after_entries done (before r (entries_of read later))) gives
