-- Texts that are read line by line (profile).
use Rattle.std.specs.Prelude.{◌==◌, ℕ, ◌+◌, Bool, true, List, [], ◌∷◌, ◌++◌, map, Result, Ok, Err, slice_index, if◌then◌else◌}
use Rattle.std.specs.Str.Lines.{lines}
use Rattle.sacn_files.specs.Words.{words}
use Rattle.sacn_files.specs.declared.lines.Line.{Line}

-- a line that says nothing: it has no words, or its first begins with #
abbrev pub is_skipped : List (List ℕ) → Bool
is_skipped [] = true
is_skipped (w ∷ ws) = slice_index w 0 == 35

-- a line's number and words
abbrev pub Said : Type 0
Said = ℕ × List (List ℕ)

abbrev pub said : Line → Said
said l = (l.number, map (λ w. w.now) l.words.items)

-- one more line, if it says something
abbrev pub saying : List Said → ℕ → List (List ℕ) → List Said
saying done number ws = if is_skipped ws then done else done ++ (number, ws) ∷ []

-- the lines that say something, the first of all having this number
abbrev pub said_after : List Said → ℕ → List (List ℕ) → List Said
said_after done number [] = done
said_after done number (l ∷ ls) = said_after (saying done number (words l)) (number + 1) ls

abbrev pub said_lines : List ℕ → List Said
said_lines text = said_after [] 1 (lines text)

-- an entry in front of those of the later lines
abbrev pub before : {E F : Type 0} → Result E F → Result (List E) F → Result (List E) F
before (Err fault) later = Err fault
before (Ok entry) (Err fault) = Err fault
before (Ok entry) (Ok entries) = Ok (entry ∷ entries)

-- what each line that says something gives, or the fault of the first faulty one
abbrev pub entries_of : {E F : Type 0} → (ℕ → List (List ℕ) → Result E F) → List Said → Result (List E) F
entries_of read [] = Ok []
entries_of read (l ∷ ls) = before (read l.0 l.1) (entries_of read ls)

-- the entries of a text, or the first fault
abbrev pub entries_in : {E F : Type 0} → (ℕ → List (List ℕ) → Result E F) → List ℕ → Result (List E) F
entries_in read text = entries_of read (said_lines text)

-- entries in front of those of the later lines
abbrev pub after_entries : {E F : Type 0} → List E → Result (List E) F → Result (List E) F
after_entries done (Err fault) = Err fault
after_entries done (Ok later) = Ok (done ++ later)
