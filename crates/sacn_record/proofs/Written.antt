-- Writes that end early.
use Rattle.std.proofs.Common.{◌≡◌, ℕ, ◌-◌, List, ◌++◌, Option, None, Some, length, take, drop, sym, ap, ◌∙◌, append_assoc, take-append-drop}
use Rattle.std.proofs.lemmas.List.{take_rest}
use Rattle.std.specs.Io.KnownBytes.{Appends, Keeps}
use Rattle.std.proofs.KnownBytes.{Appends-trans}
use Rattle.sacn_record.specs.Writing.{AppendsFront}

pub kept : (a b c : Option (List ℕ)) (done : List ℕ) → Appends a b done → Keeps b c → Appends a c done
kept None b c done p q = tt
kept (Some x) None c done p q = absurd p
kept (Some x) (Some y) None done p q = absurd q
kept (Some x) (Some y) (Some z) done p q = q ∙ p

split_more : (all done rest : List ℕ) (n : ℕ) → all ≡ done ++ rest → all ≡ (done ++ take n rest) ++ drop n rest
split_more all done rest n e = e ∙ ap (λ l. done ++ l) (sym (take-append-drop n rest)) ∙ sym (append_assoc done (take n rest) (drop n rest))

-- a write took so many more, and another follows
pub moved : (all done rest : List ℕ) (n : ℕ) → all ≡ done ++ rest → all ≡ (done ++ take n rest) ++ take (length rest - n) (drop n rest)
moved all done rest n e = split_more all done rest n e ∙ ap (λ l. (done ++ take n rest) ++ l) (sym (take_rest rest n))

-- a write took so many more, and none follows
pub stopped : (a b c : Option (List ℕ)) (all done rest : List ℕ) (n : ℕ) → all ≡ done ++ rest → Appends a b done → Appends b c (take n rest) → AppendsFront a c all
stopped a b c all done rest n split before more = (done ++ take n rest, drop n rest, split_more all done rest n split, Appends-trans a b c done (take n rest) before more)

-- a write failed
pub failed : (a b c : Option (List ℕ)) (all done rest : List ℕ) → all ≡ done ++ rest → Appends a b done → Keeps b c → AppendsFront a c all
failed a b c all done rest split before still = (done, rest, split, kept a b c done before still)
