-- What is left of a tape over memory once a record is passed.
use Rattle.std.proofs.Common.{◌≡◌, ℕ, ◌+◌, ◌≤◌, List, [], ◌∷◌, drop, length, map, refl, sym, ap, ◌∙◌}
use Rattle.std.proofs.lemmas.List.{at_drop_all, drop-drop}
use Rattle.sacn_replay.specs.declared.memory.MemoryRecord.{MemoryRecord}
use Rattle.sacn_replay.specs.Playing.{Recorded}
use Rattle.sacn_replay.specs.Reels.{Reel, passed}
use Rattle.sacn_replay.specs.MemoryTapes.{recorded, reel_of}

passed_at : (whole left next : List Recorded) → next ≡ drop 1 left → record { whole = whole; left = next } ≡ passed (record { whole = whole; left = left })
passed_at whole left next is = λ i. let reel : Reel = record { whole = whole; left = is i } in reel

drop_one : (rs : List MemoryRecord) → map recorded (drop 1 rs) ≡ drop 1 (map recorded rs)
drop_one [] = refl
drop_one (r ∷ rs) = refl

pub passes : (rs : List MemoryRecord) (i : ℕ) → reel_of (i + 1) rs ≡ passed (reel_of i rs)
passes rs i =
    passed_at (map recorded rs) (map recorded (drop i rs)) (map recorded (drop (i + 1) rs)) (ap (map recorded) (sym (drop-drop 1 i rs)) ∙ drop_one (drop i rs))

-- none is left to pass
pub stays : (rs : List MemoryRecord) (i : ℕ) → length rs ≤ i → reel_of i rs ≡ passed (reel_of i rs)
stays rs i all =
    let none : map recorded (drop i rs) ≡ [] = at_drop_all (λ (ts : List MemoryRecord). map recorded ts) rs i all in
    passed_at (map recorded rs) (map recorded (drop i rs)) (map recorded (drop i rs)) (none ∙ sym (ap (drop 1) none))
