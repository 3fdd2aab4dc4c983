-- What an order answers, and what it makes of the universes.
use Rattle.std.proofs.Common.{◌≡◌, ℕ, ◌<◌, ◌≤◌, Bool, true, false, ◌&&◌, ◌==◌, nat_lt, nat_le, List, [], ◌∷◌, length, get_or, slice_set, map, find, Some, None, Result, Ok, Err, suc, zero, refl, arith, ap, sym, ◌∙◌}
use Rattle.std.proofs.lemmas.Bool.Decides.{nat_tests}
use Rattle.sacn_packets.specs.Universe.{Rising}
use Rattle.sacn_console.specs.declared.line.State.TheVariants.{Running}
use Rattle.sacn_source.specs.declared.source_universe.SourceUniverse.{SourceUniverse}
use Rattle.sacn_source.specs.declared.fault.SourceFault.{SourceFault}
use Rattle.sacn_source.specs.declared.fault.SourceFault.TheVariants as fault
use Rattle.sacn_source.specs.Rows.{row_in, new_row, end_answer, add_answer}
use Rattle.sacn_source.specs.Table.{Table, Add, SetLevels, SetPriority, End, universes_of, is_of, row_at, no_row, on, changed, with_universe, room_answer, unless, answer, kept_or, taken}
use Rattle.sacn_source.proofs.Changes.{below_all}

lt_true : (a b : ℕ) → a < b → nat_lt a b ≡ true
lt_true a b h = grind (arith, nat_tests)

lt_false : (a b : ℕ) → b ≤ a → nat_lt a b ≡ false
lt_false a b h = grind (arith, nat_tests)

eqb_other : (a b : ℕ) → a < b → (b == a) ≡ false
eqb_other a b h = grind (arith, nat_tests)

eqb_of : (a b : ℕ) → a ≡ b → (b == a) ≡ true
eqb_of a b h = grind (arith, nat_tests)

-- ---- a new universe

both_true : (a b : Bool) → (a && b) ≡ true → (a ≡ true) × (b ≡ true)
both_true true true e = (refl, refl)
both_true true false e = absurd (cc)
both_true false b e = absurd (cc)

is_le : (a b : ℕ) → nat_le a b ≡ true → a ≤ b
is_le a b h = grind (arith, nat_tests)

pub in_range : (u : ℕ) (b : Bool) → b ≡ (nat_le 1 u && nat_le u 63999) → b ≡ true → (1 ≤ u) × (u ≤ 63999)
in_range u b tells h =
    let both = both_true (nat_le 1 u) (nat_le u 63999) (sym tells ∙ h) in
    (is_le 1 u both.0, is_le u 63999 both.1)

module _ (t : Table) (u : ℕ) (b : Bool) (tells : b ≡ (nat_le 1 u && nat_le u 63999)) where
  pub add_outside : b ≡ false → answer (Add u) t ≡ Err fault.BadUniverse
  unfolding answer
  add_outside h = rw (← tells, h) refl

  pub add_known : (i : ℕ) → b ≡ true → find (is_of u) t.rows ≡ Some (row_at t i) → answer (Add u) t ≡ add_answer (row_at t i).line.state
  unfolding answer
  add_known i h e = rw (← tells, h, e) refl

  pub add_unknown : b ≡ true → find (is_of u) t.rows ≡ None → answer (Add u) t ≡ room_answer t
  unfolding answer
  add_unknown h e = rw (← tells, h, e) refl

pub room_more : (t : Table) (b : Bool) → b ≡ nat_lt (length t.rows) t.room → b ≡ true → room_answer t ≡ Ok tt
room_more t b tells h = rw (← tells, h) refl

pub room_none : (t : Table) (b : Bool) → b ≡ nat_lt (length t.rows) t.room → b ≡ false → room_answer t ≡ Err fault.Full
room_none t b tells h = rw (← tells, h) refl

is_lt : (a b : ℕ) → nat_lt a b ≡ true → a < b
is_lt a b h = grind (arith, nat_tests)

pub room_there : (t : Table) (b : Bool) → b ≡ nat_lt (length t.rows) t.room → b ≡ true → length t.rows < t.room
room_there t b tells h = is_lt (length t.rows) t.room (sym tells ∙ h)

-- one that is there begins again
with_there : (n : SourceUniverse) (rs : List SourceUniverse) (i : ℕ) (d : SourceUniverse) → Rising (universes_of rs) → i < length rs → (get_or rs i d).line.universe ≡ n.line.universe → with_universe n rs ≡ slice_set rs i (row_in (Running None) (get_or rs i d))
with_there n [] i d rising lt e = absurd (omega arith)
with_there n (r ∷ rs) zero d rising lt e = rw (eqb_of r.line.universe n.line.universe e) refl
with_there n (r ∷ rs) (suc i) d rising lt e =
    let above : r.line.universe < n.line.universe = rw e at (below_all r.line.universe rs i d rising.0 (omega (arith, lt))) in
    rw (eqb_other r.line.universe n.line.universe above, lt_false n.line.universe r.line.universe (omega (arith, above))) (ap (λ (xs : List SourceUniverse). r ∷ xs) (with_there n rs i d rising.1 (omega (arith, lt)) e))

module _ (first priority : ℕ) where
  pub taken_begun : (t new : Table) (u i : ℕ) (r : Result (Unit {0}) SourceFault) → Rising (universes_of t.rows) → i < length t.rows → (row_at t i).line.universe ≡ u →
      new ≡ kept_or r (record { room = t.room; rows = slice_set t.rows i (row_in (Running None) (row_at t i)) }) t → new ≡ taken first priority (Add u) r t
  taken_begun t new u i (Err f) rising lt e is = is
  taken_begun t new u i (Ok x) rising lt e is =
      is ∙ ap (λ (rs : List SourceUniverse). let k : Table = record { room = t.room; rows = rs } in k) (sym (with_there (new_row first priority u) t.rows i no_row rising lt e))

  pub taken_admitted : (t new : Table) (u : ℕ) (n : SourceUniverse) (r : Result (Unit {0}) SourceFault) → n ≡ new_row first priority u → new ≡ kept_or r (record { room = t.room; rows = with_universe n t.rows }) t → new ≡ taken first priority (Add u) r t
  taken_admitted t new u n (Err f) e is = is
  taken_admitted t new u n (Ok x) e is = is ∙ ap (λ (m : SourceUniverse). let k : Table = record { room = t.room; rows = with_universe m t.rows } in k) e

-- ---- the others

pub unknown : (t : Table) (u p : ℕ) (levels : List ℕ) → find (is_of u) t.rows ≡ None →
    (answer (SetLevels u levels) t ≡ Err fault.NoUniverse) × (answer (SetPriority u p) t ≡ Err fault.NoUniverse) × (answer (End u) t ≡ Err fault.NoUniverse)
unfolding answer
unknown t u p levels e = (rw e refl, rw e refl, rw e refl)

levels_known : (t : Table) (u i : ℕ) (levels : List ℕ) → find (is_of u) t.rows ≡ Some (row_at t i) → answer (SetLevels u levels) t ≡ unless (nat_lt 512 (length levels)) fault.TooMany
unfolding answer
levels_known t u i levels e = rw e refl

pub levels_many : (t : Table) (u i : ℕ) (levels : List ℕ) → find (is_of u) t.rows ≡ Some (row_at t i) → 512 < length levels → answer (SetLevels u levels) t ≡ Err fault.TooMany
levels_many t u i levels e lt = levels_known t u i levels e ∙ rw (lt_true 512 (length levels) lt) refl

pub levels_few : (t : Table) (u i : ℕ) (levels : List ℕ) → find (is_of u) t.rows ≡ Some (row_at t i) → length levels ≤ 512 → answer (SetLevels u levels) t ≡ Ok tt
levels_few t u i levels e le = levels_known t u i levels e ∙ rw (lt_false 512 (length levels) le) refl

priority_known : (t : Table) (u i p : ℕ) → find (is_of u) t.rows ≡ Some (row_at t i) → answer (SetPriority u p) t ≡ unless (nat_lt 200 p) fault.BadPriority
unfolding answer
priority_known t u i p e = rw e refl

pub priority_high : (t : Table) (u i p : ℕ) → find (is_of u) t.rows ≡ Some (row_at t i) → 200 < p → answer (SetPriority u p) t ≡ Err fault.BadPriority
priority_high t u i p e lt = priority_known t u i p e ∙ rw (lt_true 200 p lt) refl

pub priority_low : (t : Table) (u i p : ℕ) → find (is_of u) t.rows ≡ Some (row_at t i) → p ≤ 200 → answer (SetPriority u p) t ≡ Ok tt
priority_low t u i p e le = priority_known t u i p e ∙ rw (lt_false 200 p le) refl

pub end_known : (t : Table) (u i : ℕ) → find (is_of u) t.rows ≡ Some (row_at t i) → answer (End u) t ≡ end_answer (row_at t i).line.state
unfolding answer
end_known t u i e = rw e refl

-- the row at the place of a universe, changed
pub changed_is : (t : Table) (i u : ℕ) (f : SourceUniverse → SourceUniverse) → (row_at t i).line.universe ≡ u → changed i f t ≡ record { room = t.room; rows = map (on u f) t.rows }
changed_is t i u f e = ap (λ (w : ℕ). let k : Table = record { room = t.room; rows = map (on w f) t.rows } in k) e
