-- By which numbers packets come: the turns that left out a number, and the packets in a row that have one.
use Rattle.std.proofs.Common.{◌≡◌, ℕ, ◌+◌, ◌%◌, Bool, true, false, not, ◌&&◌, ◌==◌, nat_lt, cond, List, [], ◌∷◌, min, refl, sym, ap, ◌∙◌, arith}
use Rattle.std.proofs.lemmas.Bool.{eqb-true}
use Rattle.std.proofs.lemmas.Bool.Decides.{nat_tests}
use Rattle.sacn_audit.specs.declared.number_habits.NumberHabits.{NumberHabits}
use Rattle.sacn_audit.specs.Arrivals.{Arrival, follows, in_a_row, number_after, passes_one, turns_without}
use Rattle.sacn_audit.specs.Rules.{keeps_number, leaves_number_out}
use Rattle.sacn_audit.specs.Audits.{first_habits, habits_after, same_after, turns_after}

-- the latest number that was passed over alone
abbrev pub left_out_by : List Arrival → ℕ
left_out_by [] = 0
left_out_by (x ∷ []) = 0
left_out_by (x ∷ y ∷ earlier) = cond (passes_one y.packet x.packet) (number_after y.packet.number) (left_out_by (y ∷ earlier))

-- the habits that a list has
abbrev pub habits_of : Arrival → List Arrival → NumberHabits
habits_of x earlier = record {
  left_out = left_out_by (x ∷ earlier);
  turns = min (turns_without (left_out_by (x ∷ earlier)) (x ∷ earlier)) 3;
  same = min (in_a_row x.packet.number (x ∷ earlier)) 4;
}

itself : (n : ℕ) → (n == n) ≡ true
itself n = grind (arith, nat_tests)

turned : (a b : ℕ) → (a == b) ≡ false → (b == a) ≡ false
turned a b e = grind (arith, nat_tests)

-- a number that passes over another one doesn't come next
not_next : (a b : ℕ) → (a == number_after (number_after b)) ≡ true → (a == number_after b) ≡ false
not_next a b e = grind (arith, nat_tests)

-- ---- of a number that wasn't the latest one there are no turns

neither : (other next has : Bool) (one more : ℕ) → other ≡ false → next ≡ false → cond other one (cond (next && has) more 0) ≡ 0
neither true next has one more e f = absurd cc
neither false true has one more e f = absurd cc
neither false false has one more e f = refl

nothing : (b : Bool) (more : ℕ) → more ≡ 0 → cond b more 0 ≡ 0
nothing true more e = e
nothing false more e = refl

no_turns_by : (passes : Bool) (n here latest : ℕ) (next has : Bool) (one more : ℕ) → (passes ≡ true → next ≡ false) → (n == cond passes here latest) ≡ false → ((n == latest) ≡ false → more ≡ 0) → cond (passes && (here == n)) one (cond (next && has) more 0) ≡ 0
no_turns_by true n here latest next has one more apart e rest = neither (here == n) next has one more (turned n here e) (apart refl)
no_turns_by false n here latest next has one more apart e rest = nothing (next && has) more (rest e)

no_turns : (n : ℕ) (xs : List Arrival) → (n == left_out_by xs) ≡ false → turns_without n xs ≡ 0
no_turns n [] e = refl
no_turns n (x ∷ []) e = refl
no_turns n (x ∷ y ∷ earlier) e =
    no_turns_by (passes_one y.packet x.packet) n (number_after y.packet.number) (left_out_by (y ∷ earlier)) (follows y.packet x.packet) (not (x.packet.number == n))
    (1 + turns_without n (y ∷ earlier)) (turns_without n (y ∷ earlier))
    (not_next x.packet.number y.packet.number) e (no_turns n (y ∷ earlier))

-- ---- a packet more

one_turn : (n : ℕ) → min (min n 3 + 1) 3 ≡ min (1 + n) 3
one_turn n = omega arith

first_turn : (n : ℕ) → n ≡ 0 → 1 ≡ min (1 + n) 3
first_turn n e = omega arith

one_copy : (n : ℕ) → min (min n 4 + 1) 4 ≡ min (1 + n) 4
one_copy n = omega arith

capped : (b : Bool) (n : ℕ) → cond b (min n 3) 0 ≡ min (cond b n 0) 3
capped true n = refl
capped false n = refl

three : (n : ℕ) → (min n 3 == 3) ≡ nat_lt 2 n
three n = grind (arith, nat_tests)

four : (n : ℕ) → (min n 4 == 4) ≡ nat_lt 3 n
four n = grind (arith, nat_tests)

module _ (x y : Arrival) (earlier : List Arrival) where
  abbrev ys : List Arrival
  ys = y ∷ earlier

  -- the number between the two, and the one that was left out before
  abbrev here : ℕ
  here = number_after y.packet.number

  abbrev latest : ℕ
  latest = left_out_by ys

  same_turn : (same : Bool) → (here == latest) ≡ same → cond same (min (min (turns_without latest ys) 3 + 1) 3) 1 ≡ min (1 + turns_without here ys) 3
  same_turn true e = one_turn (turns_without latest ys) ∙ ap (λ (n : ℕ). min (1 + turns_without n ys) 3) (sym (eqb-true here latest e))
  same_turn false e = first_turn (turns_without here ys) (no_turns here ys e)

  abbrev turns_if : Bool → ℕ
  turns_if passes = cond passes (cond (here == latest) (min (min (turns_without latest ys) 3 + 1) 3) 1) (cond (follows y.packet x.packet && not (x.packet.number == latest)) (min (turns_without latest ys) 3) 0)

  abbrev turned_if : Bool → ℕ → ℕ
  turned_if passes n = cond (passes && (here == n)) (1 + turns_without n ys) (cond (follows y.packet x.packet && not (x.packet.number == n)) (turns_without n ys) 0)

  turns_by : (passes : Bool) → turns_if passes ≡ min (turned_if passes (cond passes here latest)) 3
  turns_by true =
      same_turn (here == latest) refl
      ∙ ap (λ (b : Bool). min (cond b (1 + turns_without here ys) (cond (follows y.packet x.packet && not (x.packet.number == here)) (turns_without here ys) 0)) 3) (sym (itself here))
  turns_by false = capped (follows y.packet x.packet && not (x.packet.number == latest)) (turns_without latest ys)

  same_by : (same : Bool) → (x.packet.number == y.packet.number) ≡ same → cond same (min (min (in_a_row y.packet.number ys) 4 + 1) 4) 1 ≡ min (1 + in_a_row x.packet.number ys) 4
  same_by true e = one_copy (in_a_row y.packet.number ys) ∙ ap (λ (n : ℕ). min (1 + in_a_row n ys) 4) (sym (eqb-true x.packet.number y.packet.number e))
  same_by false e = ap (λ (b : Bool). min (1 + cond b (1 + in_a_row x.packet.number earlier) 0) 4) (sym (turned x.packet.number y.packet.number e))

  pub counted_more : habits_after y.packet.number x.packet.number (habits_of y earlier) ≡ habits_of x ys
  counted_more =
      let turns = turns_by (passes_one y.packet x.packet) in
      let same = same_by (x.packet.number == y.packet.number) refl ∙ ap (λ (b : Bool). min (cond b (1 + in_a_row x.packet.number ys) 0) 4) (sym (itself x.packet.number)) in
      λ i. record { left_out = left_out_by (x ∷ ys); turns = turns i; same = same i }

  leaves_by : (passes : Bool) → passes && (min (turns_without (cond passes here latest) (x ∷ ys)) 3 == 3) ≡ passes && nat_lt 2 (turns_without here (x ∷ ys))
  leaves_by true = three (turns_without here (x ∷ ys))
  leaves_by false = refl

  pub leaves : passes_one y.packet x.packet && ((habits_of x ys).turns == 3) ≡ leaves_number_out (x ∷ ys)
  leaves = leaves_by (passes_one y.packet x.packet)

pub stays : (x : Arrival) (earlier : List Arrival) → ((habits_of x earlier).same == 4) ≡ keeps_number (x ∷ earlier)
stays x earlier = four (in_a_row x.packet.number (x ∷ earlier))

-- ---- the first packet

alone : (b : Bool) → b ≡ true → 1 ≡ min (cond b 1 0) 4
alone true e = refl
alone false e = absurd cc

few : (b : Bool) → nat_lt 3 (cond b 1 0) ≡ false
few true = refl
few false = refl

pub first_counted : (x : Arrival) → first_habits ≡ habits_of x []
first_counted x =
    let same = alone (x.packet.number == x.packet.number) (itself x.packet.number) in
    λ i. record { left_out = 0; turns = 0; same = same i }

pub first_stays_not : (x : Arrival) → keeps_number (x ∷ []) ≡ false
first_stays_not x = few (x.packet.number == x.packet.number)
