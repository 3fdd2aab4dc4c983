-- The incidents have as many deeds as were taken.
use Rattle.std.proofs.Common.{◌≡◌, ◌<◌, ◌+◌, ◌^◌, ◌-◌, true, false, cond, List, [], ◌∷◌, ◌++◌, length, drop, slice_get, refl, ap, ◌∙◌, arith}
use Rattle.sacn_incidents.specs.declared.deed.Deed.{Deed}
use Rattle.sacn_incidents.specs.declared.incident.Incident.{Incident}
use Rattle.sacn_incidents.specs.Gathering.{after_pass, begun, given_by_pass, given_for, joined, left_for, takes, with_deed}
use Rattle.sacn_incidents.specs.Calls.{Finish, NothingIsToldTwice, Pass, Take, deeds_in, deeds_of, incidents_of, listed, open_after, told_by}
use Rattle.sacn_incidents.proofs.Covering.{all_of, oldest_apart, passed_apart, taken_apart}

deeds_in-append : (xs ys : List Incident) → deeds_in (xs ++ ys) ≡ deeds_in xs + deeds_in ys
deeds_in-append [] ys = omega arith
deeds_in-append (x ∷ xs) ys = let rest : deeds_in (xs ++ ys) ≡ deeds_in xs + deeds_in ys = deeds_in-append xs ys in omega (arith, rest)

one_more : (d : Deed) (i : Incident) → i.times < 2 ^ 64 - 1 → (joined d i).times ≡ i.times + 1
unfolding joined
one_more d i low = omega (arith, low)

begins_one : (d : Deed) → (begun d).times ≡ 1
unfolding begun
begins_one d = refl

deeds_with : (d : Deed) (is : List Incident) → deeds_in is < 2 ^ 64 - 1 → deeds_in (with_deed d is) ≡ deeds_in is + 1
deeds_with d [] low = let one : (begun d).times ≡ 1 = begins_one d in omega (arith, one)
deeds_with d (i ∷ is) low =
    elim (takes d i) as (λ b. deeds_in (cond b (joined d i ∷ is) (i ∷ with_deed d is)) ≡ deeds_in (i ∷ is) + 1) [
      | true ↦ let one : (joined d i).times ≡ i.times + 1 = one_more d i (omega (arith, low)) in omega (arith, one)
      | false ↦ let rest : deeds_in (with_deed d is) ≡ deeds_in is + 1 = deeds_with d is (omega (arith, low)) in omega (arith, rest)
    ]

pub told_once : NothingIsToldTwice
told_once [] low = refl
told_once (Take d ∷ earlier) low =
    let before : List Incident = open_after earlier in
    let left : List Incident = left_for d before in
    let told : List Incident = told_by earlier ++ listed (given_for d before) in
    let so_far : deeds_in (incidents_of earlier) ≡ length (deeds_of earlier) = told_once earlier (omega (arith, low)) in
    let same : deeds_in (told ++ left) ≡ deeds_in (incidents_of earlier) =
    ap deeds_in (all_of (told_by earlier) (listed (given_for d before)) left before (taken_apart d before)) in
    let parts : deeds_in (told ++ left) ≡ deeds_in told + deeds_in left = deeds_in-append told left in
    let more : deeds_in (with_deed d left) ≡ deeds_in left + 1 = deeds_with d left (omega (arith, low, so_far, same, parts)) in
    let all : deeds_in (told ++ with_deed d left) ≡ deeds_in told + deeds_in (with_deed d left) = deeds_in-append told (with_deed d left) in
    omega (arith, so_far, same, parts, more, all)
told_once (Pass now ∷ earlier) low =
    let before : List Incident = open_after earlier in
    ap deeds_in (all_of (told_by earlier) (listed (given_by_pass now before)) (after_pass now before) before (passed_apart now before)) ∙ told_once earlier low
told_once (Finish ∷ earlier) low =
    let before : List Incident = open_after earlier in
    ap deeds_in (all_of (told_by earlier) (listed (slice_get before 0)) (drop 1 before) before (oldest_apart before)) ∙ told_once earlier low
