-- Each deed that was taken stays a part of an incident.
use Rattle.std.proofs.Common.{◌≡◌, ◌<◌, ◌≤◌, ℕ, zero, suc, nat_le, Bool, true, false, ◌&&◌, ◌||◌, cond, List, [], ◌∷◌, ◌++◌, length, get_or, drop, replicate, slice_get, None, Some, refl, sym, ap, ◌∙◌, arith, inl, inr, eq-eqb, ◌==◌, ◌-◌}
use Rattle.std.specs.Str.{bytes_eq}
use Rattle.std.specs.List.{All, list_any}
use Rattle.std.proofs.lemmas.Bool.{and_from, and_parts, le-leb, leb-true, or_cases, or_left, or_right}
use Rattle.std.proofs.lemmas.List.{append_assoc, get_or-set_same, length-replicate, length-set}
use Rattle.std.proofs.lemmas.List.Elements.{All-cons, All-drop, All-head, All-nil, All-tail, All-weaker}
use Rattle.std.proofs.lemmas.List.Folds.{list_any-append}
use Rattle.std.proofs.lemmas.Slice.Eq.{bytes_eq-Decides}
use Rattle.sacn_monitor.specs.declared.limits.TheConstants.{MAX_STREAMS}
use Rattle.sacn_incidents.specs.declared.deed.Act.{Act}
use Rattle.sacn_incidents.specs.declared.deed.Act.TheVariants.{Appears, IsBack, Ends, IsLost, Meets}
use Rattle.sacn_incidents.specs.declared.deed.Deed.{Deed}
use Rattle.sacn_incidents.specs.declared.incident.Incident.{Incident}
use Rattle.sacn_incidents.specs.declared.limits.TheConstants.{SPAN}
use Rattle.sacn_incidents.specs.Deeds.{same_act}
use Rattle.sacn_incidents.specs.Gathering.{after_pass, begun, given_by_pass, given_for, has_passed, joined, lacks_room, left_for, takes, with_deed, with_place}
use Rattle.sacn_incidents.specs.Calls.{Call, Finish, NothingIsLeftOut, Pass, Take, deeds_of, incidents_of, is_part_of, listed, open_after, told_by}

-- ---- places

kept_place : (places : List Bool) (place other : ℕ) → get_or places other false ≡ true → get_or (with_place place places) other false ≡ true
kept_place [] place other is = is
kept_place (b ∷ places) zero zero is = refl
kept_place (b ∷ places) zero (suc other) is = is
kept_place (b ∷ places) (suc place) zero is = is
kept_place (b ∷ places) (suc place) (suc other) is = kept_place places place other is

-- ---- the five tests of a part, apart and together

record Parts (d : Deed) (i : Incident) : Type 0 where
  source : bytes_eq i.source d.source ≡ true
  act : same_act i.act d.act ≡ true
  place : get_or i.places d.place false ≡ true
  first : i.first ≤ d.at
  latest : d.at ≤ i.latest

parts_of : (d : Deed) (i : Incident) → is_part_of d i ≡ true → Parts d i
parts_of d i is =
    let source : Bool = bytes_eq i.source d.source in
    let act : Bool = same_act i.act d.act in
    let place : Bool = get_or i.places d.place false in
    let last = and_parts (source && act && place && nat_le i.first d.at) (nat_le d.at i.latest) is in
    let four = and_parts (source && act && place) (nat_le i.first d.at) last.0 in
    let three = and_parts (source && act) place four.0 in
    let two = and_parts source act three.0 in
    record { source = two.0; act = two.1; place = three.1; first = leb-true i.first d.at four.1; latest = leb-true d.at i.latest last.1 }

from_parts : (d : Deed) (i : Incident) → Parts d i → is_part_of d i ≡ true
from_parts d i p =
    let source : Bool = bytes_eq i.source d.source in
    let act : Bool = same_act i.act d.act in
    let place : Bool = get_or i.places d.place false in
    and_from (source && act && place && nat_le i.first d.at) (nat_le d.at i.latest)
    (and_from (source && act && place) (nat_le i.first d.at) (and_from (source && act) place (and_from source act p.source p.act) p.place) (le-leb i.first d.at p.first))
    (le-leb d.at i.latest p.latest)

-- a part stays one
stays_part : (e d : Deed) (i : Incident) → is_part_of e i ≡ true → is_part_of e (joined d i) ≡ true
unfolding joined
stays_part e d i is =
    let p : Parts e i = parts_of e i is in
    from_parts e (joined d i) (record {
      source = p.source;
      act = p.act;
      place = kept_place i.places d.place e.place p.place;
      first = p.first;
      latest = omega (arith, p.latest);
    })

-- what an incident takes is a part of it then
becomes_part : (d : Deed) (i : Incident) → length i.places ≡ MAX_STREAMS → d.place < MAX_STREAMS → takes d i ≡ true → is_part_of d (joined d i) ≡ true
unfolding joined
becomes_part d i long low is =
    let source : Bool = bytes_eq i.source d.source in
    let act : Bool = same_act i.act d.act in
    let last = and_parts (nat_le i.first d.at && nat_le (d.at - i.first) SPAN && source) act is in
    let three = and_parts (nat_le i.first d.at && nat_le (d.at - i.first) SPAN) source last.0 in
    let two = and_parts (nat_le i.first d.at) (nat_le (d.at - i.first) SPAN) three.0 in
    from_parts d (joined d i) (record {
      source = three.1;
      act = last.1;
      place = get_or-set_same i.places d.place true false (omega (arith, long, low));
      first = leb-true i.first d.at two.0;
      latest = omega arith;
    })

same_bytes : (bytes : List ℕ) → bytes_eq bytes bytes ≡ true
same_bytes bytes = (bytes_eq-Decides bytes bytes).1 refl

same_number : (n : ℕ) → (n == n) ≡ true
same_number n = eq-eqb n n refl

same_as_itself : (a : Act) → same_act a a ≡ true
same_as_itself Appears = refl
same_as_itself IsBack = refl
same_as_itself Ends = refl
same_as_itself IsLost = refl
same_as_itself (Meets r) =
    and_from (bytes_eq r.cid r.cid && (r.priority == r.priority)) (r.sources == r.sources)
    (and_from (bytes_eq r.cid r.cid) (r.priority == r.priority) (same_bytes r.cid) (same_number r.priority)) (same_number r.sources)

begins_part : (d : Deed) → d.place < MAX_STREAMS → is_part_of d (begun d) ≡ true
unfolding begun
begins_part d low = from_parts d (begun d) (record {
  source = same_bytes d.source;
  act = same_as_itself d.act;
  place = get_or-set_same (replicate MAX_STREAMS false) d.place true false (omega (arith, low, length-replicate {A = Bool} MAX_STREAMS false));
  first = omega arith;
  latest = omega arith;
})

-- ---- among the incidents

abbrev IsLong : Incident → Type 0
IsLong i = length i.places ≡ MAX_STREAMS

begun_long : (d : Deed) → IsLong (begun d)
unfolding begun
begun_long d = length-set (replicate MAX_STREAMS false) d.place true ∙ length-replicate {A = Bool} MAX_STREAMS false

joined_long : (d : Deed) (i : Incident) → IsLong i → IsLong (joined d i)
unfolding joined
joined_long d i long = length-set i.places d.place true ∙ long

all_long : (d : Deed) (is : List Incident) → All IsLong is → All IsLong (with_deed d is)
all_long d [] long = All-cons IsLong (begun d) [] (begun_long d) long
all_long d (i ∷ is) long =
    elim (takes d i) as (λ b. All IsLong (cond b (joined d i ∷ is) (i ∷ with_deed d is))) [
      | true ↦ All-cons IsLong (joined d i) is (joined_long d i (All-head IsLong i is long)) (All-tail IsLong i is long)
      | false ↦ All-cons IsLong i (with_deed d is) (All-head IsLong i is long) (all_long d is (All-tail IsLong i is long))
    ]

abbrev covered : Deed → List Incident → Bool
covered e is = list_any (is_part_of e) is

stays_covered : (e d : Deed) (is : List Incident) → covered e is ≡ true → covered e (with_deed d is) ≡ true
stays_covered e d [] is_so = absurd cc
stays_covered e d (i ∷ is) is_so =
    elim (takes d i) as (λ b. covered e (cond b (joined d i ∷ is) (i ∷ with_deed d is)) ≡ true) [
      | true ↦ elim (or_cases (is_part_of e i) (covered e is) is_so) [
        | inl here ↦ or_left (is_part_of e (joined d i)) (covered e is) (stays_part e d i here)
        | inr there ↦ or_right (is_part_of e (joined d i)) (covered e is) there
      ]
      | false ↦ elim (or_cases (is_part_of e i) (covered e is) is_so) [
        | inl here ↦ or_left (is_part_of e i) (covered e (with_deed d is)) here
        | inr there ↦ or_right (is_part_of e i) (covered e (with_deed d is)) (stays_covered e d is there)
      ]
    ]

becomes_covered_by : (d : Deed) (i : Incident) (is : List Incident) → d.place < MAX_STREAMS → IsLong i → covered d (with_deed d is) ≡ true
    → (b : Bool) → takes d i ≡ b → covered d (cond b (joined d i ∷ is) (i ∷ with_deed d is)) ≡ true
becomes_covered_by d i is low long rest true t = or_left (is_part_of d (joined d i)) (covered d is) (becomes_part d i long low t)
becomes_covered_by d i is low long rest false t = or_right (is_part_of d i) (covered d (with_deed d is)) rest

becomes_covered : (d : Deed) (is : List Incident) → d.place < MAX_STREAMS → All IsLong is → covered d (with_deed d is) ≡ true
becomes_covered d [] low long = or_left (is_part_of d (begun d)) false (begins_part d low)
becomes_covered d (i ∷ is) low long =
    becomes_covered_by d i is low (All-head IsLong i is long) (becomes_covered d is low (All-tail IsLong i is long)) (takes d i) refl

-- ---- what is handed out, and what stays open, are what was open

pub oldest_apart : (is : List Incident) → listed (slice_get is 0) ++ drop 1 is ≡ is
oldest_apart [] = refl
oldest_apart (i ∷ is) = refl

pub taken_apart : (d : Deed) (is : List Incident) → listed (given_for d is) ++ left_for d is ≡ is
taken_apart d is =
    elim (lacks_room d is) as (λ b. listed (cond b (slice_get is 0) None) ++ cond b (drop 1 is) is ≡ is) [
      | true ↦ oldest_apart is
      | false ↦ refl
    ]

pub passed_apart : (now : ℕ) (is : List Incident) → listed (given_by_pass now is) ++ after_pass now is ≡ is
passed_apart now [] = refl
passed_apart now (i ∷ is) =
    elim (has_passed now i) as (λ b. listed (cond b (Some i) None) ++ cond b is (i ∷ is) ≡ i ∷ is) [
      | true ↦ refl
      | false ↦ refl
    ]

-- ---- after any calls

left_long : (d : Deed) (is : List Incident) → All IsLong is → All IsLong (left_for d is)
left_long d is long = elim (lacks_room d is) as (λ b. All IsLong (cond b (drop 1 is) is)) [ true ↦ All-drop IsLong 1 is long | false ↦ long ]

passed_long : (now : ℕ) (is : List Incident) → All IsLong is → All IsLong (after_pass now is)
passed_long now [] long = long
passed_long now (i ∷ is) long = elim (has_passed now i) as (λ b. All IsLong (cond b is (i ∷ is))) [ true ↦ All-tail IsLong i is long | false ↦ long ]

long_after : (calls : List Call) → All IsLong (open_after calls)
long_after [] = All-nil IsLong
long_after (Take d ∷ earlier) = all_long d (left_for d (open_after earlier)) (left_long d (open_after earlier) (long_after earlier))
long_after (Pass now ∷ earlier) = passed_long now (open_after earlier) (long_after earlier)
long_after (Finish ∷ earlier) = All-drop IsLong 1 (open_after earlier) (long_after earlier)

-- what was told, what is told now, and what stays open
pub all_of : (told given_now left before : List Incident) → given_now ++ left ≡ before → (told ++ given_now) ++ left ≡ told ++ before
all_of told given_now left before apart = append_assoc told given_now left ∙ ap (λ (more : List Incident). told ++ more) apart

covered_on : (e d : Deed) (told left before : List Incident) → told ++ left ≡ before → covered e before ≡ true → covered e (told ++ with_deed d left) ≡ true
covered_on e d told left before same is =
    let there : (covered e told || covered e left) ≡ true = sym (list_any-append (is_part_of e) told left) ∙ ap (covered e) same ∙ is in
    list_any-append (is_part_of e) told (with_deed d left)
    ∙ elim (or_cases (covered e told) (covered e left) there) [
      | inl here ↦ or_left (covered e told) (covered e (with_deed d left)) here
      | inr behind ↦ or_right (covered e told) (covered e (with_deed d left)) (stays_covered e d left behind)
    ]

covered_now : (d : Deed) (told left : List Incident) → d.place < MAX_STREAMS → All IsLong left → covered d (told ++ with_deed d left) ≡ true
covered_now d told left low long =
    list_any-append (is_part_of d) told (with_deed d left) ∙ or_right (covered d told) (covered d (with_deed d left)) (becomes_covered d left low long)

abbrev AllCovered : List Deed → List Incident → Type 0
AllCovered ds is = All (λ d. covered d is ≡ true) ds

same_covered : (ds : List Deed) (xs ys : List Incident) → xs ≡ ys → AllCovered ds ys → AllCovered ds xs
same_covered ds xs ys same all = All-weaker (λ d. covered d ys ≡ true) (λ d. covered d xs ≡ true) (λ d is. ap (covered d) same ∙ is) ds all

pub left_out : NothingIsLeftOut
left_out [] low = All-nil (λ d. covered d (incidents_of []) ≡ true)
left_out (Take d ∷ earlier) low =
    let before : List Incident = open_after earlier in
    let left : List Incident = left_for d before in
    let told : List Incident = told_by earlier ++ listed (given_for d before) in
    let ds : List Deed = deeds_of earlier in
    let lows = All-tail (λ (e : Deed). e.place < MAX_STREAMS) d ds low in
    All-cons (λ e. covered e (told ++ with_deed d left) ≡ true) d ds
    (covered_now d told left (All-head (λ (e : Deed). e.place < MAX_STREAMS) d ds low) (left_long d before (long_after earlier)))
    (All-weaker (λ e. covered e (incidents_of earlier) ≡ true) (λ e. covered e (told ++ with_deed d left) ≡ true)
    (λ e is. covered_on e d told left (incidents_of earlier) (all_of (told_by earlier) (listed (given_for d before)) left before (taken_apart d before)) is)
    ds (left_out earlier lows))
left_out (Pass now ∷ earlier) low =
    let before : List Incident = open_after earlier in
    same_covered (deeds_of earlier) (incidents_of (Pass now ∷ earlier)) (incidents_of earlier)
    (all_of (told_by earlier) (listed (given_by_pass now before)) (after_pass now before) before (passed_apart now before)) (left_out earlier low)
left_out (Finish ∷ earlier) low =
    let before : List Incident = open_after earlier in
    same_covered (deeds_of earlier) (incidents_of (Finish ∷ earlier)) (incidents_of earlier)
    (all_of (told_by earlier) (listed (slice_get before 0)) (drop 1 before) before (oldest_apart before)) (left_out earlier low)
