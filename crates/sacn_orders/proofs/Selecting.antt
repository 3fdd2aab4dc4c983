-- The parts of a selection, one after another.
use Rattle.std.proofs.Common.{Bor, ◌≡◌, ◌∙◌, ap, refl, sym, ℕ, zero, suc, ◌+◌, ◌-◌, ◌<◌, ◌≤◌, nat_lt, Bool, true, false, cond, if◌then◌else◌, List, [], ◌∷◌, ◌++◌, map, length, take, drop, get_or, Result, Ok, Err, arith, append_assoc, append-nil, length-append, length-drop}
use Rattle.std.proofs.lemmas.List.{drop_more, get_or-drop, map-append, take_more}
use Rattle.std.proofs.lemmas.Bool.{le-ltb, lt-ltb, ltb-false, ltb-true}
use Rattle.sacn_packets.specs.Results.{◌>>=◌}
use Rattle.sacn_orders.specs.declared.part.Part.{Part}
use Rattle.sacn_orders.specs.declared.fault.OrderFault.{OrderFault}
use Rattle.sacn_orders.specs.declared.fault.OrderFault.TheVariants.{TooManyParts}
use Rattle.sacn_orders.specs.declared.limits.TheConstants.{MAX_PARTS}
use Rattle.sacn_orders.specs.Orders.{Joined, few, is_joining, is_plus, joined_after, one_more, part_in, parts_in, parts_of}

-- more parts behind those that are there
abbrev pub more_parts : List Part → List Joined → Result (List Part) OrderFault
more_parts done [] = Ok done
more_parts done (j ∷ js) = one_more done j.0 j.1 >>= λ parts. more_parts parts js

-- parts behind those that are there, if there is room for so many
abbrev with_room : ℕ → List Part → List Joined → Result (List Part) OrderFault
with_room room done js = parts_of (take room js) >>= λ parts. if nat_lt room (length js) then Err TooManyParts else Ok (done ++ parts)

-- a part in front of the others, or put behind those that are there
in_front : (done : List Part) (over : Bool) (r : Result Part OrderFault) (later : Result (List Part) OrderFault)
    → ((r >>= λ part. later >>= λ parts. Ok (part ∷ parts)) >>= λ parts. if over then Err TooManyParts else Ok (done ++ parts))
    ≡ (r >>= λ part. later >>= λ parts. if over then Err TooManyParts else Ok ((done ++ part ∷ []) ++ parts))
in_front done over (Err f) later = refl
in_front done over (Ok part) (Err f) = refl
in_front done true (Ok part) (Ok parts) = refl
in_front done false (Ok part) (Ok parts) = ap (λ (ps : List Part). Ok ps) (sym (append_assoc done (part ∷ []) parts))

-- the later parts, whichever the part is
later_same : (n : ℕ) (done : List Part) (js : List Joined) (r : Result Part OrderFault)
    → ((part : Part) → with_room n (done ++ part ∷ []) js ≡ more_parts (done ++ part ∷ []) js)
    → (r >>= λ part. with_room n (done ++ part ∷ []) js) ≡ ((r >>= λ part. Ok (done ++ part ∷ [])) >>= λ parts. more_parts parts js)
later_same n done js (Ok part) same = same part
later_same n done js (Err f) same = refl

full_fault : (done : List Part) (j : Joined) (js : List Joined) → length done + 0 ≡ MAX_PARTS → Err TooManyParts ≡ more_parts done (j ∷ js)
full_fault done j js e =
    let full : nat_lt (length done) MAX_PARTS ≡ false = le-ltb (length done) MAX_PARTS (omega arith) in
    rw full refl

roomy : (n : ℕ) (done : List Part) (j : Joined) (js : List Joined) → length done + suc n ≡ MAX_PARTS
    → more_parts done (j ∷ js) ≡ ((part_in j.0 j.1 >>= λ part. Ok (done ++ part ∷ [])) >>= λ parts. more_parts parts js)
roomy n done j js e =
    let room : nat_lt (length done) MAX_PARTS ≡ true = lt-ltb (length done) MAX_PARTS (omega arith) in
    rw room refl

none_left : (room : ℕ) (done : List Part) → with_room room done [] ≡ Ok done
none_left zero done = ap (λ (ps : List Part). Ok ps) (append-nil done)
none_left (suc n) done = ap (λ b. cond b (Err TooManyParts) (Ok (done ++ []))) (le-ltb (suc n) 0 (omega arith)) ∙ ap (λ (ps : List Part). Ok ps) (append-nil done)

order_by : (n m : ℕ) (b : Bool) → nat_lt n m ≡ b → nat_lt (suc n) (suc m) ≡ nat_lt n m
order_by n m true h =
    let lt : n < m = ltb-true n m h in
    lt-ltb (suc n) (suc m) (omega arith) ∙ sym h
order_by n m false h =
    let le : m ≤ n = ltb-false n m h in
    le-ltb (suc n) (suc m) (omega arith) ∙ sym h

-- so many parts are over where one fewer are over one fewer
same_order : (n m : ℕ) → nat_lt (suc n) (suc m) ≡ nat_lt n m
same_order n m = order_by n m (nat_lt n m) refl

over_same : (n : ℕ) (done : List Part) (js : List Joined) (r : Result (List Part) OrderFault)
    → (r >>= λ parts. if nat_lt (suc n) (suc (length js)) then Err TooManyParts else Ok (done ++ parts)) ≡ (r >>= λ parts. if nat_lt n (length js) then Err TooManyParts else Ok (done ++ parts))
over_same n done js r = ap (λ b. r >>= λ parts. cond b (Err TooManyParts) (Ok (done ++ parts))) (same_order n (length js))

length_more : (done : List Part) (part : Part) (n : ℕ) → length done + suc n ≡ MAX_PARTS → length (done ++ part ∷ []) + n ≡ MAX_PARTS
length_more done part n e = omega (arith, length-append done (part ∷ []))

turns : (room : ℕ) (done : List Part) (js : List Joined) → length done + room ≡ MAX_PARTS → with_room room done js ≡ more_parts done js
turns room done [] e = none_left room done
turns zero done (j ∷ js) e = ap (λ b. cond b (Err TooManyParts) (Ok (done ++ []))) (lt-ltb 0 (suc (length js)) (omega arith)) ∙ full_fault done j js e
turns (suc n) done (j ∷ js) e =
    over_same n done js (parts_of (j ∷ take n js))
    ∙ in_front done (nat_lt n (length js)) (part_in j.0 j.1) (parts_of (take n js))
    ∙ later_same n done js (part_in j.0 j.1) (λ part. turns n (done ++ part ∷ []) js (length_more done part n e))
    ∙ sym (roomy n done j js e)

-- a selection's parts, read in turn
pub parts_in_turn : (ws : List (List ℕ)) → parts_in ws ≡ more_parts [] (joined_after true [] ws)
parts_in_turn ws = turns MAX_PARTS [] (joined_after true [] ws) refl

-- ---- one piece more

abbrev said : List (Bor (List ℕ)) → List (List ℕ)
said ws = map (λ w. w.now) ws

said_left : (ws : List (Bor (List ℕ))) (i : ℕ) (d : Bor (List ℕ)) → i < length ws → said (drop i ws) ≡ (get_or ws i d).now ∷ said (drop (i + 1) ws)
said_left ws i d lt = ap (λ (xs : List (Bor (List ℕ))). said xs) (drop_more ws i d lt)

said_more : (ws : List (Bor (List ℕ))) (start i : ℕ) (d : Bor (List ℕ)) → start ≤ i → i < length ws
    → said (take (i + 1 - start) (drop start ws)) ≡ said (take (i - start) (drop start ws)) ++ (get_or ws i d).now ∷ []
said_more ws start i d le lt =
    let more : i + 1 - start ≡ (i - start) + 1 = omega arith in
    let within : i - start < length (drop start ws) = omega (arith, length-drop start ws) in
    let there : start + (i - start) ≡ i = omega arith in
    ap (λ n. said (take n (drop start ws))) more
    ∙ ap (λ (xs : List (Bor (List ℕ))). said xs) (take_more (drop start ws) (i - start) d within)
    ∙ map-append (λ (w : Bor (List ℕ)). w.now) (take (i - start) (drop start ws)) (get_or (drop start ws) (i - start) d ∷ [])
    ∙ ap (λ (x : Bor (List ℕ)). said (take (i - start) (drop start ws)) ++ x.now ∷ []) (get_or-drop start ws (i - start) d ∙ ap (λ k. get_or ws k d) there)

joined_at : (added : Bool) (part : List (List ℕ)) (w : List ℕ) (ws : List (List ℕ)) → is_joining w ≡ true → joined_after added part (w ∷ ws) ≡ (added, part) ∷ joined_after (is_plus w) [] ws
joined_at added part w ws h = rw h refl

joined_on : (added : Bool) (part : List (List ℕ)) (w : List ℕ) (ws : List (List ℕ)) → is_joining w ≡ false → joined_after added part (w ∷ ws) ≡ joined_after added (part ++ w ∷ []) ws
joined_on added part w ws h = rw h refl

-- a sign ends a part
at_join : (ws : List (Bor (List ℕ))) (start i : ℕ) (d : Bor (List ℕ)) (all : Result (List Part) OrderFault) (done : List Part) (added : Bool) → i < length ws
    → is_joining ((get_or ws i d).now) ≡ true
    → all ≡ more_parts done (joined_after added (said (take (i - start) (drop start ws))) (said (drop i ws)))
    → all ≡ (one_more done added (said (take (i - start) (drop start ws))) >>= λ parts. more_parts parts (joined_after (is_plus ((get_or ws i d).now)) [] (said (drop (i + 1) ws))))
at_join ws start i d all done added lt joins left =
    left
    ∙ ap (λ xs. more_parts done (joined_after added (said (take (i - start) (drop start ws))) xs)) (said_left ws i d lt)
    ∙ ap (λ js. more_parts done js) (joined_at added (said (take (i - start) (drop start ws))) ((get_or ws i d).now) (said (drop (i + 1) ws)) joins)

pub joins : (ws : List (Bor (List ℕ))) (start i : ℕ) (d : Bor (List ℕ)) (all : Result (List Part) OrderFault) (done more : List Part) (added : Bool) → i < length ws
    → is_joining ((get_or ws i d).now) ≡ true
    → one_more done added (said (take (i - start) (drop start ws))) ≡ Ok more
    → all ≡ more_parts done (joined_after added (said (take (i - start) (drop start ws))) (said (drop i ws)))
    → all ≡ more_parts more (joined_after (is_plus ((get_or ws i d).now)) (said (take (i + 1 - (i + 1)) (drop (i + 1) ws))) (said (drop (i + 1) ws)))
joins ws start i d all done more added lt joining read left =
    let none : i + 1 - (i + 1) ≡ 0 = omega arith in
    at_join ws start i d all done added lt joining left
    ∙ ap (λ r. r >>= λ parts. more_parts parts (joined_after (is_plus ((get_or ws i d).now)) [] (said (drop (i + 1) ws)))) read
    ∙ ap (λ n. more_parts more (joined_after (is_plus ((get_or ws i d).now)) (said (take n (drop (i + 1) ws))) (said (drop (i + 1) ws)))) (sym none)

-- another piece goes on with a part
pub goes_on : (ws : List (Bor (List ℕ))) (start i : ℕ) (d : Bor (List ℕ)) (all : Result (List Part) OrderFault) (done : List Part) (added : Bool) → start ≤ i → i < length ws
    → is_joining ((get_or ws i d).now) ≡ false
    → all ≡ more_parts done (joined_after added (said (take (i - start) (drop start ws))) (said (drop i ws)))
    → all ≡ more_parts done (joined_after added (said (take (i + 1 - start) (drop start ws))) (said (drop (i + 1) ws)))
goes_on ws start i d all done added le lt other left =
    left
    ∙ ap (λ xs. more_parts done (joined_after added (said (take (i - start) (drop start ws))) xs)) (said_left ws i d lt)
    ∙ ap (λ js. more_parts done js) (joined_on added (said (take (i - start) (drop start ws))) ((get_or ws i d).now) (said (drop (i + 1) ws)) other)
    ∙ ap (λ xs. more_parts done (joined_after added xs (said (drop (i + 1) ws)))) (sym (said_more ws start i d le lt))
