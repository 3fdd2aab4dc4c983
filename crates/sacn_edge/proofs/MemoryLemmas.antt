-- What a link over memory tells, one send more.
use Rattle.std.proofs.Common.{◌≡◌, ℕ, suc, ◌+◌, min, Bool, true, false, not, List, [], ◌∷◌, ◌++◌, length, take, map, Vec, Global, Option, None, Some, refl, ap, sym, ◌∙◌, add-zero, zero-add, arith, ◌||◌}
use Rattle.std.specs.Prelude.{if◌then◌else◌, IfSome}
use Rattle.std.proofs.lemmas.List.{take_min, length-take}
use Rattle.std.proofs.Math.Seq.{take-append_seam}
use Rattle.sacn_edge.specs.Hearings.{Heard, Transcript, Hands}
use Rattle.sacn_edge.specs.MemoryItems.{answered_from, fails_at}

answered_from-last : (failing : Option ℕ) (n : ℕ) (vs : List (Vec ℕ Global)) (v : Vec ℕ Global)
    → answered_from failing n (vs ++ v ∷ []) ≡ answered_from failing n vs ++ (v.items, not (fails_at failing (n + length vs))) ∷ []
answered_from-last failing n [] v = rw (add-zero n)
answered_from-last failing n (w ∷ ws) v =
    let next : n + 1 + length ws ≡ n + suc (length ws) = omega arith in
    ap (λ t. (w.items, not (fails_at failing n)) ∷ t) (answered_from-last failing (n + 1) ws v ∙ rw next)

-- one datagram more in what a link tells
pub hands_more : (lost last : Bool) (heard : List Heard) (old new : List (List ℕ × Bool)) (x : List ℕ × Bool) → new ≡ old ++ x ∷ []
    → Hands (if lost || last then None else Some (record { heard = heard; handed = old })) (if lost || last then None else Some (record { heard = heard; handed = new })) (x ∷ [])
hands_more true last heard old new x e = tt
hands_more false true heard old new x e = tt
hands_more false false heard old new x e = (refl, e)

pub sent_more : (failing : Option ℕ) (vs : List (Vec ℕ Global)) (v : Vec ℕ Global) (octets : List ℕ) (answer fails : Bool) (n : ℕ) → v.items ≡ octets → answer ≡ not fails → fails ≡ fails_at failing n → n ≡ length vs
    → answered_from failing 0 (vs ++ v ∷ []) ≡ answered_from failing 0 vs ++ (octets, answer) ∷ []
sent_more failing vs v octets answer fails n same is fault number =
    answered_from-last failing 0 vs v ∙ ap (λ p. answered_from failing 0 vs ++ p ∷ []) (rw (same, is, fault, number, zero-add (length vs)))

take_up_to : (xs : List ℕ) → take (min (length xs) 2048) xs ≡ take 2048 xs
take_up_to xs = let swapped : min (length xs) 2048 ≡ min 2048 (length xs) = omega arith in rw swapped (take_min 2048 xs)

-- the front of the buffer after a datagram was copied there
pub brought : (self post octets : List ℕ) (count n : ℕ) → self ≡ take count octets → count ≡ min n 2048 → n ≡ length octets → take count (self ++ post) ≡ take 2048 octets
brought self post octets count n is small whole =
    let long : length self ≡ count = ap length is ∙ (length-take count octets ∙ omega arith) in
    rw (← long) (take-append_seam self post) ∙ is ∙ rw (small, whole) (take_up_to octets)

-- what is told of the datagrams is what was kept
pub kept_datagrams : (failing : Option ℕ) (n : ℕ) (vs : List (Vec ℕ Global)) → map (λ (h : List ℕ × Bool). h.0) (answered_from failing n vs) ≡ map (λ (v : Vec ℕ Global). v.items) vs
kept_datagrams failing n [] = refl
kept_datagrams failing n (v ∷ vs) = ap (λ t. v.items ∷ t) (kept_datagrams failing (n + 1) vs)

pub told_handed : (silent : Bool) (heard : List Heard) (failing : Option ℕ) (vs kept : List (Vec ℕ Global)) → kept ≡ vs
    → IfSome (if silent then None else Some (record { heard = heard; handed = answered_from failing 0 vs })) (λ (t : Transcript). map (λ (h : List ℕ × Bool). h.0) t.handed ≡ map (λ (v : Vec ℕ Global). v.items) kept)
told_handed true heard failing vs kept is = tt
told_handed false heard failing vs kept is = kept_datagrams failing 0 vs ∙ ap (λ l. map (λ (v : Vec ℕ Global). v.items) l) (sym is)
