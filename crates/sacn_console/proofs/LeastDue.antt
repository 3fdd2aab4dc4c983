-- The least-numbered due universe goes first.
use Rattle.std.proofs.Common.{◌≡◌, ℕ, ◌<◌, ◌≤◌, Bool, true, false, if◌then◌else◌, List, [], ◌∷◌, get_or, length, find, Option, Some, None, suc, zero, refl, arith, ap, sym, ◌∙◌}
use Rattle.std.specs.List.{AllByRecursion}
use Rattle.std.proofs.lemmas.List.Kept.{AllPairs-from_increasing}
use Rattle.sacn_packets.specs.Data.{Data}
use Rattle.std.specs.Option.{option_map}
use Rattle.sacn_console.specs.Lines.{Page, Packet, Paged, Deed}
use Rattle.sacn_packets.specs.Universe.{Rising}
use Rattle.sacn_console.specs.Due.{Life, universe_due, due_with, due_by_list, packet_by}
use Rattle.sacn_console.specs.Least.{IsLeastDue, LeastGoesFirst}
use Rattle.sacn_console.proofs.Openings.{rises}
use Rattle.sacn_console.proofs.Plain.{some_same}

above_all : (x : ℕ) (xs : List ℕ) → AllByRecursion (λ y. x < y) xs → (i : ℕ) → i < length xs → x ≤ get_or xs i 0
above_all x [] all i lt = absurd (omega (arith, lt))
above_all x (y ∷ ys) all zero lt = omega (arith, all.0)
above_all x (y ∷ ys) all (suc i) lt = above_all x ys all.1 i (omega (arith, lt))

first_least : (f : ℕ → Bool) (x : ℕ) (xs : List ℕ) → AllByRecursion (λ y. x < y) xs → (i : ℕ) → i < length (x ∷ xs) → x ≤ get_or (x ∷ xs) i 0
first_least f x xs all zero lt = omega arith
first_least f x xs all (suc i) lt = above_all x xs all i (omega (arith, lt))

-- the first of rising numbers that passes is the least that does
found_by : (f : ℕ → Bool) (x : ℕ) (xs : List ℕ) (u : ℕ) (b : Bool) → f x ≡ b → (if b then Some x else find f xs) ≡ Some u →
    AllByRecursion (λ y. x < y) xs → (find f xs ≡ Some u → (f u ≡ true) × ((i : ℕ) → i < length xs → f (get_or xs i 0) ≡ true → u ≤ get_or xs i 0)) →
    (f u ≡ true) × ((i : ℕ) → i < length (x ∷ xs) → f (get_or (x ∷ xs) i 0) ≡ true → u ≤ get_or (x ∷ xs) i 0)
found_by f x xs u true is e all rest =
    let same : x ≡ u = some_same x u e in
    rw (← same) (is, λ i lt passes. first_least f x xs all i lt)
found_by f x xs u false is e all rest =
    let later = rest e in
    (later.0, λ i lt passes. past i lt passes) where
      past : (i : ℕ) → i < length (x ∷ xs) → f (get_or (x ∷ xs) i 0) ≡ true → u ≤ get_or (x ∷ xs) i 0
      past zero lt passes = absurd (cc)
      past (suc i) lt passes = (rest e).1 i (omega (arith, lt)) passes

pub least_found : (f : ℕ → Bool) (xs : List ℕ) (u : ℕ) → Rising xs → find f xs ≡ Some u →
    (f u ≡ true) × ((i : ℕ) → i < length xs → f (get_or xs i 0) ≡ true → u ≤ get_or xs i 0)
least_found f [] u rising e = absurd (cc)
least_found f (x ∷ xs) u rising e = found_by f x xs u (f x) refl e rising.0 (λ e2. least_found f xs u rising.1 e2)

universe_of : (life : Life) (t : ℕ) (ds : List Deed) (u : ℕ) → (packet_by life t ds u).universe ≡ u
unfolding packet_by
universe_of life t ds u = refl

same_packet : (a b : Data) → Packet a ≡ Packet b → a ≡ b
same_packet a b e = cc

least_by : (life : Life) → Rising life.universes → (t : ℕ) (ds : List Deed) (d : Data) (o : Option ℕ) → find (universe_due life t ds) life.universes ≡ o → due_with life t ds o ≡ Some (Packet d) → IsLeastDue life t ds d.universe
least_by life rising t ds d None is e = absurd (never _ e)
  where
    never : (o : Option Page) → option_map Paged o ≡ Some (Packet d) → ⊥
    never None e = absurd (cc)
    never (Some p) e = absurd (cc)
least_by life rising t ds d (Some u) is e =
    let same : packet_by life t ds u ≡ d = same_packet (packet_by life t ds u) d (some_same (Packet (packet_by life t ds u)) (Packet d) e) in
    let here : u ≡ d.universe = sym (universe_of life t ds u) ∙ ap (λ (x : Data). x.universe) same in
    let found = least_found (universe_due life t ds) life.universes u rising is in
    rw (← here) (record { due = found.0; least = found.1 })

pub least_goes_first : LeastGoesFirst
unfolding due_by_list
least_goes_first life ascending t ds d e = least_by life (rises life.universes (AllPairs-from_increasing life.universes ascending)) t ds d (find (universe_due life t ds) life.universes) refl e
