-- What is read as a show keeps the limits of a console.
use Rattle.std.proofs.Common.{◌≡◌, ℕ, pos, negsuc, ◌≤◌, nat_le, Bool, true, false, ◌&&◌, if◌then◌else◌, List, [], ◌∷◌, length, map, Option, None, Some, Ok, option_and_then, option_map, refl, sym, ap, ◌∙◌, arith}
use Rattle.std.specs.Prelude.{All}
use Rattle.std.specs.List.{AllByRecursion}
use Rattle.std.specs.List.Sorted.{IsStrictlyIncreasing}
use Rattle.std.proofs.lemmas.Bool.Decides.{nat_tests}
use Rattle.std.proofs.lemmas.Bool.{and_parts}
use Rattle.std.proofs.lemmas.List.Elements.{All-from_recursion, recursion_from_All}
use Rattle.std.proofs.lemmas.List.Sorted.{All-permutation, length_permutation}
use Rattle.toml.specs.Data.{Data, string, integer, float, boolean, datetime, array, table}
use Rattle.sacn_packets.specs.declared.universe.TheConstants.{MAX_UNIVERSE}
use Rattle.sacn_files.specs.Values.{number_in}
use Rattle.sacn_files.specs.Rows.{each}
use Rattle.sacn_files.specs.Numbers.{has_repeat, in_order}
use Rattle.sacn_files.proofs.AscentLemmas.{in_order_rises, in_order_keeps}
use Rattle.sacn_console.specs.declared.limits.TheConstants.{CONSOLE_UNIVERSES, MAX_DESTINATIONS}
use Rattle.sacn_files.specs.declared.limits.TheConstants.{MIN_UDP_PORT, MAX_UDP_PORT}
use Rattle.sacn_packets.specs.Universe.{IsUniverse}
use Rattle.sacn_console.specs.Shows.{AreUniverses}
use Rattle.sacn_console.specs.ShowReading.{required}

-- chains of readings
some_is : {X : Type 0} (x y : X) → Some x ≡ Some y → x ≡ y
some_is x y e = cc

and_then : {X Y : Type 0} (f : X → Option Y) (o : Option X) (y : Y) → option_and_then f o ≡ Some y → (x : X) × (o ≡ Some x) × (f x ≡ Some y)
and_then f None y e = let bad : ⊥ = cc in absurd bad
and_then f (Some x) y e = (x, refl, e)

mapped : {X Y : Type 0} (f : X → Y) (o : Option X) (y : Y) → option_map f o ≡ Some y → (x : X) × (o ≡ Some x) × (f x ≡ y)
mapped f None y e = let bad : ⊥ = cc in absurd bad
mapped f (Some x) y e = (x, refl, some_is (f x) y e)

-- numbers are in their ranges
within : (b : Bool) (m n : ℕ) → (if b then Some m else None) ≡ Some n → (b ≡ true) × (m ≡ n)
within true m n e = (refl, some_is m n e)
within false m n e = let bad : ⊥ = cc in absurd bad

in_range : (low high m n : ℕ) → nat_le low m && nat_le m high ≡ true → m ≡ n → (low ≤ n) × (n ≤ high)
in_range low high m n h e = let both = and_parts (nat_le low m) (nat_le m high) h in (at_least low m n both.0 e, at_most m n high both.1 e)
  where
    at_least : (low m n : ℕ) → nat_le low m ≡ true → m ≡ n → low ≤ n
    at_least low m n h e = grind (arith, nat_tests)

    at_most : (m n high : ℕ) → nat_le m high ≡ true → m ≡ n → n ≤ high
    at_most m n high h e = grind (arith, nat_tests)

number_bounds : (low high n : ℕ) (d : Data) → number_in low high d ≡ Some n → (low ≤ n) × (n ≤ high)
number_bounds low high n (integer (pos m)) e = let is = within (nat_le low m && nat_le m high) m n e in in_range low high m n is.0 is.1
number_bounds low high n (integer (negsuc m)) e = let bad : ⊥ = cc in absurd bad
number_bounds low high n (string s) e = let bad : ⊥ = cc in absurd bad
number_bounds low high n (float x) e = let bad : ⊥ = cc in absurd bad
number_bounds low high n (boolean b) e = let bad : ⊥ = cc in absurd bad
number_bounds low high n (datetime t) e = let bad : ⊥ = cc in absurd bad
number_bounds low high n (array ds) e = let bad : ⊥ = cc in absurd bad
number_bounds low high n (table ms) e = let bad : ⊥ = cc in absurd bad

-- what each row gives
each_all : {X : Type 0} (read : Data → Option X) (P : X → Type 0) → ((d : Data) (x : X) → read d ≡ Some x → P x) → (ds : List Data) (xs : List X) → each read ds ≡ Some xs → AllByRecursion P xs
each_all read P h [] xs e = let is : [] ≡ xs = some_is [] xs e in rw (← is) tt
each_all {X} read P h (d ∷ ds) xs e =
    let x = and_then _ (read d) xs e in
    let rest = mapped (λ ys. x.0 ∷ ys) (each read ds) xs x.2 in
    let here : P x.0 = h d x.0 x.1 in
    let later : AllByRecursion P rest.0 = each_all read P h ds rest.0 rest.1 in
    rw (← rest.2) (here, later)

each_long : {X : Type 0} (read : Data → Option X) (ds : List Data) (xs : List X) → each read ds ≡ Some xs → length xs ≡ length ds
each_long read [] xs e = let is : [] ≡ xs = some_is [] xs e in rw (← is) refl
each_long {X} read (d ∷ ds) xs e =
    let x = and_then _ (read d) xs e in
    let rest = mapped (λ ys. x.0 ∷ ys) (each read ds) xs x.2 in
    let long : length rest.0 ≡ length ds = each_long read ds rest.0 rest.1 in
    rw (← rest.2, long) refl

-- what was required is there
is_there : {X : Type 0} (o : Option X) (x : X) → required o ≡ Ok x → o ≡ Some x
is_there None x e = let bad : ⊥ = cc in absurd bad
is_there (Some y) x e = let is : y ≡ x = cc in ap Some is

-- as many ports as there are values
pub ports_written : (ds : List Data) (ps : List ℕ) → required (each (number_in MIN_UDP_PORT MAX_UDP_PORT) ds) ≡ Ok ps → length ds ≤ MAX_DESTINATIONS → length ps ≤ MAX_DESTINATIONS
ports_written ds ps e few =
    let there = is_there (each (number_in MIN_UDP_PORT MAX_UDP_PORT) ds) ps e in
    let long : length ps ≡ length ds = each_long (number_in MIN_UDP_PORT MAX_UDP_PORT) ds ps there in
    rw long few

-- the universes, in ascending order
same_numbers : (xs : List ℕ) → map (λ n. n) xs ≡ xs
same_numbers [] = refl
same_numbers (x ∷ xs) = ap (λ (ys : List ℕ). x ∷ ys) (same_numbers xs)

universe_written : (d : Data) (n : ℕ) → number_in 1 MAX_UNIVERSE d ≡ Some n → IsUniverse n
universe_written d n e = number_bounds 1 MAX_UNIVERSE n d e

ascend : (us : List ℕ) → has_repeat us ≡ false → IsStrictlyIncreasing (in_order (λ n. n) us)
ascend us once =
    let once2 : has_repeat (map (λ n. n) us) ≡ false = rw (same_numbers us) once in
    rw (same_numbers (in_order (λ n. n) us)) at (in_order_rises (λ (n : ℕ). n) us once2)

pub universes_written : (ds : List Data) (us : List ℕ) → required (each (number_in 1 MAX_UNIVERSE) ds) ≡ Ok us → length ds ≤ CONSOLE_UNIVERSES → has_repeat us ≡ false → AreUniverses (in_order (λ n. n) us)
universes_written ds us e few once =
    let there = is_there (each (number_in 1 MAX_UNIVERSE) ds) us e in
    let kept = in_order_keeps (λ (n : ℕ). n) us in
    let long : length us ≡ length ds = each_long (number_in 1 MAX_UNIVERSE) ds us there in
    let all : All IsUniverse us = All-from_recursion IsUniverse us (each_all (number_in 1 MAX_UNIVERSE) IsUniverse universe_written ds us there) in
    record {
      ascending = ascend us once;
      universes = recursion_from_All IsUniverse (in_order (λ n. n) us) (All-permutation IsUniverse us (in_order (λ n. n) us) kept all);
      few = rw (length_permutation us (in_order (λ n. n) us) kept, long) few;
    }

pub once : (xs ys : List ℕ) (b : Bool) → xs ≡ ys → b ≡ has_repeat (map (λ n. n) xs) → b ≡ false → has_repeat ys ≡ false
once xs ys b e h k =
    let a : has_repeat (map (λ n. n) xs) ≡ false = sym h ∙ k in
    let a2 : has_repeat xs ≡ false = rw (same_numbers xs) at a in
    rw e at a2
