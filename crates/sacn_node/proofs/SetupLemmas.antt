-- What is read as a setup keeps the limits of a node.
use Rattle.std.proofs.Common.{◌≡◌, ℕ, pos, negsuc, ◌≤◌, ◌+◌, nat_lt, nat_le, Bool, true, false, ◌&&◌, ◌==◌, if◌then◌else◌, List, [], ◌∷◌, length, Option, None, Some, Result, Ok, Err, option_and_then, option_map, refl, sym, ap, arith, codes}
use Rattle.std.specs.Prelude.{All}
use Rattle.std.specs.List.{list_any, AllByRecursion}
use Rattle.std.specs.List.Sorted.{IsStrictlyIncreasing}
use Rattle.std.proofs.lemmas.Bool.Decides.{nat_tests}
use Rattle.std.proofs.lemmas.Bool.{and_parts}
use Rattle.std.proofs.lemmas.List.Elements.{All-from_recursion}
use Rattle.std.proofs.lemmas.List.Sorted.{All-permutation, length_permutation}
use Rattle.toml.specs.Data.{Data, Members, string, integer, float, boolean, datetime, array, table, get_member}
use Rattle.sacn_packets.specs.declared.universe.TheConstants.{MIN_UNIVERSE, MAX_UNIVERSE}
use Rattle.sacn_packets.specs.declared.universe.TheConstants.{SLOTS}
use Rattle.sacn_files.specs.declared.limits.TheConstants.{DEFAULT_UDP_PORT, MIN_UDP_PORT, MAX_UDP_PORT}
use Rattle.sacn_files.specs.Values.{number_in, number_at, value_or, array_at, members_or_none}
use Rattle.sacn_files.specs.Rows.{each}
use Rattle.sacn_files.specs.Lines.{before}
use Rattle.sacn_files.specs.Numbers.{has_repeat, in_order}
use Rattle.sacn_files.proofs.AscentLemmas.{or_parts, in_order_rises, in_order_keeps}
use Rattle.sacn_node.specs.declared.limits.TheConstants.{MAX_PORTS, MAX_UNIVERSES, MAX_RANGES, MIN_PORT, MAX_PORT}
use Rattle.sacn_node.specs.declared.setup.SlotRange.{SlotRange}
use Rattle.sacn_node.specs.declared.setup.fault.SetupFault.{SetupFault}
use Rattle.sacn_node.specs.declared.setup.fault.SetupFault.TheVariants.{Limit, RangeEnd, Overlap}
use Rattle.sacn_node.specs.Setup.{Port, port_numbers, universes, passes_end, has_overlap, IsRange, IsPort, Fits, IsSetup}
use Rattle.sacn_node.specs.SetupReading.{universe_at, slot_at, range_in, whole, ranges_in, ranges_of, port_in, ports_in, udp_port_of, order_fault, required}
use Rattle.sacn_packets.specs.Results.{◌>>=◌}

-- chains of readings
some_is : {X : Type 0} (x y : X) → Some x ≡ Some y → x ≡ y
some_is x y e = cc

and_then : {X Y : Type 0} (f : X → Option Y) (o : Option X) (y : Y) → option_and_then f o ≡ Some y → (x : X) × (o ≡ Some x) × (f x ≡ Some y)
and_then f None y e = let bad : ⊥ = cc in absurd bad
and_then f (Some x) y e = (x, refl, e)

mapped : {X Y : Type 0} (f : X → Y) (o : Option X) (y : Y) → option_map f o ≡ Some y → (x : X) × (o ≡ Some x) × (f x ≡ y)
mapped f None y e = let bad : ⊥ = cc in absurd bad
mapped f (Some x) y e = (x, refl, some_is (f x) y e)

-- numbers are in their ranges
within : (b : Bool) (m n : ℕ) → (if b then Some m else None) ≡ Some n → (b ≡ true) × (m ≡ n)
within true m n e = (refl, some_is m n e)
within false m n e = let bad : ⊥ = cc in absurd bad

in_range : (low high m n : ℕ) → nat_le low m && nat_le m high ≡ true → m ≡ n → (low ≤ n) × (n ≤ high)
in_range low high m n h e = let both = and_parts (nat_le low m) (nat_le m high) h in (at_least low m n both.0 e, at_most m n high both.1 e)
  where
    at_least : (low m n : ℕ) → nat_le low m ≡ true → m ≡ n → low ≤ n
    at_least low m n h e = grind (arith, nat_tests)

    at_most : (m n high : ℕ) → nat_le m high ≡ true → m ≡ n → n ≤ high
    at_most m n high h e = grind (arith, nat_tests)

number_bounds : (low high n : ℕ) (d : Data) → number_in low high d ≡ Some n → (low ≤ n) × (n ≤ high)
number_bounds low high n (integer (pos m)) e = let is = within (nat_le low m && nat_le m high) m n e in in_range low high m n is.0 is.1
number_bounds low high n (integer (negsuc m)) e = let bad : ⊥ = cc in absurd bad
number_bounds low high n (string s) e = let bad : ⊥ = cc in absurd bad
number_bounds low high n (float x) e = let bad : ⊥ = cc in absurd bad
number_bounds low high n (boolean b) e = let bad : ⊥ = cc in absurd bad
number_bounds low high n (datetime t) e = let bad : ⊥ = cc in absurd bad
number_bounds low high n (array ds) e = let bad : ⊥ = cc in absurd bad
number_bounds low high n (table ms) e = let bad : ⊥ = cc in absurd bad

at_bounds : (low high n : ℕ) (key : List ℕ) (d : Data) → number_at low high key d ≡ Some n → (low ≤ n) × (n ≤ high)
at_bounds low high n key d e = let a = and_then (number_in low high) (get_member key (members_or_none d)) n e in number_bounds low high n a.0 a.2

-- a range, and the whole of a universe
range_written : (d : Data) (r : SlotRange) → range_in d ≡ Some r → IsRange r
range_written d r e =
    let u = and_then _ (universe_at d) r e in
    let s = and_then _ (slot_at (codes "slot") d) r u.2 in
    let c = and_then _ (slot_at (codes "count") d) r s.2 in
    let p = and_then _ (slot_at (codes "port_slot") d) r c.2 in
    let is : record { universe = u.0; slot = s.0; count = c.0; port_slot = p.0 } ≡ r = some_is _ r p.2 in
    let ub = at_bounds MIN_UNIVERSE MAX_UNIVERSE u.0 (codes "universe") d u.1 in
    rw (← is) (record {
      universe = ub;
      slot = (at_bounds 1 SLOTS s.0 (codes "slot") d s.1).0;
      count = (at_bounds 1 SLOTS c.0 (codes "count") d c.1).0;
      port_slot = (at_bounds 1 SLOTS p.0 (codes "port_slot") d p.1).0;
    })

whole_written : (u : ℕ) → MIN_UNIVERSE ≤ u → u ≤ MAX_UNIVERSE → IsRange (whole u)
whole_written u low high = record { universe = (low, high); slot = omega arith; count = omega arith; port_slot = omega arith }

-- what each row gives
each_all : {X : Type 0} (read : Data → Option X) (P : X → Type 0) → ((d : Data) (x : X) → read d ≡ Some x → P x) → (ds : List Data) (xs : List X) → each read ds ≡ Some xs → AllByRecursion P xs
each_all read P h [] xs e = let is : [] ≡ xs = some_is [] xs e in rw (← is) tt
each_all {X} read P h (d ∷ ds) xs e =
    let x = and_then _ (read d) xs e in
    let rest = mapped (λ ys. x.0 ∷ ys) (each read ds) xs x.2 in
    let here : P x.0 = h d x.0 x.1 in
    let later : AllByRecursion P rest.0 = each_all read P h ds rest.0 rest.1 in
    rw (← rest.2) (here, later)

each_long : {X : Type 0} (read : Data → Option X) (ds : List Data) (xs : List X) → each read ds ≡ Some xs → length xs ≡ length ds
each_long read [] xs e = let is : [] ≡ xs = some_is [] xs e in rw (← is) refl
each_long {X} read (d ∷ ds) xs e =
    let x = and_then _ (read d) xs e in
    let rest = mapped (λ ys. x.0 ∷ ys) (each read ds) xs x.2 in
    let long : length rest.0 ≡ length ds = each_long read ds rest.0 rest.1 in
    rw (← rest.2, long) refl

-- a port's ranges
record AreRanges (rs : List SlotRange) : Type 0 where
  some : 1 ≤ length rs
  most : length rs ≤ MAX_RANGES
  each_is : All IsRange rs

kept_when : {X : Type 0} (b : Bool) (o : Option X) (x : X) → (if b then o else None) ≡ Some x → (b ≡ true) × (o ≡ Some x)
kept_when true o x e = (refl, e)
kept_when false o x e = let bad : ⊥ = cc in absurd bad

listed : (ds : List Data) (rs : List SlotRange) → ranges_in ds ≡ Some rs → AreRanges rs
listed ds rs e =
    let kept = kept_when (nat_le 1 (length ds) && nat_le (length ds) MAX_RANGES) (each range_in ds) rs e in
    let long : length ds ≡ length rs = sym (each_long range_in ds rs kept.1) in
    let bounds = in_range 1 MAX_RANGES (length ds) (length rs) kept.0 long in
    record { some = bounds.0; most = bounds.1; each_is = All-from_recursion IsRange rs (each_all range_in IsRange range_written ds rs kept.1) }

one_listed : (u : ℕ) (rs : List SlotRange) → MIN_UNIVERSE ≤ u → u ≤ MAX_UNIVERSE → whole u ∷ [] ≡ rs → AreRanges rs
one_listed u rs low high is =
    rw (← is) (record { some = omega arith; most = omega arith; each_is = All-from_recursion IsRange (whole u ∷ []) (whole_written u low high, tt) })

ranges_when : (b : Bool) (d : Data) (rs : List SlotRange) → (if b then option_map (λ u. whole u ∷ []) (universe_at d) else option_and_then ranges_in (array_at (codes "range") d)) ≡ Some rs → AreRanges rs
ranges_when true d rs e =
    let u = mapped (λ u. whole u ∷ []) (universe_at d) rs e in
    let bounds = at_bounds MIN_UNIVERSE MAX_UNIVERSE u.0 (codes "universe") d u.1 in
    one_listed u.0 rs bounds.0 bounds.1 u.2
ranges_when false d rs e = let ds = and_then ranges_in (array_at (codes "range") d) rs e in listed ds.0 rs ds.2

-- ports
abbrev done : {X : Type 0} → X → Result X SetupFault
done x = Ok x

is_ok : {X : Type 0} (x y : X) → done x ≡ done y → x ≡ y
is_ok x y e = cc

is_there : {X : Type 0} (o : Option X) (x : X) → required o ≡ Ok x → o ≡ Some x
is_there None x e = let bad : ⊥ = cc in absurd bad
is_there (Some y) x e = let is : y ≡ x = cc in ap Some is

then_ok : {X Y : Type 0} (next : X → Result Y SetupFault) (r : Result X SetupFault) (y : Y) → (r >>= next) ≡ Ok y → (x : X) × (r ≡ Ok x) × (next x ≡ Ok y)
then_ok next (Err fault) y e = let bad : ⊥ = cc in absurd bad
then_ok next (Ok x) y e = (x, refl, e)

port_written : (version : ℕ) (d : Data) (p : Port) → port_in version d ≡ Ok p → IsPort p
port_written version d p e =
    let n = then_ok _ (required (number_at MIN_PORT MAX_PORT (codes "number") d)) p e in
    let rs = then_ok _ (required (ranges_of version d)) p n.2 in
    let is : record { number = n.0; ranges = rs.0 } ≡ p = is_ok _ p rs.2 in
    let ranges = ranges_when (version == 1) d rs.0 (is_there (ranges_of version d) rs.0 rs.1) in
    let bounds = at_bounds MIN_PORT MAX_PORT n.0 (codes "number") d (is_there (number_at MIN_PORT MAX_PORT (codes "number") d) n.0 n.1) in
    rw (← is) (record { number = bounds.0; some = ranges.some; most = ranges.most; ranges = ranges.each_is })

both_ok : (first : Result Port SetupFault) (later : Result (List Port) SetupFault) (ps : List Port) → before first later ≡ Ok ps
    → (p : Port) × (qs : List Port) × (first ≡ Ok p) × (later ≡ Ok qs) × (p ∷ qs ≡ ps)
both_ok (Err fault) later ps e = let bad : ⊥ = cc in absurd bad
both_ok (Ok p) (Err fault) ps e = let bad : ⊥ = cc in absurd bad
both_ok (Ok p) (Ok qs) ps e = (p, qs, refl, refl, is_ok (p ∷ qs) ps e)

each_written : (version : ℕ) (ds : List Data) (ps : List Port) → ports_in version ds ≡ Ok ps → AllByRecursion IsPort ps
each_written version [] ps e = let is : [] ≡ ps = is_ok [] ps e in rw (← is) tt
each_written version (d ∷ ds) ps e =
    let both = both_ok (port_in version d) (ports_in version ds) ps e in
    let here : IsPort both.0 = port_written version d both.0 both.2 in
    let later : AllByRecursion IsPort both.1 = each_written version ds both.1 both.3 in
    rw (← both.4) (here, later)

pub ports_written : (version : ℕ) (ds : List Data) (ps : List Port) → ports_in version ds ≡ Ok ps → All IsPort ps
ports_written version ds ps e = All-from_recursion IsPort ps (each_written version ds ps e)

default_port : (o : Option Data) (u : ℕ) → value_or DEFAULT_UDP_PORT (number_in MIN_UDP_PORT MAX_UDP_PORT) o ≡ Some u → MIN_UDP_PORT ≤ u
default_port None u e = let is : DEFAULT_UDP_PORT ≡ u = some_is DEFAULT_UDP_PORT u e in rw (← is) (omega arith)
default_port (Some d) u e = (number_bounds MIN_UDP_PORT MAX_UDP_PORT u d e).0

pub udp_written : (ms : Members) (u : ℕ) → udp_port_of ms ≡ Some u → MIN_UDP_PORT ≤ u
udp_written ms u e = default_port (get_member (codes "udp_port") ms) u e

-- the last phase
none_of : (a b c : Bool) → (if a then Some Limit else if b then Some RangeEnd else if c then Some Overlap else None) ≡ None → (a ≡ false) × (b ≡ false) × (c ≡ false)
none_of false false false e = (refl, refl, refl)
none_of false false true e = let bad : ⊥ = cc in absurd bad
none_of false true c e = let bad : ⊥ = cc in absurd bad
none_of true b c e = let bad : ⊥ = cc in absurd bad

none_passes : {X : Type 0} (q : X → Bool) (P : X → Type 0) → ((x : X) → q x ≡ false → P x) → (xs : List X) → list_any q xs ≡ false → AllByRecursion P xs
none_passes q P h [] e = tt
none_passes q P h (x ∷ xs) e = let parts = or_parts (q x) (list_any q xs) e in (h x parts.0, none_passes q P h xs parts.1)

not_less : (a b : ℕ) → nat_lt a b ≡ false → b ≤ a
not_less a b h = grind (arith, nat_tests)

fits : (r : SlotRange) → passes_end r ≡ false → Fits r
fits r e =
    let parts = or_parts (nat_lt (SLOTS + 1) (r.slot + r.count)) (nat_lt (SLOTS + 1) (r.port_slot + r.count)) e in
    record { slot = not_less (SLOTS + 1) (r.slot + r.count) parts.0; port_slot = not_less (SLOTS + 1) (r.port_slot + r.count) parts.1 }

all_fit : (p : Port) → list_any passes_end p.ranges ≡ false → All Fits p.ranges
all_fit p e = All-from_recursion Fits p.ranges (none_passes passes_end Fits fits p.ranges e)

pub keeps_limits : (udp : ℕ) (ps : List Port) → MIN_UDP_PORT ≤ udp → IsStrictlyIncreasing (port_numbers ps) → length ps ≤ MAX_PORTS → All IsPort ps → order_fault ps ≡ None → IsSetup (record { udp_port = udp; ports = ps })
keeps_limits udp ps least rising few ports e =
    let good = none_of (nat_lt MAX_UNIVERSES (length (universes ps))) (list_any (λ p. list_any passes_end p.ranges) ps) (list_any (λ p. has_overlap p.ranges) ps) e in
    record {
      udp_port = least;
      rising = rising;
      most_ports = few;
      most_universes = not_less MAX_UNIVERSES (length (universes ps)) good.0;
      ports = ports;
      fit = All-from_recursion _ ps (none_passes (λ p. list_any passes_end p.ranges) (λ p. All Fits p.ranges) all_fit ps good.1);
      apart = All-from_recursion _ ps (none_passes (λ p. has_overlap p.ranges) (λ p. has_overlap p.ranges ≡ false) (λ p h. h) ps good.2);
    }

-- ports in order of number
pub sorted_rise : (ps : List Port) → has_repeat (port_numbers ps) ≡ false → IsStrictlyIncreasing (port_numbers (in_order (λ p. p.number) ps))
sorted_rise ps once = in_order_rises (λ (p : Port). p.number) ps once

pub sorted_few : (ps : List Port) (n : ℕ) → length ps ≤ n → length (in_order (λ p. p.number) ps) ≤ n
sorted_few ps n few = rw (length_permutation ps (in_order (λ (p : Port). p.number) ps) (in_order_keeps (λ (p : Port). p.number) ps)) few

pub sorted_ports : (ps : List Port) → All IsPort ps → All IsPort (in_order (λ p. p.number) ps)
sorted_ports ps all = All-permutation IsPort ps (in_order (λ (p : Port). p.number) ps) (in_order_keeps (λ (p : Port). p.number) ps) all
