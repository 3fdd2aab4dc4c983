-- The ports of whole universes keep the limits of a node.
use Rattle.std.proofs.Common.{◌≡◌, ℕ, zero, suc, ◌≤◌, ◌<◌, ◌+◌, ◌==◌, nat_lt, nat_le, Bool, true, false, if◌then◌else◌, List, [], ◌∷◌, length, refl, arith, not}
use Rattle.std.specs.Prelude.{All, slice_index}
use Rattle.std.specs.List.{list_all, list_any, position_or_len, AllByRecursion}
use Rattle.std.specs.List.Sorted.{IsStrictlyIncreasing}
use Rattle.std.proofs.lemmas.Bool.Decides.{nat_tests}
use Rattle.std.proofs.lemmas.Bool.{and_parts}
use Rattle.std.proofs.lemmas.List.Edits.{length-insert}
use Rattle.std.proofs.lemmas.List.Elements.{All-from_recursion}
use Rattle.std.proofs.lemmas.List.Sums.{prefix_len-le-length}
use Rattle.sacn_packets.specs.declared.universe.TheConstants.{MIN_UNIVERSE, MAX_UNIVERSE}
use Rattle.sacn_files.specs.declared.limits.TheConstants.{DEFAULT_UDP_PORT}
use Rattle.sacn_files.specs.Numbers.{placed}
use Rattle.sacn_node.specs.declared.limits.TheConstants.{MAX_PORTS, MIN_PORT}
use Rattle.sacn_node.specs.Setup.{port_numbers, universes_from, with_universe, has_overlap, IsRange, IsPort, Fits, IsSetup}
use Rattle.sacn_node.specs.SetupReading.{whole}
use Rattle.sacn_node.specs.WholeUniverses.{is_universe, whole_ports}

as_many : (n : ℕ) (us : List ℕ) → length (whole_ports n us) ≡ length us
as_many n [] = refl
as_many n (u ∷ us) = let rest = as_many (n + 1) us in omega arith

numbered : (n : ℕ) (us : List ℕ) (k : ℕ) → k < length us → slice_index (port_numbers (whole_ports n us)) k ≡ n + k
numbered n [] k inside = absurd (omega arith)
numbered n (u ∷ us) zero inside = omega arith
numbered n (u ∷ us) (suc k) inside = let rest = numbered (n + 1) us k (omega arith) in omega arith

numbers_as_many : (n : ℕ) (us : List ℕ) → length (port_numbers (whole_ports n us)) ≡ length us
numbers_as_many n [] = refl
numbers_as_many n (u ∷ us) = let rest = numbers_as_many (n + 1) us in omega arith

rise : (n : ℕ) (us : List ℕ) → IsStrictlyIncreasing (port_numbers (whole_ports n us))
rise n us k inside =
    let long = numbers_as_many n us in
    let here = numbered n us k (omega arith) in
    let next = numbered n us (k + 1) (omega arith) in
    omega arith

-- each universe adds one at most
one_more : (known : Bool) (us : List ℕ) (u : ℕ) → length (if known then us else placed (λ v. v) u us) ≤ length us + 1
one_more true us u = omega arith
one_more false us u = let long = length-insert us (position_or_len (λ v. nat_lt u v) us) u (prefix_len-le-length (λ v. not (nat_lt u v)) us) in omega arith

few_universes : (n : ℕ) (us known : List ℕ) → length (universes_from known (whole_ports n us)) ≤ length known + length us
few_universes n [] known = omega arith
few_universes n (u ∷ us) known =
    let here = one_more (list_any (λ v. v == u) known) known u in
    let later = few_universes (n + 1) us (with_universe known (whole u)) in
    omega arith

universe_bounds : (u : ℕ) → is_universe u ≡ true → (MIN_UNIVERSE ≤ u) × (u ≤ MAX_UNIVERSE)
universe_bounds u h = let both = and_parts (nat_le MIN_UNIVERSE u) (nat_le u MAX_UNIVERSE) h in (low u both.0, high u both.1)
  where
    low : (u : ℕ) → nat_le MIN_UNIVERSE u ≡ true → MIN_UNIVERSE ≤ u
    low u h = grind (arith, nat_tests)

    high : (u : ℕ) → nat_le u MAX_UNIVERSE ≡ true → u ≤ MAX_UNIVERSE
    high u h = grind (arith, nat_tests)

one_port : (n u : ℕ) → MIN_PORT ≤ n → is_universe u ≡ true → IsPort (record { number = n; ranges = whole u ∷ [] })
one_port n u least good =
    let bounds = universe_bounds u good in
    record {
      number = least;
      some = omega arith;
      most = omega arith;
      ranges = All-from_recursion IsRange (whole u ∷ []) (record { universe = (bounds.0, bounds.1); slot = omega arith; count = omega arith; port_slot = omega arith }, tt);
    }

are_ports : (n : ℕ) (us : List ℕ) → MIN_PORT ≤ n → list_all is_universe us ≡ true → AllByRecursion IsPort (whole_ports n us)
are_ports n [] least good = tt
are_ports n (u ∷ us) least good =
    let both = and_parts (is_universe u) (list_all is_universe us) good in
    (one_port n u least both.0, are_ports (n + 1) us (omega arith) both.1)

all_fit : (n : ℕ) (us : List ℕ) → AllByRecursion (λ p. All Fits p.ranges) (whole_ports n us)
all_fit n [] = tt
all_fit n (u ∷ us) = (All-from_recursion Fits (whole u ∷ []) (record { slot = omega arith; port_slot = omega arith }, tt), all_fit (n + 1) us)

all_apart : (n : ℕ) (us : List ℕ) → AllByRecursion (λ p. has_overlap p.ranges ≡ false) (whole_ports n us)
all_apart n [] = tt
all_apart n (u ∷ us) = (refl, all_apart (n + 1) us)

pub whole_keeps_limits : (us : List ℕ) → list_all is_universe us ≡ true → length us ≤ MAX_PORTS → IsSetup (record { udp_port = DEFAULT_UDP_PORT; ports = whole_ports MIN_PORT us })
whole_keeps_limits us good few =
    let ps = whole_ports MIN_PORT us in
    let many = as_many MIN_PORT us in
    let heard = few_universes MIN_PORT us [] in
    record {
      udp_port = omega arith;
      rising = rise MIN_PORT us;
      most_ports = omega arith;
      most_universes = omega arith;
      ports = All-from_recursion IsPort ps (are_ports MIN_PORT us (omega arith) good);
      fit = All-from_recursion _ ps (all_fit MIN_PORT us);
      apart = All-from_recursion _ ps (all_apart MIN_PORT us);
    }
