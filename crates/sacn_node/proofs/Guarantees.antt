-- What a setup makes sure of: its universes rise, and each of its ranges can be shown.
use Rattle.std.proofs.Common.{◌≡◌, ℕ, zero, suc, ◌+◌, ◌<◌, ◌≤◌, ◌==◌, nat_lt, ◌||◌, Bool, true, false, cond, not, List, [], ◌∷◌, length, map, get_or, All, Some, refl, sym, ap, subst, arith}
use Rattle.std.specs.List.{list_any, position_or_len, insert, AllByRecursion}
use Rattle.std.proofs.lemmas.Bool.Decides.{nat_tests}
use Rattle.std.proofs.lemmas.List.{length-map, get_or-map}
use Rattle.std.proofs.lemmas.Option.{same_Some}
use Rattle.std.proofs.lemmas.List.Elements.{All-tail}
use Rattle.sacn_packets.specs.Universe.{Rising}
use Rattle.sacn_files.specs.Numbers.{placed}
use Rattle.sacn_node.specs.declared.setup.SlotRange.{SlotRange}
use Rattle.sacn_node.specs.Setup.{Port, Setup, IsSetup, with_universe, universes_after, universes_from, universes}
use Rattle.sacn_node.specs.Ports.{port_of}
use Rattle.sacn_node.specs.Cores.{new_core}
use Rattle.sacn_node.specs.Storage.{ArePorts, AreTables, seen, new_one}
use Rattle.sacn_node.specs.declared.tables.OneUniverse.{OneUniverse}
use Rattle.sacn_node.specs.declared.limits.TheConstants.{MAX_UNIVERSES}

-- ---- numbers that rise

abbrev pub put_id : ℕ → List ℕ → List ℕ
put_id u us = placed (λ v. v) u us

abbrev pub put_by : ℕ → ℕ → List ℕ → Bool → List ℕ
put_by u v vs less = cond less (u ∷ v ∷ vs) (v ∷ put_id u vs)

one_more : (n : ℕ) → 1 + n ≡ suc n
one_more n = omega arith

pub put_before : (u v : ℕ) (vs : List ℕ) → put_id u (v ∷ vs) ≡ put_by u v vs (nat_lt u v)
put_before u v vs = elim (nat_lt u v) as (λ b. insert (v ∷ vs) (cond (not b) (1 + position_or_len (λ w. nat_lt u w) vs) 0) u ≡ put_by u v vs b) [
  | true ↦ refl
  | false ↦ ap (λ k. insert (v ∷ vs) k u) (one_more (position_or_len (λ w. nat_lt u w) vs))
]

less_is : (u v : ℕ) → nat_lt u v ≡ true → u < v
less_is u v is = grind (arith, nat_tests)

more_is : (u v : ℕ) → nat_lt u v ≡ false → (v == u) ≡ false → v < u
more_is u v is differs = grind (arith, nat_tests)

or_parts : (a b : Bool) → (a || b) ≡ false → (a ≡ false) × (b ≡ false)
or_parts false b h = (refl, h)
or_parts true b h = let bad : ⊥ = cc in absurd bad

above_put : (lo u : ℕ) (us : List ℕ) → lo < u → AllByRecursion (λ v. lo < v) us → AllByRecursion (λ v. lo < v) (put_id u us)
above_put lo u [] lt above = (lt, tt)
above_put lo u (v ∷ vs) lt above =
    subst (AllByRecursion (λ w. lo < w)) (sym (put_before u v vs)) (elim (nat_lt u v) as (λ b. AllByRecursion (λ w. lo < w) (put_by u v vs b)) [
      | true ↦ (lt, above)
      | false ↦ (above.0, above_put lo u vs lt above.1)
    ])

above_less : (u v : ℕ) (ws : List ℕ) → u < v → AllByRecursion (λ w. v < w) ws → AllByRecursion (λ w. u < w) ws
above_less u v [] lt above = tt
above_less u v (w ∷ ws) lt above = (omega (arith, lt, above.0), above_less u v ws lt above.1)

rise_put : (u : ℕ) (us : List ℕ) → list_any (λ v. v == u) us ≡ false → Rising us → Rising (put_id u us)
rise_put u [] new rise = (tt, tt)
rise_put u (v ∷ vs) new rise =
    let parts = or_parts (v == u) (list_any (λ w. w == u) vs) new in
    subst Rising (sym (put_before u v vs)) (elim (nat_lt u v) as (λ b. nat_lt u v ≡ b → Rising (put_by u v vs b)) [
      | true ↦ λ is. ((less_is u v is, above_less u v vs (less_is u v is) rise.0), rise)
      | false ↦ λ is. (above_put v u vs (more_is u v is parts.0) rise.0, rise_put u vs parts.1 rise.1)
    ] refl)

rise_with : (us : List ℕ) (r : SlotRange) → Rising us → Rising (with_universe us r)
rise_with us r rise = elim (list_any (λ u. u == r.universe) us) as (λ b. list_any (λ u. u == r.universe) us ≡ b → Rising (cond b us (put_id r.universe us))) [
  | true ↦ λ is. rise
  | false ↦ λ is. rise_put r.universe us is rise
] refl

rise_after : (us : List ℕ) (rs : List SlotRange) → Rising us → Rising (universes_after us rs)
rise_after us [] rise = rise
rise_after us (r ∷ rs) rise = rise_after (with_universe us r) rs (rise_with us r rise)

rise_from : (us : List ℕ) (ps : List Port) → Rising us → Rising (universes_from us ps)
rise_from us [] rise = rise
rise_from us (p ∷ ps) rise = rise_from (universes_after us p.ranges) ps (rise_after us p.ranges rise)

pub universes_rise : (ps : List Port) → Rising (universes ps)
universes_rise ps = rise_from [] ps tt

above_at : (u : ℕ) (vs : List ℕ) → AllByRecursion (λ v. u < v) vs → (j d : ℕ) → j < length vs → u < get_or vs j d
above_at u [] above j d lt = absurd (omega arith)
above_at u (v ∷ vs) above zero d lt = above.0
above_at u (v ∷ vs) above (suc j) d lt = above_at u vs above.1 j d (omega arith)

pub pairs_rise : (us : List ℕ) → Rising us → (i j d : ℕ) → i < j → j < length us → get_or us i d < get_or us j d
pairs_rise [] rise i j d lt within = absurd (omega arith)
pairs_rise (u ∷ us) rise i zero d lt within = absurd (omega arith)
pairs_rise (u ∷ us) rise zero (suc j) d lt within = above_at u us rise.0 j d (omega arith)
pairs_rise (u ∷ us) rise (suc i) (suc j) d lt within = pairs_rise us rise.1 i j d (omega arith) (omega arith)

-- ---- the tables of a new node

moments_new : (us : List ℕ) → AllByRecursion (λ (o : OneUniverse). o.table.table.moment ≤ 0) (map new_one us)
moments_new [] = tt
moments_new (u ∷ us) = (omega arith, moments_new us)

pub tables_new : (us : List ℕ) → Rising us → length us ≤ MAX_UNIVERSES → AreTables 0 0 (map new_one us)
tables_new us rise few = record {
  rising = λ i j d lt within.
      let in_us : j < length us = omega (arith, length-map us new_one) in
      let first = ap (λ (o : OneUniverse). o.universe) (get_or-map new_one us i 0 d (omega arith)) in
      let second = ap (λ (o : OneUniverse). o.universe) (get_or-map new_one us j 0 d in_us) in
      omega (arith, first, second, pairs_rise us rise i j 0 lt in_us);
  moments = moments_new us;
  few = omega (arith, few, length-map us new_one);
  rows = omega arith;
  past = omega arith;
  young = omega arith;
}

pub seen_new : (us : List ℕ) → map seen (map new_one us) ≡ (new_core us).tables
seen_new [] = refl
seen_new (u ∷ us) = ap (λ gs. seen (new_one u) ∷ gs) (seen_new us)

-- ---- the ports of a setup

pub ports_prepared : (s : Setup) → IsSetup s → ArePorts s.ports
ports_prepared s is = record {
  rising = is.rising;
  few = is.most_ports;
  shown = λ k d lt i r within.
      let port = is.ports k d lt in
      let range = port.ranges i r within in
      let fits = is.fit k d lt i r within in
      record { slot = range.slot; port_slot = range.port_slot; within = fits.slot; fits = fits.port_slot };
}

pub found_has : (P : Port → Type 0) (number : ℕ) (ps : List Port) (p : Port) → port_of number ps ≡ Some p → All P ps → P p
found_has P number [] p is all = absurd (cc)
found_has P number (q ∷ qs) p is all =
    elim (q.number == number) as (λ b. cond b (Some q) (port_of number qs) ≡ Some p → P p) [
      | true ↦ λ e. subst P (same_Some q p e) (all 0 q (omega arith))
      | false ↦ λ e. found_has P number qs p e (All-tail P q qs all)
    ] is
