-- The universes of ports are those that their ranges name.
use Rattle.std.proofs.Common.{◌≡◌, ℕ, ◌==◌, nat_lt, ◌||◌, Bool, true, false, cond, List, [], ◌∷◌, refl, sym, ap, ◌∙◌, eqb-true}
use Rattle.std.specs.List.{list_any}
use Rattle.sacn_node.specs.declared.setup.SlotRange.{SlotRange}
use Rattle.sacn_node.specs.Setup.{Port, with_universe, universes_after, universes_from}
use Rattle.sacn_node.specs.Laws.{HasTheUniversesOfItsRanges}
use Rattle.sacn_node.proofs.Guarantees.{put_id, put_by, put_before, universes_rise}

or_turned : (a b : Bool) → (a || b) ≡ (b || a)
or_turned true true = refl
or_turned true false = refl
or_turned false true = refl
or_turned false false = refl

or_grouped : (a b c : Bool) → ((a || b) || c) ≡ (a || (b || c))
or_grouped true b c = refl
or_grouped false b c = refl

or_true : (a : Bool) → (a || true) ≡ true
or_true true = refl
or_true false = refl

or_false : (a : Bool) → a ≡ (a || false)
or_false true = refl
or_false false = refl

module _ (u : ℕ) where
  abbrev has : List ℕ → Bool
  has us = list_any (λ v. v == u) us

  abbrev names : SlotRange → Bool
  names r = r.universe == u

  abbrev port_names : Port → Bool
  port_names p = list_any names p.ranges

  has_put : (w : ℕ) (us : List ℕ) → has (put_id w us) ≡ (has us || (w == u))
  has_put w [] = sym (or_false (w == u))
  has_put w (v ∷ vs) =
      ap has (put_before w v vs)
      ∙ elim (nat_lt w v) as (λ b. has (put_by w v vs b) ≡ (has (v ∷ vs) || (w == u))) [
        | true ↦ or_turned (w == u) (has (v ∷ vs))
        | false ↦ ap (λ b. (v == u) || b) (has_put w vs) ∙ sym (or_grouped (v == u) (has vs) (w == u))
      ]

  stays : (us : List ℕ) (w : ℕ) (b : Bool) → list_any (λ v. v == w) us ≡ true → (w == u) ≡ b → has us ≡ (has us || b)
  stays us w true there is = ap (λ k. list_any (λ v. v == k) us) (sym (eqb-true w u is)) ∙ there ∙ sym (or_true (has us))
  stays us w false there is = or_false (has us)

  has_with : (us : List ℕ) (r : SlotRange) → has (with_universe us r) ≡ (has us || names r)
  has_with us r = elim (list_any (λ v. v == r.universe) us) as (λ b. list_any (λ v. v == r.universe) us ≡ b → has (cond b us (put_id r.universe us)) ≡ (has us || names r)) [
    | true ↦ λ there. stays us r.universe (names r) there refl
    | false ↦ λ new. has_put r.universe us
  ] refl

  has_after : (us : List ℕ) (rs : List SlotRange) → has (universes_after us rs) ≡ (has us || list_any names rs)
  has_after us [] = or_false (has us)
  has_after us (r ∷ rs) =
      has_after (with_universe us r) rs
      ∙ ap (λ b. b || list_any names rs) (has_with us r)
      ∙ or_grouped (has us) (names r) (list_any names rs)

  has_from : (us : List ℕ) (ps : List Port) → has (universes_from us ps) ≡ (has us || list_any port_names ps)
  has_from us [] = or_false (has us)
  has_from us (p ∷ ps) =
      has_from (universes_after us p.ranges) ps
      ∙ ap (λ b. b || list_any port_names ps) (has_after us p.ranges)
      ∙ or_grouped (has us) (port_names p) (list_any port_names ps)

pub has_the_universes_of_its_ranges : HasTheUniversesOfItsRanges
has_the_universes_of_its_ranges ports = (universes_rise ports, λ u. has_from u [] ports)
