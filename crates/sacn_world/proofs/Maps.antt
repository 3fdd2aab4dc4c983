-- Holdings as finite maps: looking up after a put and after expiry.
use Rattle.std.proofs.Common.{◌≡◌, ℕ, Bool, true, false, cond, List, [], ◌∷◌, Some, None, refl, sym, ap, subst, ◌∙◌, inl, inr}
use Rattle.std.specs.Prelude.{filter}
use Rattle.std.specs.List.{AllByRecursion}
use Rattle.std.proofs.lemmas.Bool.{cases_Bool}
use Rattle.std.specs.Ordering.{is_eq, ordering_reverse}
use Rattle.std.specs.Cmp.Lexicographic.{nat_list_cmp_total}
use Rattle.std.specs.declared.cmp.Ordering.TheVariants.{Less, Equal, Greater}
use Rattle.sacn_world.proofs.Sources.{same_source, same-itself, order-itself}
use Rattle.sacn_world.proofs.Lists.{found}
use Rattle.sacn_world.proofs.All.{all_weaker, all_filter}
use Rattle.sacn_world.specs.Holdings.{RisingByCid, Hold, hold_of, put}
use Rattle.sacn_sources.specs.Order.{order, same, by_order}

pub order_turned : (a b : List ℕ) → order a b ≡ ordering_reverse (order b a)
unfolding order
order_turned a b = nat_list_cmp_total.antisymm a b

pub order_through : (a b c : List ℕ) → order a b ≡ Less → order b c ≡ Less → order a c ≡ Less
unfolding order
order_through a b c = nat_list_cmp_total.trans a b c

pub all_put : (P : Hold → Type 0) (n : Hold) (hs : List Hold) → P n → AllByRecursion P hs → AllByRecursion P (put n hs)
all_put P n [] p all = (p, tt)
all_put P n (h ∷ hs) p all =
    elim (order n.source h.source) as (λ o. AllByRecursion P (by_order o (n ∷ h ∷ hs) (n ∷ hs) (h ∷ put n hs))) [
      | Less ↦ (p, all)
      | Equal ↦ (p, all.1)
      | Greater ↦ (all.0, all_put P n hs p all.1)
    ]

pub sorted_put : (n : Hold) (hs : List Hold) → RisingByCid hs → RisingByCid (put n hs)
sorted_put n [] so = (tt, tt)
sorted_put n (h ∷ hs) so =
    elim (order n.source h.source) as (λ o. order n.source h.source ≡ o → RisingByCid (by_order o (n ∷ h ∷ hs) (n ∷ hs) (h ∷ put n hs))) [
      | Less ↦ λ e. ((e, all_weaker _ _ (λ k lt. order_through n.source h.source k.source e lt) hs so.0), so)
      | Equal ↦ λ e.
          let is : n.source ≡ h.source = same_source _ _ (ap is_eq e) in
          (subst (λ s. AllByRecursion (λ (k : Hold). order s k.source ≡ Less) hs) (sym is) so.0, so.1)
      | Greater ↦ λ e.
          let back : order h.source n.source ≡ Less = order_turned h.source n.source ∙ ap ordering_reverse e in
          (all_put (λ (k : Hold). order h.source k.source ≡ Less) n hs back so.0, sorted_put n hs so.1)
    ] refl

sorted_cond : (b : Bool) (h : Hold) (hs : List Hold) → AllByRecursion (λ (k : Hold). order h.source k.source ≡ Less) hs → RisingByCid hs → RisingByCid (cond b (h ∷ hs) hs)
sorted_cond true h hs all so = (all, so)
sorted_cond false h hs all so = so

pub sorted_filter : (p : Hold → Bool) (hs : List Hold) → RisingByCid hs → RisingByCid (filter p hs)
sorted_filter p [] so = tt
sorted_filter p (h ∷ hs) so = sorted_cond (p h) h (filter p hs) (all_filter _ p hs so.0) (sorted_filter p hs so.1)

pub hold_of-put : (n : Hold) (hs : List Hold) → hold_of n.source (put n hs) ≡ Some n
hold_of-put n [] = ap (λ b. cond b (Some n) None) (same-itself n.source)
hold_of-put n (h ∷ hs) =
    elim (order n.source h.source) as (λ o. order n.source h.source ≡ o → hold_of n.source (by_order o (n ∷ h ∷ hs) (n ∷ hs) (h ∷ put n hs)) ≡ Some n) [
      | Less ↦ λ e. ap (λ b. cond b (Some n) (hold_of n.source (h ∷ hs))) (same-itself n.source)
      | Equal ↦ λ e. ap (λ b. cond b (Some n) (hold_of n.source hs)) (same-itself n.source)
      | Greater ↦ λ e. ap (λ o. cond (is_eq o) (Some h) (hold_of n.source (put n hs))) e ∙ hold_of-put n hs
    ] refl

pub hold_of_other-put : (s : List ℕ) (n : Hold) (hs : List Hold) → same s n.source ≡ false → hold_of s (put n hs) ≡ hold_of s hs
hold_of_other-put s n [] ne = ap (λ b. cond b (Some n) None) ne
hold_of_other-put s n (h ∷ hs) ne =
    elim (order n.source h.source) as (λ o. order n.source h.source ≡ o → hold_of s (by_order o (n ∷ h ∷ hs) (n ∷ hs) (h ∷ put n hs)) ≡ hold_of s (h ∷ hs)) [
      | Less ↦ λ e. ap (λ b. cond b (Some n) (hold_of s (h ∷ hs))) ne
      | Equal ↦ λ e.
          let is : n.source ≡ h.source = same_source _ _ (ap is_eq e) in
          let ne' : same s h.source ≡ false = ap (same s) (sym is) ∙ ne in
          ap (λ b. cond b (Some n) (hold_of s hs)) ne ∙ sym (ap (λ b. cond b (Some h) (hold_of s hs)) ne')
      | Greater ↦ λ e. ap (λ o. cond (same s h.source) (Some h) o) (hold_of_other-put s n hs ne)
    ] refl

false_not_true : (b : Bool) → b ≡ true → b ≡ false → ⊥
false_not_true true e f = cc
false_not_true false e f = cc

-- what is found after expiry was found before it
pub hold_of-filter : (p : Hold → Bool) (s : List ℕ) (hs : List Hold) (h : Hold) → RisingByCid hs → hold_of s (filter p hs) ≡ Some h → hold_of s hs ≡ Some h
hold_of-filter p s [] h so e = e
hold_of-filter p s (x ∷ xs) h so e =
    elim (p x) as (λ b. hold_of s (cond b (x ∷ filter p xs) (filter p xs)) ≡ Some h → hold_of s (x ∷ xs) ≡ Some h) [
      | true ↦ λ f. elim (same s x.source) as (λ b. cond b (Some x) (hold_of s (filter p xs)) ≡ Some h → cond b (Some x) (hold_of s xs) ≡ Some h) [
        | true ↦ λ g. g
        | false ↦ λ g. hold_of-filter p s xs h so.1 g
      ] f
      | false ↦ λ f.
          let later = hold_of-filter p s xs h so.1 f in
          let fact = found (λ (k : Hold). order x.source k.source ≡ Less) (λ (k : Hold). same s k.source) xs h so.0 later in
          elim (cases_Bool (same s x.source)) [
            | inl pass ↦
                let a = same_source _ _ pass in
                let b = same_source _ _ fact.1 in
                let l : order x.source x.source ≡ Less = subst (λ (z : List ℕ). order x.source z ≡ Less) (sym b ∙ a) fact.0 in
                let e : order x.source x.source ≡ Equal = order-itself x.source in
                absurd (cc)
            | inr fail ↦ ap (λ b. cond b (Some x) (hold_of s xs)) fail ∙ later
          ]
    ] e
