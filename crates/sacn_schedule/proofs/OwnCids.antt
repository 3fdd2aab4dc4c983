-- Consoles that the test finds to differ have CIDs of their own.
use Rattle.std.proofs.Common.{get_or, ◌↔◌, suc, ◌≡◌, ◌≢◌, Bool, true, false, ◌||◌, List, [], ◌∷◌, refl, sym, ◌∙◌, arith}
use Rattle.std.specs.List.{list_any, AllByRecursion}
use Rattle.std.specs.Str.{bytes_eq}
use Rattle.std.proofs.lemmas.List.Folds.{list_any_none}
use Rattle.std.proofs.lemmas.List.Elements.{All-from_recursion}
use Rattle.std.proofs.lemmas.List.Kept.{AllPairs-cons}
use Rattle.std.proofs.lemmas.Slice.Eq.{bytes_eq-Decides}
use Rattle.sacn_schedule.specs.Cids.{Desk, same_cid, has_same_cid, HaveOwnCids}

pub or_parts : (a b : Bool) → a || b ≡ false → (a ≡ false) × (b ≡ false)
or_parts false b h = (refl, h)
or_parts true b h = let bad : ⊥ = cc in absurd bad

pub differ : (d e : Desk) → same_cid d e ≡ false → d.0.cid ≢ e.0.cid
differ d e h = λ same. let equal : bytes_eq d.0.cid e.0.cid ≡ true = (bytes_eq-Decides d.0.cid e.0.cid).1 same in let bad : ⊥ = cc in bad

none_same : (d : Desk) (ds : List Desk) → list_any (λ e. same_cid d e) ds ≡ false → AllByRecursion (λ e. d.0.cid ≢ e.0.cid) ds
none_same d [] h = tt
none_same d (e ∷ es) h = let parts = or_parts (same_cid d e) (list_any (λ e. same_cid d e) es) h in (differ d e parts.0, none_same d es parts.1)

apart : (ds : List Desk) → has_same_cid ds ≡ false → HaveOwnCids ds
apart [] h = λ i j d less inside. absurd (omega arith)
apart (d ∷ ds) h =
    let parts = or_parts (list_any (λ e. same_cid d e) ds) (has_same_cid ds) h in
    AllPairs-cons (λ (d e : Desk). d.0.cid ≢ e.0.cid) d ds (All-from_recursion (λ (e : Desk). d.0.cid ≢ e.0.cid) ds (none_same d ds parts.0)) (apart ds parts.1)

-- and back
differs : (d e : Desk) → d.0.cid ≢ e.0.cid → same_cid d e ≡ false
differs d e h = by (same_cid d e) refl
  where
    by : (b : Bool) → same_cid d e ≡ b → same_cid d e ≡ false
    by false is = is
    by true is = absurd (h ((bytes_eq-Decides d.0.cid e.0.cid).0 is))

pub tested : (ds : List Desk) → HaveOwnCids ds → has_same_cid ds ≡ false
tested [] h = refl
tested (d ∷ ds) h =
    let none : list_any (λ e. same_cid d e) ds ≡ false = list_any_none (λ e. same_cid d e) ds (λ i x inside. differs d (get_or ds i x) (h 0 (suc i) x (omega arith) (omega arith))) in
    rw (none, tested ds (λ i j x less inside. h (suc i) (suc j) x (omega arith) (omega arith))) refl

pub own_cids : (b : Bool) (ds : List Desk) → b ≡ has_same_cid ds → (b ≡ false) ↔ HaveOwnCids ds
own_cids b ds is = (λ h. apart ds (sym is ∙ h), λ h. is ∙ tested ds h)
