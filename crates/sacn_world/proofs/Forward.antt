-- A place that is held only moves forward.
use Rattle.std.proofs.Common.{◌≡◌, ℕ, ◌<◌, ◌≤◌, Bool, true, false, List, length, Option, Some, None, refl, sym, ap, subst, ◌∙◌, inl, inr, arith}
use Rattle.std.specs.Prelude.{nat_lt}
use Rattle.std.proofs.lemmas.Bool.{cases_Bool, ltb-true, and_parts}
use Rattle.sacn_sources.specs.declared.limits.TheConstants.{MAX_SOURCES}
use Rattle.sacn_world.proofs.Sources.{same_source}
use Rattle.sacn_world.proofs.Maps.{hold_of-put, hold_of_other-put}
use Rattle.sacn_world.specs.Streams.{Sent, at, is_live, follows}
use Rattle.sacn_world.specs.Holdings.{Hold, hold_of, answer_known, answer_by, answer, takes_place, holding_after, after_delivery}
use Rattle.sacn_sources.specs.Order.{same}
use Rattle.sacn_sources.specs.declared.answer.Taken.{Taken}
use Rattle.sacn_sources.specs.declared.answer.Taken.TheVariants.{UnknownIgnored, Held, EndedNow, Observed, OutOfSequence, SourcesExceeded}

pub follows_later : (st : List Sent) (p q : ℕ) → follows st p q ≡ true → p < q
unfolding follows
follows_later st p q e = ltb-true p q (and_parts _ _ e).0

moves : (live f : Bool) → takes_place (answer_known live f) ≡ true → f ≡ true
moves live true e = refl
moves true false e = cc
moves false false e = cc

by_hold : (st : List Sent) (q : ℕ) (room : Bool) (o : Option Hold) (h : Hold) → o ≡ Some h → takes_place (answer_by st q room o) ≡ true → h.place < q
by_hold st q room None h e m = cc
by_hold st q room (Some g) h e m =
    let l = follows_later st g.place q (moves (is_live (at st q)) (follows st g.place q) m) in
    let is : g ≡ h = cc in
    subst (λ (x : Hold). x.place < q) is l

-- a packet whose place is now held has a later place than the entry of its source
pub later_than_held : (st : List Sent) (s : List ℕ) (q : ℕ) (hs : List Hold) (h : Hold) → hold_of s hs ≡ Some h → takes_place (answer st s q hs) ≡ true → h.place < q
later_than_held st s q hs h e m = by_hold st q (nat_lt (length hs) MAX_SOURCES) (hold_of s hs) h e m

pub other_kept : (s : List ℕ) (a : Taken) (n : Hold) (hs : List Hold) → same s n.source ≡ false → hold_of s (holding_after a n hs) ≡ hold_of s hs
other_kept s Held n hs e = hold_of_other-put s n hs e
other_kept s EndedNow n hs e = hold_of_other-put s n hs e
other_kept s Observed n hs e = refl
other_kept s OutOfSequence n hs e = refl
other_kept s SourcesExceeded n hs e = refl
other_kept s UnknownIgnored n hs e = refl

own_kept : (a : Taken) (n : Hold) (hs : List Hold) (h : Hold) → hold_of n.source hs ≡ Some h → (takes_place a ≡ true → h.place < n.place) → (g : Hold) × (hold_of n.source (holding_after a n hs) ≡ Some g) × (h.place ≤ g.place)
own_kept Held n hs h e m = (n, hold_of-put n hs, let l = m refl in omega (arith, l))
own_kept EndedNow n hs h e m = (n, hold_of-put n hs, let l = m refl in omega (arith, l))
own_kept Observed n hs h e m = (h, e, omega arith)
own_kept OutOfSequence n hs h e m = (h, e, omega arith)
own_kept SourcesExceeded n hs h e m = (h, e, omega arith)
own_kept UnknownIgnored n hs h e m = (h, e, omega arith)

-- no place that is held is given up for an earlier one
pub never_back : (st : List Sent) (s : List ℕ) (q t : ℕ) (hs : List Hold) (r : List ℕ) (h : Hold) → hold_of r hs ≡ Some h → (g : Hold) × (hold_of r (after_delivery st s q t hs) ≡ Some g) × (h.place ≤ g.place)
never_back st s q t hs r h e =
    let n : Hold = record { source = s; place = q; moment = t } in
    elim (cases_Bool (same r s)) [
      | inl pass ↦
          let rs = same_source r s pass in
          let e' : hold_of s hs ≡ Some h = ap (λ (z : List ℕ). hold_of z hs) (sym rs) ∙ e in
          let k = own_kept (answer st s q hs) n hs h e' (later_than_held st s q hs h e') in
          (k.0, ap (λ (z : List ℕ). hold_of z (after_delivery st s q t hs)) rs ∙ k.1, k.2)
      | inr fail ↦ (h, other_kept r (answer st s q hs) n hs fail ∙ e, omega arith)
    ]
