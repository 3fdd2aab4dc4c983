-- One receive after another, and one turn after another, of a watch.
use Rattle.std.proofs.Common.{◌≡◌, ℕ, ◌-◌, ◌^◌, Bool, true, false, List, [], ◌∷◌, ◌++◌, length, Option, None, Some, inr, refl, sym, ap, subst, ◌∙◌, arith, append_assoc}
use Rattle.sacn_edge.specs.Additions.{Extends}
use Rattle.sacn_edge.proofs.NodeLemmas.{Extends-append}
use Rattle.sacn_machine.specs.Hearings.{Hearing, in_order}
use Rattle.sacn_monitor.specs.Histories.{Call, Tick}
use Rattle.sacn_watch.specs.Watches.{Receive, heard_in, heard_by, reading_after, reading_by, calls_by, calls_in, AreBefore, IsWatch}

pub no_more : {X : Type 0} (a b : Bool) → a ≡ false → a ≡ b → b ≡ true → X
no_more true b none is more = absurd (cc)
no_more false b none is more = absurd (cc)

pub Extends-none : {X : Type 0} (a : Option (List X)) → Extends a a []
Extends-none None = tt
Extends-none (Some xs) = sym (append_nil xs)
  where
    append_nil : {X : Type 0} (xs : List X) → xs ++ [] ≡ xs
    append_nil [] = refl
    append_nil (x ∷ xs) = ap (λ t. x ∷ t) (append_nil xs)

-- what was told stays, where a call tells nothing more
pub heard_still : {X : Type 0} (a b c : Option (List X)) (xs : List X) → Extends a b xs → c ≡ b → Extends a c xs
heard_still a b c xs told same = subst (λ t. Extends a t xs) (sym same) told

-- what is heard in one turn more
pub heard_more : (a b c : Option (List Hearing)) (rs : List Receive) (turns : List (List Receive)) → Extends a b (heard_by turns) → Extends b c (in_order (heard_in rs)) → Extends a c (heard_by (rs ∷ turns))
heard_more a b c rs turns sofar more = Extends-append a b c (heard_by turns) (in_order (heard_in rs)) sofar more

pub reading_more : (start now : ℕ) (rs : List Receive) (turns : List (List Receive)) → start ≡ reading_by turns → now ≡ reading_after start rs → now ≡ reading_by (rs ∷ turns)
reading_more start now rs turns at is = is ∙ ap (λ s. reading_after s rs) at

module _ {W : Type 0} (Handed : W → List Call → Type 0) where
  -- two lists of calls handed one after the other
  pub handed_more : (a b c : W) (xs ys : List Call)
      → ((calls : List Call) → Handed a calls → Handed b (xs ++ calls))
      → ((calls : List Call) → Handed b calls → Handed c (ys ++ calls))
      → (calls : List Call) → Handed a calls → Handed c ((ys ++ xs) ++ calls)
  handed_more a b c xs ys first next calls was =
      subst (Handed c) (sym (append_assoc ys xs calls)) (next (xs ++ calls) (first calls was))

  -- and then a moment
  pub turn_handed : (a b c d : W) (now : ℕ) (rs : List Receive) (turns : List (List Receive)) → now ≡ reading_by (rs ∷ turns)
      → ((calls : List Call) → Handed a calls → Handed b (calls_by turns ++ calls))
      → ((calls : List Call) → Handed b calls → Handed c (calls_in rs ++ calls))
      → ((calls : List Call) → Handed c calls → Handed d (Tick now ∷ calls))
      → (calls : List Call) → Handed a calls → Handed d (calls_by (rs ∷ turns) ++ calls)
  turn_handed a b c d now rs turns at before takes shows calls was =
      subst (λ (n : ℕ). Handed d (Tick n ∷ ((calls_in rs ++ calls_by turns) ++ calls))) at
      (shows ((calls_in rs ++ calls_by turns) ++ calls) (handed_more a b c (calls_by turns) (calls_in rs) before takes calls was))

-- a watch of as many turns as 64 bits count
pub watch_ends : (until : ℕ) (Ended : Type 0) (turns : List (List Receive)) → AreBefore until turns → length turns ≡ 2 ^ 64 - 1 → IsWatch until Ended turns
watch_ends until Ended [] before all = absurd (omega (arith, all))
watch_ends until Ended (rs ∷ turns) before all = (before.2, before.1, inr (inr all))
