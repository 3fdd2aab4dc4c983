-- One end after the other.
use Rattle.std.proofs.Common.{◌≡◌, ◌<◌, ◌⊎◌, inl, inr, ℕ, zero, suc, nat_lt, Bool, true, false, cond, is_some, List, [], ◌++◌, refl, sym, ap, ◌∙◌, append-nil, arith}
use Rattle.std.proofs.lemmas.Bool.{lt-ltb, le-ltb}
use Rattle.sacn_network.specs.declared.ledger.Ledger.{Ledger}
use Rattle.sacn_network.specs.declared.ledger.TheConstants.{MOST_STEPS}
use Rattle.sacn_network.specs.Losses.{after_end, end_told, lost_place, silence_told, silenced}
use Rattle.sacn_network.specs.Telling.{AreTold, Told}
use Rattle.sacn_network.proofs.Telling.{told_as, told_both, told_nothing}

-- what is left to tell leads to the whole
pub record LeadsOn {O : Type 0} (Notes : O → Told → O → Type 0) (until : ℕ) (first n : Ledger) (before now : O) (steps : ℕ) : Type 0 where
  pub ledger : silenced steps until n ≡ silenced MOST_STEPS until first
  pub told : (after : O) → AreTold Notes (silence_told steps until n) now after → AreTold Notes (silence_told MOST_STEPS until first) before after
  -- it is the first step, or the first step told a loss
  pub lost : ((steps ≡ MOST_STEPS) × (n ≡ first)) ⊎ ((steps < MOST_STEPS) × (is_some (lost_place until first) ≡ true))

lost_before : (until left : ℕ) (first n : Ledger) → is_some (lost_place until n) ≡ true → ((suc left ≡ MOST_STEPS) × (n ≡ first)) ⊎ ((suc left < MOST_STEPS) × (is_some (lost_place until first) ≡ true))
    → (left < MOST_STEPS) × (is_some (lost_place until first) ≡ true)
lost_before until left first n lost (inl (all, same)) = (omega (arith, all), ap (λ (l : Ledger). is_some (lost_place until l)) (sym same) ∙ lost)
lost_before until left first n lost (inr (less, was)) = (omega (arith, less), was)

last_lost_by : (until steps : ℕ) (first n : Ledger) → is_some (lost_place until n) ≡ false → ((steps ≡ MOST_STEPS) × (n ≡ first)) ⊎ ((steps < MOST_STEPS) × (is_some (lost_place until first) ≡ true))
    → nat_lt steps MOST_STEPS ≡ is_some (lost_place until first)
last_lost_by until steps first n none (inl (all, same)) = le-ltb steps MOST_STEPS (omega (arith, all)) ∙ sym none ∙ ap (λ (l : Ledger). is_some (lost_place until l)) same
last_lost_by until steps first n none (inr (less, was)) = lt-ltb steps MOST_STEPS less ∙ sym was

none_lost_by : (until steps : ℕ) (first n : Ledger) → steps ≡ 0 → ((steps ≡ MOST_STEPS) × (n ≡ first)) ⊎ ((steps < MOST_STEPS) × (is_some (lost_place until first) ≡ true)) → true ≡ is_some (lost_place until first)
none_lost_by until steps first n none (inl (all, same)) = absurd (omega (arith, none, all))
none_lost_by until steps first n none (inr (less, was)) = sym was

module _ {O : Type 0} (Notes : O → Told → O → Type 0) (until : ℕ) (first : Ledger) (before : O) where
  pub begins : LeadsOn Notes until first first before before MOST_STEPS
  begins = record { ledger = refl; told = λ after rest. rest; lost = inl (refl, refl) }

  -- one more
  pub one_more_end : (left : ℕ) (n m : Ledger) (now later : O) → is_some (lost_place until n) ≡ true → m ≡ after_end until n → AreTold Notes (end_told until n) now later
      → LeadsOn Notes until first n before now (suc left) → LeadsOn Notes until first m before later left
  unfolding silenced silence_told
  one_more_end left n m now later lost is told on = record {
    ledger = ap (silenced left until) is ∙ sym (ap (λ (b : Bool). cond b (silenced left until (after_end until n)) (after_end until n)) lost) ∙ on.ledger;
    told = λ after rest.
        on.told after (told_as Notes (end_told until n ++ silence_told left until m) (silence_told (suc left) until n) now after
        (ap (λ (l : Ledger). end_told until n ++ silence_told left until l) is ∙ sym (ap (λ (b : Bool). end_told until n ++ cond b (silence_told left until (after_end until n)) []) lost))
        (told_both Notes (end_told until n) (silence_told left until m) now later after told rest));
    lost = inr (lost_before until left first n lost on.lost);
  }

  -- the last one, which finds no loss
  pub last_lost : (steps : ℕ) (n : Ledger) (now : O) → is_some (lost_place until n) ≡ false → LeadsOn Notes until first n before now steps → nat_lt steps MOST_STEPS ≡ is_some (lost_place until first)
  last_lost steps n now none on = last_lost_by until steps first n none on.lost

  pub last_ledger : (steps : ℕ) (n m : Ledger) (now : O) → 0 < steps → is_some (lost_place until n) ≡ false → m ≡ after_end until n → LeadsOn Notes until first n before now steps → m ≡ silenced MOST_STEPS until first
  unfolding silenced
  last_ledger zero n m now some lost is on = absurd (omega (arith, some))
  last_ledger (suc steps) n m now some lost is on =
      is ∙ sym (ap (λ (b : Bool). cond b (silenced steps until (after_end until n)) (after_end until n)) lost) ∙ on.ledger

  pub last_told : (steps : ℕ) (n : Ledger) (now later : O) → 0 < steps → is_some (lost_place until n) ≡ false → AreTold Notes (end_told until n) now later
      → LeadsOn Notes until first n before now steps → AreTold Notes (silence_told MOST_STEPS until first) before later
  unfolding silence_told
  last_told zero n now later some lost told on = absurd (omega (arith, some))
  last_told (suc steps) n now later some lost told on =
      on.told later (told_as Notes (end_told until n) (silence_told (suc steps) until n) now later
      (sym (append-nil (end_told until n)) ∙ sym (ap (λ (b : Bool). end_told until n ++ cond b (silence_told steps until (after_end until n)) []) lost)) told)

  -- no step is left
  pub none_ledger : (steps : ℕ) (n : Ledger) (now : O) → steps ≡ 0 → LeadsOn Notes until first n before now steps → n ≡ silenced MOST_STEPS until first
  unfolding silenced
  none_ledger zero n now none on = on.ledger
  none_ledger (suc steps) n now none on = absurd (omega (arith, none))

  pub none_told : (steps : ℕ) (n : Ledger) (now : O) → steps ≡ 0 → LeadsOn Notes until first n before now steps → AreTold Notes (silence_told MOST_STEPS until first) before now
  unfolding silence_told
  none_told zero n now none on = on.told now (told_nothing Notes now)
  none_told (suc steps) n now none on = absurd (omega (arith, none))

  pub none_lost : (steps : ℕ) (n : Ledger) (now : O) → steps ≡ 0 → LeadsOn Notes until first n before now steps → true ≡ is_some (lost_place until first)
  none_lost steps n now none on = none_lost_by until steps first n none on.lost
