-- Losses stay where something else comes.
use Rattle.std.proofs.Common.{◌≡◌, ◌<◌, ◌+◌, ℕ, suc, nat_lt, Bool, true, false, not, cond, List, [], ◌∷◌, ◌++◌, length, filter, remove, refl, ap, ◌∙◌, append-nil, None, Some, arith}
use Rattle.std.specs.List.{position_or_len}
use Rattle.std.specs.Option.{option_or}
use Rattle.std.proofs.lemmas.Bool.{ltb-true}
use Rattle.std.proofs.lemmas.List.Elements.{filter-append}
use Rattle.sacn_page.specs.declared.alarms.Alarm.{Alarm}
use Rattle.sacn_page.specs.Alarms.{LossesStay, giving_way, in_place_of, is_loss, losses, oldest, with_alarm, with_latest}

-- ---- without the first element that fails a test

module _ {A : Type 0} (test : A → Bool) where
  abbrev first : List A → ℕ
  first xs = position_or_len (λ (x : A). not (test x)) xs

  kept_by : (a : A) (more : List A) (b : Bool) → test a ≡ b → (first more < length more → filter test (remove more (first more)) ≡ filter test more)
      → cond (not (not b)) (1 + first more) 0 < length (a ∷ more)
      → filter test (remove (a ∷ more) (cond (not (not b)) (1 + first more) 0)) ≡ cond b (a ∷ filter test more) (filter test more)
  kept_by a more true is others low =
      let rest = filter test (remove more (first more)) in
      let next : 1 + first more ≡ suc (first more) = omega arith in
      ap (λ (n : ℕ). filter test (remove (a ∷ more) n)) next
      ∙ ap (λ (b : Bool). cond b (a ∷ rest) rest) is ∙ ap (λ (xs : List A). a ∷ xs) (others (omega (arith, low)))
  kept_by a more false is others low = refl

  kept : (xs : List A) → first xs < length xs → filter test (remove xs (first xs)) ≡ filter test xs
  kept [] low = absurd (omega (arith, low))
  kept (a ∷ more) low = kept_by a more (test a) refl (kept more) low

-- ---- one more that is no loss

lossy : Alarm → Bool
lossy a = is_loss a.trouble

module _ (a : Alarm) (other : is_loss a.trouble ≡ false) where
  none_more : losses (a ∷ []) ≡ []
  none_more = ap (λ (b : Bool). cond b (a ∷ []) []) other

  behind : (xs : List Alarm) → losses (xs ++ (a ∷ [])) ≡ losses xs
  behind xs = filter-append (λ (x : Alarm). is_loss x.trouble) xs (a ∷ []) ∙ ap (λ (ys : List Alarm). losses xs ++ ys) none_more ∙ append-nil (losses xs)

  in_place_by : (xs : List Alarm) (b : Bool) → nat_lt (first (λ (x : Alarm). is_loss x.trouble) xs) (length xs) ≡ b
      → losses (in_place_of (option_or (cond b (Some (first (λ (x : Alarm). is_loss x.trouble) xs)) None) (cond (is_loss a.trouble) (oldest xs) None)) a xs) ≡ losses xs
  in_place_by xs true is =
      let n = first (λ (x : Alarm). is_loss x.trouble) xs in
      behind (remove xs n) ∙ kept (λ (x : Alarm). is_loss x.trouble) xs (ltb-true n (length xs) is)
  in_place_by xs false is = ap (λ (b : Bool). losses (in_place_of (cond b (oldest xs) None) a xs)) other

  latest_by : (most : ℕ) (xs : List Alarm) (b : Bool) → losses (cond b (xs ++ (a ∷ [])) (in_place_of (giving_way a.trouble xs) a xs)) ≡ losses xs
  latest_by most xs true = behind xs
  latest_by most xs false = in_place_by xs (nat_lt (first (λ (x : Alarm). is_loss x.trouble) xs) (length xs)) refl

  latest : (most : ℕ) (xs : List Alarm) → losses (with_latest most a xs) ≡ losses xs
  unfolding with_latest
  latest most xs = latest_by most xs (nat_lt (length xs) most)

pub losses_stay : LossesStay
unfolding with_alarm
losses_stay at trouble k other = latest (record { moment = at; trouble = trouble; earlier = k.count }) other k.most k.latest
