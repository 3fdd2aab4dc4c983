-- What the offers of a run come to.
use Rattle.std.proofs.Common.{◌≡◌, ℕ, ◌+◌, ◌-◌, ◌<◌, ◌≤◌, ◌||◌, nat_lt, Bool, true, false, not, cond, true≢false, List, [], ◌∷◌, ◌++◌, refl, sym, ap, subst, ◌∙◌, arith, Option, Some, None}
use Rattle.std.proofs.lemmas.Bool.{ltb-true, ltb-false}
use Rattle.sacn_node.specs.Cores.{Node}
use Rattle.sacn_node.specs.Showings.{same}
use Rattle.sacn_node.proofs.Looks.{same_is}
use Rattle.sacn_machine.specs.Hearings.{Hearing}
use Rattle.sacn_gateway.specs.GatewayRun.{latest_reading}
use Rattle.sacn_machine.specs.Widgets.{widget_text}
use Rattle.sacn_machine.specs.declared.device.Took.{Took}
use Rattle.sacn_machine.specs.declared.device.Took.TheVariants.{Whole, Failed}
use Rattle.sacn_machine.specs.declared.device.DeviceFault.{DeviceFault}
use Rattle.sacn_machine.specs.declared.device.Offer.{Offer}
use Rattle.sacn_gateway.specs.declared.limits.TheConstants.{REFRESH, RETRY}
use Rattle.sacn_gateway.specs.Interfaces.{has_passed, is_due, is_due_after, offered, frame_after, latest_of}
use Rattle.sacn_gateway.specs.InterfaceLaws.{WorkingDevicesShowTheirPorts, FailedDevicesAreTriedAgain, IsRested, AreRested, FailedDevicesRest, AreOfTurns, OffersAreOfTheirPort}

-- an option's value, or another
abbrev held : Offer → Option Offer → Offer
held o None = o
held o (Some p) = p

-- ---- what is known where nothing was due, and where something was

not_passed : (wait since now : ℕ) → 0 < wait → has_passed wait since now ≡ false → now < since + wait
not_passed wait since now some none = omega (arith, some, ltb-true (now - since) wait (turned (nat_lt (now - since) wait) none))
  where
    turned : (b : Bool) → not b ≡ false → b ≡ true
    turned true is = refl
    turned false is = absurd (true≢false is)

passed : (wait since now : ℕ) → 0 < wait → has_passed wait since now ≡ true → since + wait ≤ now
passed wait since now some is = omega (arith, some, ltb-false (now - since) wait (turned (nat_lt (now - since) wait) is))
  where
    turned : (b : Bool) → not b ≡ true → b ≡ false
    turned true is = absurd (true≢false (sym is))
    turned false is = refl

neither : (a b : Bool) → (not a || b) ≡ false → (a ≡ true) × (b ≡ false)
neither true b is = (refl, is)
neither false b is = absurd (true≢false is)

whole_stays : (o : Offer) (now : ℕ) (packet : List ℕ) → is_due (Some o) now packet ≡ false → o.took ≡ Whole → (o.packet ≡ packet) × (now < o.now + REFRESH)
whole_stays o now packet none took =
    let parts = neither (same o.packet packet) (has_passed REFRESH o.now now) (sym (ap (λ (t : Took). is_due_after t (not (same o.packet packet)) o.now now) took) ∙ none) in
    (same_is o.packet packet parts.0, not_passed REFRESH o.now now (omega arith) parts.1)

failed_stays : (o : Offer) (now : ℕ) (packet : List ℕ) (fault : DeviceFault) → is_due (Some o) now packet ≡ false → o.took ≡ Failed fault → now < o.now + RETRY
failed_stays o now packet fault none took =
    not_passed RETRY o.now now (omega arith) (sym (ap (λ (t : Took). is_due_after t (not (same o.packet packet)) o.now now) took) ∙ none)

failed_rested : (o : Offer) (now : ℕ) (packet : List ℕ) (fault : DeviceFault) → is_due (Some o) now packet ≡ true → o.took ≡ Failed fault → o.now + RETRY ≤ now
failed_rested o now packet fault due took =
    passed RETRY o.now now (omega arith) (sym (ap (λ (t : Took). is_due_after t (not (same o.packet packet)) o.now now) took) ∙ due)

-- ---- the latest offer after a turn

module _ (P : Offer → Type 0) (now : ℕ) (packet : List ℕ) (took : Took) (earlier : List Offer) (before : Option Offer) (o : Offer) where
  abbrev fresh : Offer
  fresh = record { now = now; packet = packet; took = took }

  -- it is this turn's, or nothing was due
  latest_is : P fresh → (is_due (Some o) now packet ≡ false → P o) → (latest_of (cond (is_due (latest_of earlier before) now packet) (fresh ∷ []) [] ++ earlier) before ≡ Some o) → P o
  latest_is new old =
      elim (is_due (latest_of earlier before) now packet) as (λ b. is_due (latest_of earlier before) now packet ≡ b → latest_of (cond b (fresh ∷ []) [] ++ earlier) before ≡ Some o → P o) [
        | true ↦ λ due is. subst P (ap (held o) is) new
        | false ↦ λ none is. old (ap (λ l. is_due l now packet) (sym is) ∙ none)
      ] refl

pub working : WorkingDevicesShowTheirPorts
working first senders port before hs turns offers frame o are framed latest took =
    let now = latest_reading hs in
    let packet = widget_text frame in
    let earlier = are.1 in
    let is : latest_of (offered now (Some frame) (latest_of earlier before) are.0 ++ earlier) before ≡ Some o =
    ap (λ f. latest_of (offered now f (latest_of earlier before) are.0 ++ earlier) before) (sym framed) ∙ ap (λ os. latest_of os before) (sym are.3) ∙ latest in
    latest_is (λ (p : Offer). p.took ≡ Whole → (p.packet ≡ packet) × (now < p.now + REFRESH)) now packet are.0 earlier before o
    (λ _. (refl, omega arith)) (λ none. whole_stays o now packet none) is took

pub tried_again : FailedDevicesAreTriedAgain
tried_again first senders port before hs turns offers frame o fault are framed latest took =
    let now = latest_reading hs in
    let packet = widget_text frame in
    let earlier = are.1 in
    let is : latest_of (offered now (Some frame) (latest_of earlier before) are.0 ++ earlier) before ≡ Some o =
    ap (λ f. latest_of (offered now f (latest_of earlier before) are.0 ++ earlier) before) (sym framed) ∙ ap (λ os. latest_of os before) (sym are.3) ∙ latest in
    latest_is (λ (p : Offer). p.took ≡ Failed fault → now < p.now + RETRY) now packet are.0 earlier before o
    (λ _. omega arith) (λ none. failed_stays o now packet fault none) is took

-- ---- every offer

rested : (now : ℕ) (frame : Option (List ℕ)) (took : Took) (earlier : List Offer) (before : Option Offer) → AreRested before earlier → AreRested before (offered now frame (latest_of earlier before) took ++ earlier)
rested now None took earlier before sofar = sofar
rested now (Some frame) took earlier before sofar =
    let packet = widget_text frame in
    let o : Offer = record { now = now; packet = packet; took = took } in
    elim (is_due (latest_of earlier before) now packet) as (λ b. is_due (latest_of earlier before) now packet ≡ b → AreRested before (cond b (o ∷ []) [] ++ earlier)) [
      | true ↦ λ due. (after o packet refl (latest_of earlier before) due, sofar)
      | false ↦ λ none. sofar
    ] refl
  where
    after : (o : Offer) (packet : List ℕ) → o.packet ≡ packet → (latest : Option Offer) → is_due latest o.now packet ≡ true → IsRested o latest
    after o packet is None due = tt
    after o packet is (Some p) due = λ fault failed. failed_rested p o.now packet fault due failed

pub rest : FailedDevicesRest
rest first senders port before [] offers are = subst (AreRested before) (sym are) tt
rest first senders port before (hs ∷ turns) offers are =
    subst (AreRested before) (sym are.3)
    (rested (latest_reading hs) (frame_after first senders port (hs ∷ turns)) are.0 are.1 before (rest first senders port before turns are.1 are.2))

module _ (first : Node) (senders : List (List ℕ)) (port : ℕ) (hs : List Hearing) (turns : List (List Hearing)) where
  still : (offers : List Offer) → AreOfTurns first senders port turns offers → AreOfTurns first senders port (hs ∷ turns) offers
  still [] all = tt
  still (o ∷ offers) all =
      let one = all.0 in
      ((hs ∷ one.0, one.1, one.2, one.3, ap (λ t. hs ∷ t) one.4, one.5, one.6, one.7), still offers all.1)

  of_turn : (f : Option (List ℕ)) → frame_after first senders port (hs ∷ turns) ≡ f → (latest : Option Offer) (took : Took) (earlier : List Offer) → AreOfTurns first senders port turns earlier
      → AreOfTurns first senders port (hs ∷ turns) (offered (latest_reading hs) f latest took ++ earlier)
  of_turn None framed latest took earlier sofar = still earlier sofar
  of_turn (Some frame) framed latest took earlier sofar =
      let o : Offer = record { now = latest_reading hs; packet = widget_text frame; took = took } in
      elim (is_due latest (latest_reading hs) (widget_text frame)) as (λ b. AreOfTurns first senders port (hs ∷ turns) (cond b (o ∷ []) [] ++ earlier)) [
        | true ↦ (([], hs, turns, frame, refl, refl, framed, refl), still earlier sofar)
        | false ↦ still earlier sofar
      ]

pub of_turns : OffersAreOfTheirPort
of_turns first senders port before [] offers are = subst (AreOfTurns first senders port []) (sym are) tt
of_turns first senders port before (hs ∷ turns) offers are =
    subst (AreOfTurns first senders port (hs ∷ turns)) (sym are.3)
    (of_turn first senders port hs turns (frame_after first senders port (hs ∷ turns)) refl (latest_of are.1 before) are.0 are.1 (of_turns first senders port before turns are.1 are.2))
