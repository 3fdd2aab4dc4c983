-- What a replay will show at a moment stays the same where its clock rests before that, and where the recording is wrong.
use Rattle.std.proofs.Common.{◌≡◌, ◌≤◌, ◌<◌, inl, inr, ℕ, nat_le, cond, List, [], ◌∷◌, ◌++◌, Option, None, Some, Result, Ok, Err, IfOk, refl, sym, ap, ◌∙◌, arith}
use Rattle.sacn_packets.specs.declared.root.fault.PacketFault.{PacketFault}
use Rattle.sacn_packets.specs.declared.framing.packet.Packet.{Packet}
use Rattle.sacn_packets.specs.PacketReading.{reading_packet}
use Rattle.sacn_capture.specs.declared.faults.CaptureFault.{CaptureFault}
use Rattle.sacn_capture.specs.Files.{IsOutside}
use Rattle.sacn_capture.specs.Recordings.{Shown, Told}
use Rattle.sacn_capture.specs.Streams.{Gives}
use Rattle.sacn_monitor.specs.declared.account.Endpoint.{Endpoint}
use Rattle.sacn_monitor.specs.Histories.{Call, Take, Tick, moment_of}
use Rattle.sacn_network.specs.declared.ledger.Ledger.{Ledger}
use Rattle.sacn_network.specs.Networks.{JoinsLater, handed, note_of, take_told, taken, tick_told, ticked}
use Rattle.sacn_network.specs.Packets.{after_noted, noted_told}
use Rattle.sacn_network.specs.Telling as telling
use Rattle.sacn_tell.specs.declared.follow.Timeline.{Timeline}
use Rattle.sacn_page.specs.declared.replay.Next.{Next}
use Rattle.sacn_page.specs.declared.replay.Next.TheVariants.{Unread, Frame, Nothing}
use Rattle.sacn_page.specs.declared.replay.Pending.{Pending}
use Rattle.sacn_page.specs.Alarms.{KeptAlarms, alarms_after, alarms_told}
use Rattle.sacn_page.specs.Replays.{Followed, Known, StaysShown, after_call, after_pending, call_by, followed_to, shown_by, shown_from}

-- ---- calls

abbrev known : Ledger → KeptAlarms → Known
known n a = record { network = n; alarms = a }

known_is : (n m : Ledger) (a b : KeptAlarms) → n ≡ m → a ≡ b → known n a ≡ known m b
known_is n m a b network alarms = ap (λ (l : Ledger). known l a) network ∙ ap (λ (k : KeptAlarms). known m k) alarms

alarms_both : (xs ys : List telling.Told) (a : KeptAlarms) → alarms_told (xs ++ ys) a ≡ alarms_told ys (alarms_told xs a)
alarms_both [] ys a = refl
alarms_both (x ∷ xs) ys a = alarms_both xs ys (alarms_after x a)

module _ (now : ℕ) (n m : Ledger) (a b : KeptAlarms) (alarms : b ≡ alarms_told (tick_told now n) a) (joins : JoinsLater now n m) where
  tick_alarms : (later : ℕ) → now ≤ later → alarms_told (tick_told later m) b ≡ alarms_told (tick_told later n) a
  tick_alarms later by =
      ap (alarms_told (tick_told later m)) alarms
      ∙ sym (alarms_both (tick_told now n) (tick_told later m) a)
      ∙ ap (λ (os : List telling.Told). alarms_told os a) (joins later by).1

  -- what a network tells of a datagram, once the clock is moved
  abbrev noted : ℕ → Endpoint → Result Packet PacketFault → Ledger → List telling.Told
  noted later sender r l = noted_told sender (note_of later sender r l) (handed later sender r l)

  take_alarms : (later : ℕ) (sender : Endpoint) (r : Result Packet PacketFault) → now ≤ later → alarms_told (take_told later sender r m) b ≡ alarms_told (take_told later sender r n) a
  take_alarms later sender r by =
      alarms_both (tick_told later m) (noted later sender r (ticked later m)) b
      ∙ ap (alarms_told (noted later sender r (ticked later m))) (tick_alarms later by)
      ∙ ap (λ (l : Ledger). alarms_told (noted later sender r l) (alarms_told (tick_told later n) a)) (joins later by).0
      ∙ sym (alarms_both (tick_told later n) (noted later sender r (ticked later n)) a)

  -- a call at a later moment leaves what it would without the tick
  pub later_call : (call : Call) → now ≤ moment_of call → after_call call (known m b) ≡ after_call call (known n a)
  later_call (Tick later) by = known_is (ticked later m) (ticked later n) _ _ (joins later by).0 (tick_alarms later by)
  later_call (Take later sender octets) by =
      let r = reading_packet octets in
      known_is (taken later sender r m) (taken later sender r n) _ _
      (ap (λ (l : Ledger). after_noted (note_of later sender r l) (handed later sender r l)) (joins later by).0) (take_alarms later sender r by)

-- ---- what comes next

abbrev at_clock : Timeline → Known → Followed
at_clock clock k = record { clock = clock; known = k }

fault_next : (later port : ℕ) (f : Followed) (fault : CaptureFault) (next : Next) (before_octets octets : List ℕ) (before after : Option Told) → next ≡ Nothing (Some fault) → (IsOutside fault.kind → ⊥) → Gives (Err fault) before after
    → StaysShown (shown_by later port Unread before_octets before f) (shown_by later port next octets after f)
fault_next later port f fault next before_octets octets None after is inside gives = tt
fault_next later port f fault next before_octets octets (Some all) after is inside (left, says) =
    ap (λ (n : Next). shown_by later port n octets after f) is
    ∙ ap (λ (o : Option Told). shown_by later port (Nothing (Some fault)) octets o f) left
    ∙ elim says [
      | inl outside ↦ absurd (inside outside)
      | inr first ↦ ap (λ (t : Told). Some (followed_to later port t.frames f)) (sym first)
    ]

-- nothing comes behind what is wrong with the recording
pub fault_stops : {E : Type 0} (later port : ℕ) (f : Followed) (fault : CaptureFault) (result : Result Next E) (before_octets octets : List ℕ) (before after : Option Told)
    → IfOk result (λ next. (next ≡ Nothing (Some fault)) × (IsOutside fault.kind → ⊥)) → Gives (Err fault) before after
    → IfOk result (λ next. StaysShown (shown_by later port Unread before_octets before f) (shown_by later port next octets after f))
fault_stops later port f fault (Ok next) before_octets octets before after (is, inside) gives = fault_next later port f fault next before_octets octets before after is inside gives
fault_stops later port f fault (Err e) before_octets octets before after stops gives = tt

-- ---- the clock rests at a moment

module _ (until port : ℕ) (octets : List ℕ) (f : Followed) (k : Known) (joins : (call : Call) → until ≤ moment_of call → after_call call k ≡ after_call call f.known) where
  frame_later : (later : ℕ) (p : Pending) (frames : List Shown) → until ≤ later → until ≤ p.clock.now
      → shown_from later port (Frame p) octets frames (at_clock f.clock k) ≡ shown_from later port (Frame p) octets frames f
  frame_later later p frames by before =
      ap (λ (x : Known). cond (nat_le p.clock.now later) (followed_to later port frames (at_clock p.clock x)) (after_call (Tick later) k)) (joins (call_by p.sender p.clock.now octets) (at_call p.sender))
      ∙ ap (λ (x : Known). cond (nat_le p.clock.now later) (followed_to later port frames (after_pending p octets f)) x) (joins (Tick later) by)
    where
      at_call : (sender : Option Endpoint) → until ≤ moment_of (call_by sender p.clock.now octets)
      at_call None = before
      at_call (Some sender) = before

  pub frame_rests : (later : ℕ) (p : Pending) (behind : Option Told) → until ≤ later → until < p.clock.now
      → StaysShown (shown_by later port (Frame p) octets behind f) (shown_by later port (Frame p) octets behind (at_clock f.clock k))
  frame_rests later p None by before = tt
  frame_rests later p (Some all) by before = ap Some (frame_later later p all.frames by (omega (arith, before)))

  pub end_rests : (later : ℕ) (fault : Option CaptureFault) (behind : Option Told) → until ≡ f.clock.now
      → StaysShown (shown_by later port (Nothing fault) octets behind f) (shown_by later port (Nothing fault) octets behind (at_clock f.clock k))
  end_rests later fault None at = tt
  end_rests later fault (Some all) at = ap Some (joins (Tick f.clock.now) (omega (arith, at)))
