-- What interfaces are offered in one turn more.
use Rattle.std.proofs.Common.{◌≡◌, ℕ, ◌==◌, true, false, cond, List, [], ◌∷◌, ◌++◌, map, find, drop, get_or, refl, sym, ap, subst, ◌∙◌, arith, length, Option, Some, None}
use Rattle.std.proofs.lemmas.Bool.{eqb-true}
use Rattle.sacn_node.specs.Setup.{Port, port_numbers}
use Rattle.sacn_node.specs.Cores.{Node, node_frame, core_slots}
use Rattle.sacn_node.specs.Ports.{port_of, frame_on}
use Rattle.sacn_node.specs.declared.port_frame.PortFrame.{PortFrame}
use Rattle.sacn_node.specs.Showings.{port_after, with_found}
use Rattle.sacn_node.proofs.Looks.{numbers_after}
use Rattle.sacn_edge.specs.Additions.{Extends}
use Rattle.sacn_edge.proofs.NodeLemmas.{numbers, Extends-append}
use Rattle.sacn_machine.specs.Hearings.{Hearing}
use Rattle.sacn_gateway.specs.GatewayText.{gateway_after}
use Rattle.sacn_gateway.specs.GatewayRun.{latest_reading}
use Rattle.sacn_machine.specs.Widgets.{widget_text}
use Rattle.sacn_machine.specs.declared.device.Took.{Took}
use Rattle.sacn_machine.specs.declared.device.Offer.{Offer}
use Rattle.sacn_gateway.specs.declared.interface.Interface.{Interface}
use Rattle.sacn_gateway.specs.Interfaces.{is_due, offered, latest_of, frame_after, in_time, IsOffered, AreOffered, Pairwise, last_of, frame_in, IsServed}
use Rattle.sacn_gateway.proofs.Draining.{ports_kept}
use Rattle.sacn_machine.proofs.Untold.{Extends-none}

-- ---- the frame of a port among those of the latest look

module _ (n : Node) (port : ℕ) where
  abbrev shown : List PortFrame → Option (List ℕ)
  shown ss = last_of (find (λ (s : PortFrame). s.port == port) (map (port_after n) ss))

  abbrev found : List Port → Option (List ℕ)
  found ps = frame_on (core_slots n.core) (port_of port ps)

  number_after : (s : PortFrame) → (port_after n s).port ≡ s.port
  number_after s = ap (λ l. get_or l 0 0) (numbers_after n (s ∷ []))

  own : (s : PortFrame) (p : Port) (ps : List Port) → s.port ≡ p.number → (s.port == port) ≡ true → node_frame port n ≡ found (p ∷ ps) → (port_after n s).last ≡ found (p ∷ ps)
  own s p ps head here all =
      let is : found (p ∷ ps) ≡ frame_on (core_slots n.core) (Some p) = ap (λ b. frame_on (core_slots n.core) (cond b (Some p) (port_of port ps))) (ap (λ k. k == port) (sym head) ∙ here) in
      ap (λ k. (with_found s (node_frame k n)).last) (eqb-true s.port port here) ∙ ap (λ f. (with_found s f).last) (all ∙ is) ∙ sym is

  past : (s : PortFrame) (p : Port) (ps : List Port) → s.port ≡ p.number → (s.port == port) ≡ false → found (p ∷ ps) ≡ found ps
  past s p ps head other = ap (λ b. frame_on (core_slots n.core) (cond b (Some p) (port_of port ps))) (ap (λ k. k == port) (sym head) ∙ other)

  shown_same : (ss : List PortFrame) (ps : List Port) → numbers ss ≡ port_numbers ps → node_frame port n ≡ found ps → shown ss ≡ found ps
  shown_same [] [] same all = refl
  shown_same [] (p ∷ ps) same all = absurd (omega (arith, ap length same))
  shown_same (s ∷ ss) [] same all = absurd (omega (arith, ap length same))
  shown_same (s ∷ ss) (p ∷ ps) same all =
      let head : s.port ≡ p.number = ap (λ l. get_or l 0 0) same in
      let tail : numbers ss ≡ port_numbers ps = ap (drop 1) same in
      ap (λ k. last_of (cond (k == port) (Some (port_after n s)) (find (λ (s : PortFrame). s.port == port) (map (port_after n) ss)))) (number_after s)
      ∙ (elim (s.port == port) as (λ b. (s.port == port) ≡ b → last_of (cond b (Some (port_after n s)) (find (λ (s : PortFrame). s.port == port) (map (port_after n) ss))) ≡ found (p ∷ ps)) [
        | true ↦ λ here. own s p ps head here all
        | false ↦ λ other. shown_same ss ps tail (all ∙ past s p ps head other) ∙ sym (past s p ps head other)
      ] refl)

-- a gateway's node keeps its ports
gateway_ports : (first : Node) (senders : List (List ℕ)) (turns : List (List Hearing)) → (gateway_after first senders turns).node.ports ≡ first.ports
gateway_ports first senders [] = refl
gateway_ports first senders (hs ∷ turns) =
    ports_kept senders (gateway_after first senders turns).waits hs (gateway_after first senders turns).node (gateway_after first senders (hs ∷ turns)).node refl
    ∙ gateway_ports first senders turns

pub frame_is : (first n : Node) (senders : List (List ℕ)) (hs : List Hearing) (turns : List (List Hearing)) (ss : List PortFrame) (port : ℕ)
    → n ≡ (gateway_after first senders (hs ∷ turns)).node → numbers ss ≡ port_numbers first.ports
    → frame_in port (map (port_after n) ss) ≡ frame_after first senders port (hs ∷ turns)
frame_is first n senders hs turns ss port is ports_own =
    let ports : n.ports ≡ first.ports = ap (λ (m : Node). m.ports) is ∙ gateway_ports first senders (hs ∷ turns) in
    shown_same n port ss n.ports (ports_own ∙ sym (ap port_numbers ports)) refl ∙ ap (node_frame port) is

-- ---- offers

append_nil : {X : Type 0} (xs : List X) → xs ++ [] ≡ xs
append_nil [] = refl
append_nil (x ∷ xs) = ap (λ t. x ∷ t) (append_nil xs)

-- at most one is offered in a turn
in_time_more : (now : ℕ) (frame : Option (List ℕ)) (latest : Option Offer) (took : Took) (earlier : List Offer)
    → in_time earlier ++ offered now frame latest took ≡ in_time (offered now frame latest took ++ earlier)
in_time_more now None latest took earlier = append_nil (in_time earlier)
in_time_more now (Some frame) latest took earlier =
    let o : Offer = record { now = now; packet = widget_text frame; took = took } in
    elim (is_due latest now (widget_text frame)) as (λ b. in_time earlier ++ cond b (o ∷ []) [] ≡ in_time (cond b (o ∷ []) [] ++ earlier)) [
      | true ↦ refl
      | false ↦ append_nil (in_time earlier)
    ]

latest_more : (xs earlier : List Offer) (before : Option Offer) → latest_of xs (latest_of earlier before) ≡ latest_of (xs ++ earlier) before
latest_more [] earlier before = refl
latest_more (x ∷ xs) earlier before = refl

pub not_offered : {D : Type 0} (told : D → Option (List Offer)) (first : Node) (senders : List (List ℕ)) (is : List (Interface D)) → AreOffered told first senders [] is is
not_offered told first senders [] = tt
not_offered told first senders (i ∷ is) = ((refl, [], refl, Extends-none (told i.device), refl), not_offered told first senders is)

-- one turn more of a gateway, which ends at this reading with these frames
module _ {D : Type 0} (told : D → Option (List Offer)) (first : Node) (senders : List (List ℕ)) (hs : List Hearing) (turns : List (List Hearing)) (now : ℕ) (ports : List PortFrame) (at : now ≡ latest_reading hs) (frames : (port : ℕ) → frame_in port ports ≡ frame_after first senders port (hs ∷ turns)) where
  one_more : (old mid new : Interface D) → IsOffered told first senders turns old mid → IsServed told now ports mid new → IsOffered told first senders (hs ∷ turns) old new
  one_more old mid new sofar served =
      let took = served.1 in
      let earlier = sofar.1 in
      let more = offered (latest_reading hs) (frame_after first senders old.port (hs ∷ turns)) (latest_of earlier old.latest) took in
      let same : offered now (frame_in mid.port ports) mid.latest took ≡ more =
      ap (λ k. offered k (frame_in mid.port ports) mid.latest took) at
      ∙ ap (λ f. offered (latest_reading hs) f mid.latest took) (frames mid.port ∙ ap (λ p. frame_after first senders p (hs ∷ turns)) sofar.0)
      ∙ ap (λ l. offered (latest_reading hs) (frame_after first senders old.port (hs ∷ turns)) l took) sofar.4 in (
        served.0 ∙ sofar.0,
        more ++ earlier,
        (took, earlier, sofar.2, refl),
        subst (Extends (told old.device) (told new.device)) (in_time_more (latest_reading hs) (frame_after first senders old.port (hs ∷ turns)) (latest_of earlier old.latest) took earlier)
            (Extends-append (told old.device) (told mid.device) (told new.device) (in_time earlier) more sofar.3 (subst (Extends (told mid.device) (told new.device)) same served.2)),
        served.3 ∙ ap (λ xs. latest_of xs mid.latest) same ∙ ap (latest_of more) sofar.4 ∙ latest_more more earlier old.latest,
      )

  pub all_more : (olds mids news : List (Interface D)) → AreOffered told first senders turns olds mids → Pairwise (IsServed told now ports) mids news → AreOffered told first senders (hs ∷ turns) olds news
  all_more [] [] [] sofar served = tt
  all_more [] [] (k ∷ ks) sofar served = absurd served
  all_more [] (j ∷ js) ks sofar served = absurd sofar
  all_more (i ∷ is) [] ks sofar served = absurd sofar
  all_more (i ∷ is) (j ∷ js) [] sofar served = absurd served
  all_more (i ∷ is) (j ∷ js) (k ∷ ks) sofar served = (one_more i j k sofar.0 served.0, all_more is js ks sofar.1 served.1)
