-- The node after a datagram, whose frames are told.
use Rattle.std.proofs.Common.{◌≡◌, ℕ, true, false, List, map, Option, Some, Result, Ok, Err, OnOk, sym, ap, subst, ◌∙◌}
use Rattle.sacn_node.specs.declared.port_frame.PortFrame.{PortFrame}
use Rattle.sacn_node.specs.Calls.{with_reading}
use Rattle.sacn_node.specs.Cores.{Node}
use Rattle.sacn_node.specs.Readings.{Reading}
use Rattle.sacn_node.specs.Showings.{port_after, ports_of}
use Rattle.sacn_tell.specs.declared.stage.Stage.{Stage}
use Rattle.sacn_tell.specs.declared.teller.Teller.{Teller}
use Rattle.sacn_tell.specs.Causes.{Reason}
use Rattle.sacn_tell.specs.Shows.{Staged, after_turn, frames_told, staged, turn_shown}
use Rattle.sacn_tell.specs.Staging.{may_change_frames}
use Rattle.sacn_tell.specs.Tellings.{Tells}

abbrev of_two : Node → List PortFrame → Staged
of_two n ports = record { node = n; ports = ports }

shown_is : {T E : Type 0} (r : Result T E) (shown ports : List PortFrame) (n : Node) → OnOk r (shown ≡ ports) → OnOk r (Some (of_two n shown) ≡ Some (of_two n ports))
shown_is (Err fault) shown ports n are = tt
shown_is (Ok x) shown ports n are = ap (λ (ps : List PortFrame). Some (of_two n ps)) are

module _ (now : ℕ) (reading : Reading) (o : Option Stage) (s : Stage) (found : o ≡ Some s) where
  -- a datagram that changes no frame
  pub still_staged : (n : Node) (ports : List PortFrame) → may_change_frames now reading s.core.core ≡ false
      → n ≡ with_reading now reading s.core → ports ≡ ports_of s.showing → Some (of_two n ports) ≡ after_turn now reading (staged o)
  still_staged n ports still node same =
      rw (found, still) (ap (λ (m : Node). Some (of_two m ports)) node
      ∙ ap (λ (ps : List PortFrame). Some (of_two (with_reading now reading s.core) ps)) same)

  module _ {T E : Type 0} (r : Result T E) (mid : Node) (ports : List PortFrame) (stirs : may_change_frames now reading s.core.core ≡ true)
      (taken : mid ≡ with_reading now reading s.core) (same : ports ≡ ports_of s.showing) where
    -- its frames are told
    pub turn_told : {O : Type 0} (contents : O → Option (List ℕ)) (a b : Teller O) (first reason : Reason) → first ≡ reason
        → OnOk r (Tells contents a b (frames_told a.form now first mid ports)) → OnOk r (Tells contents a b (turn_shown a.form now reading reason (staged o)))
    turn_told {O = O} contents a b first reason why told =
        rw (found, stirs)
        (subst (λ (n : Node). OnOk r (Tells {O = O} contents a b (frames_told a.form now reason n (ports_of s.showing)))) taken
        (subst (λ (ps : List PortFrame). OnOk r (Tells {O = O} contents a b (frames_told a.form now reason mid ps))) same
        (subst (λ (y : Reason). OnOk r (Tells {O = O} contents a b (frames_told a.form now y mid ports))) why told)))

    -- and they are those of the latest look
    pub turn_staged : (last : Node) (shown : List PortFrame) → last ≡ mid → OnOk r (shown ≡ map (port_after mid) ports) → OnOk r (Some (of_two last shown) ≡ after_turn now reading (staged o))
    turn_staged last shown kept are =
        subst (λ (l : Node). OnOk r (Some (of_two l shown) ≡ after_turn now reading (staged o))) (sym kept)
        (rw (found, stirs)
        (subst (λ (n : Node). OnOk r (Some (of_two mid shown) ≡ Some (of_two n (map (port_after n) (ports_of s.showing))))) taken
        (subst (λ (ps : List PortFrame). OnOk r (Some (of_two mid shown) ≡ Some (of_two mid (map (port_after mid) ps)))) same
        (shown_is r shown (map (port_after mid) ports) mid are))))
