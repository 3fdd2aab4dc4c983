-- The visits of a gateway's turns make its lines, and its looks.
use Rattle.std.proofs.Common.{◌≡◌, ℕ, List, [], ◌∷◌, ◌++◌, map, refl, sym, ap, subst, ◌∙◌}
use Rattle.sacn_node.specs.Setup.{Port, port_numbers}
use Rattle.sacn_node.specs.Cores.{Core, Node, core_at, node_frame}
use Rattle.sacn_edge.specs.NodeText.{Turn, FrameLine, node_after, with_frame, with_ports}
use Rattle.sacn_edge.proofs.Settling.{turn_settled}
use Rattle.sacn_gateway.specs.declared.backlog.Backlog.{Backlog}
use Rattle.sacn_machine.specs.Hearings.{Hearing}
use Rattle.sacn_gateway.specs.GatewayTurns.{heard_of, turns_of, backlog_after}
use Rattle.sacn_gateway.specs.GatewayText.{gateway_after, gateway_lines}
use Rattle.sacn_gateway.specs.GatewayRun.{IsWhole, AreWhole, latest_reading}
use Rattle.sacn_gateway.specs.PlainGateway.{backlog_at}
use Rattle.sacn_runs.specs.NodeVisits.{Visit, Came, Asked, Began, packet_heard}
use Rattle.sacn_runs.specs.GatewayRuns.{PortLook, came_in, gateway_visits, look_of, gateway_looks}
use Rattle.sacn_runs.proofs.Visits.{Showing, node_with, asked, shown_by, show_all, show_all-append}
use Rattle.sacn_runs.proofs.Turns.{heard_so, asked_so, node_kept}

-- ---- the looks among visits

abbrev pub looked_in : List Port → List Visit → Showing → List PortLook
looked_in ports [] s = []
looked_in ports (Came m o ∷ vs) s = looked_in ports vs (shown_by ports (Came m o) s)
looked_in ports (Asked m port ∷ vs) s = look_of (node_with ports (core_at m s.core)) m port ∷ looked_in ports vs (shown_by ports (Asked m port) s)
looked_in ports (Began ∷ vs) s = looked_in ports vs (shown_by ports Began s)

pub looked_in-append : (ports : List Port) (xs ys : List Visit) (s : Showing) → looked_in ports (xs ++ ys) s ≡ looked_in ports xs s ++ looked_in ports ys (show_all ports xs s)
looked_in-append ports [] ys s = refl
looked_in-append ports (Came m o ∷ xs) ys s = looked_in-append ports xs ys (shown_by ports (Came m o) s)
looked_in-append ports (Asked m port ∷ xs) ys s =
    ap (λ ls. look_of (node_with ports (core_at m s.core)) m port ∷ ls) (looked_in-append ports xs ys (shown_by ports (Asked m port) s))
looked_in-append ports (Began ∷ xs) ys s = looked_in-append ports xs ys (shown_by ports Began s)

-- ---- a turn

abbrev showing : Core → List FrameLine → Showing
showing c ls = record { core = c; lines = ls }

came_so : (ports : List Port) (ts : List Turn) (c : Core) (ls : List FrameLine) → show_all ports (came_in ts) (showing c ls) ≡ showing (node_after (node_with ports c) ts).core ls
came_so ports [] c ls = refl
came_so ports (t ∷ ts) c ls =
    let last = Came t.now (packet_heard t.heard) ∷ [] in
    show_all-append ports (came_in ts) last (showing c ls)
    ∙ ap (show_all ports last) (came_so ports ts c ls)
    ∙ ap (λ (d : Core). showing d ls) (heard_so t.now t.heard (node_after (node_with ports c) ts).core)

came_looked : (ports : List Port) (ts : List Turn) (s : Showing) → looked_in ports (came_in ts) s ≡ []
came_looked ports [] s = refl
came_looked ports (t ∷ ts) s =
    looked_in-append ports (came_in ts) (Came t.now (packet_heard t.heard) ∷ []) s ∙ ap (λ (ls : List PortLook). ls ++ []) (came_looked ports ts s)

-- where all that is lost is dropped, each look is answered with the frame of the core as it is
asked_looked : (ports : List Port) (now : ℕ) (numbers : List ℕ) (c : Core) (ls : List FrameLine) → core_at now c ≡ c → looked_in ports (map (λ number. Asked now number) numbers) (showing c ls) ≡ map (look_of (node_with ports c) now) numbers
asked_looked ports now [] c ls settled = refl
asked_looked ports now (p ∷ ps) c ls settled =
    ap (λ (d : Core). look_of (node_with ports d) now p ∷ looked_in ports (map (λ number. Asked now number) ps) (asked ports p d ls)) settled
    ∙ ap (λ xs. look_of (node_with ports c) now p ∷ xs) (asked_looked ports now ps c (with_frame p c.moment (node_frame p (node_with ports c)) ls) settled)

-- after a turn nothing more is lost at its latest reading
whole_settled : (senders : List (List ℕ)) (start : Backlog) (n : Node) (hs : List Hearing) → IsWhole hs
    → core_at (latest_reading hs) (node_after n (turns_of senders start hs)).core ≡ (node_after n (turns_of senders start hs)).core
whole_settled senders start n [] whole = absurd whole
whole_settled senders start n (h ∷ hs) whole =
    turn_settled h.now (heard_of senders (backlog_after start hs) h.now h.came) (node_after n (turns_of senders start hs)).core

-- ---- the turns of a gateway

backlog_same : (first : Node) (senders : List (List ℕ)) (turns : List (List Hearing)) → (gateway_after first senders turns).waits ≡ backlog_at turns
backlog_same first senders [] = refl
backlog_same first senders (hs ∷ turns) = ap (λ e. backlog_after e hs) (backlog_same first senders turns)

module _ (ports : List Port) (c : Core) (senders : List (List ℕ)) where
  abbrev first : Node
  first = node_with ports c

  abbrev start : Showing
  start = showing c []

  abbrev came : List Hearing → List (List Hearing) → List Turn
  came hs turns = turns_of senders (backlog_at turns) hs

  abbrev asks : List Hearing → List Visit
  asks hs = map (λ number. Asked (latest_reading hs) number) (port_numbers ports)

  pub gateway_kept : (turns : List (List Hearing)) → (gateway_after first senders turns).node ≡ node_with ports (gateway_after first senders turns).node.core
  gateway_kept [] = refl
  gateway_kept (hs ∷ turns) =
      let g = gateway_after first senders turns in
      let ts = turns_of senders g.waits hs in
      subst (λ (n : Node). node_after n ts ≡ node_with ports (node_after n ts).core) (sym (gateway_kept turns)) (node_kept ports g.node.core ts)

  -- the core after what came in one more turn, and the gateway's node
  abbrev next : List Hearing → List (List Hearing) → Core
  next hs turns = (node_after (node_with ports (gateway_after first senders turns).node.core) (came hs turns)).core

  next_is : (hs : List Hearing) (turns : List (List Hearing)) → node_with ports (next hs turns) ≡ (gateway_after first senders (hs ∷ turns)).node
  next_is hs turns =
      let g = gateway_after first senders turns in
      sym (node_kept ports g.node.core (came hs turns))
      ∙ ap (λ (n : Node). node_after n (came hs turns)) (sym (gateway_kept turns))
      ∙ ap (λ b. node_after g.node (turns_of senders b hs)) (sym (backlog_same first senders turns))

  settled : (hs : List Hearing) (turns : List (List Hearing)) → IsWhole hs → core_at (latest_reading hs) (next hs turns) ≡ next hs turns
  settled hs turns whole = whole_settled senders (backlog_at turns) (node_with ports (gateway_after first senders turns).node.core) hs whole

  pub gateway_so : (turns : List (List Hearing)) → AreWhole turns → show_all ports (gateway_visits (port_numbers ports) senders turns) start ≡ showing (gateway_after first senders turns).node.core (gateway_lines first senders turns)
  gateway_so [] whole = refl
  gateway_so (hs ∷ turns) whole =
      let g = gateway_after first senders turns in
      let ls = gateway_lines first senders turns in
      let numbers = port_numbers ports in
      let ts = came hs turns in
      show_all-append ports (gateway_visits numbers senders turns) (came_in ts ++ asks hs) start
      ∙ ap (show_all ports (came_in ts ++ asks hs)) (gateway_so turns whole.1)
      ∙ show_all-append ports (came_in ts) (asks hs) (showing g.node.core ls)
      ∙ ap (show_all ports (asks hs)) (came_so ports ts g.node.core ls)
      ∙ asked_so ports (latest_reading hs) numbers (next hs turns) ls (settled hs turns whole.0)
      ∙ ap (λ (n : Node). showing n.core (with_ports n numbers ls)) (next_is hs turns)

  pub gateway_looked : (turns : List (List Hearing)) → AreWhole turns → looked_in ports (gateway_visits (port_numbers ports) senders turns) start ≡ gateway_looks first senders turns
  gateway_looked [] whole = refl
  gateway_looked (hs ∷ turns) whole =
      let g = gateway_after first senders turns in
      let ls = gateway_lines first senders turns in
      let numbers = port_numbers ports in
      let ts = came hs turns in
      let before = gateway_visits numbers senders turns in
      let earlier = gateway_looks first senders turns in
      let all = came_in ts ++ asks hs in
      looked_in-append ports before all start
      ∙ ap (λ xs. xs ++ looked_in ports all (show_all ports before start)) (gateway_looked turns whole.1)
      ∙ ap (λ s. earlier ++ looked_in ports all s) (gateway_so turns whole.1)
      ∙ ap (λ xs. earlier ++ xs) (
      looked_in-append ports (came_in ts) (asks hs) (showing g.node.core ls)
      ∙ ap (λ xs. xs ++ looked_in ports (asks hs) (show_all ports (came_in ts) (showing g.node.core ls))) (came_looked ports ts (showing g.node.core ls))
      ∙ ap (looked_in ports (asks hs)) (came_so ports ts g.node.core ls)
      ∙ asked_looked ports (latest_reading hs) numbers (next hs turns) ls (settled hs turns whole.0)
      ∙ ap (λ (n : Node). map (look_of n (latest_reading hs)) numbers) (next_is hs turns)
      )
