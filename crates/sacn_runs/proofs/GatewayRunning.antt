-- A run of a world is the gateway of each of its nodes.
use Rattle.std.proofs.Common.{◌≡◌, ℕ, List, [], ◌++◌, map, Some, sym, ap, ◌∙◌, slice_get}
use Rattle.std.specs.Prelude.{option_map}
use Rattle.std.proofs.lemmas.Option.{same_Some, slice_get-map}
use Rattle.sacn_console.specs.Shows.{ShowContent}
use Rattle.sacn_node.specs.Setup.{Port, port_numbers}
use Rattle.sacn_schedule.specs.Cids.{Desk}
use Rattle.sacn_schedule.specs.declared.event.Event.{Event}
use Rattle.sacn_edge.specs.NodeText.{text_of}
use Rattle.sacn_machine.specs.Hearings.{Hearing}
use Rattle.sacn_gateway.specs.GatewayText.{gateway_after}
use Rattle.sacn_gateway.specs.GatewayRun.{AreWhole}
use Rattle.sacn_gateway.specs.InterfaceLaws.{OffersAreOfTheirPort}
use Rattle.sacn_world.specs.Nodes.{Node, seen_core}
use Rattle.sacn_world.specs.Worlds.{World, new_world, WorldOk}
use Rattle.sacn_world.specs.Runs.{Ran, ran}
use Rattle.sacn_world.specs.Laws.{reached}
use Rattle.sacn_world.proofs.Origin.{Origin, reached_origin}
use Rattle.sacn_world.proofs.Ran.{ran_after}
use Rattle.sacn_world.proofs.Reaching.{reached_ok, joined}
use Rattle.sacn_runs.specs.NodeVisits.{visits}
use Rattle.sacn_runs.specs.GatewayRuns.{gateway_visits, RunsAsAGateway, GatewaysRunAsInAWorld}
use Rattle.sacn_runs.proofs.Visits.{Showing, node_with, show_all}
use Rattle.sacn_runs.proofs.GatewayTurns.{looked_in, gateway_kept, gateway_so, gateway_looked}
use Rattle.sacn_runs.proofs.Lights.{offer_looked}
use Rattle.sacn_runs.proofs.NodeEvents.{Sees}
use Rattle.sacn_runs.proofs.NodeRunning.{own, run_made}

shown_by_gateway :
    OffersAreOfTheirPort → (shows : List ShowContent) (setups : List (List Port)) (i : ℕ) (n : Node) → slice_get setups i ≡ Some n.ports → (w v : World) (senders : List (List ℕ)) (turns : List (List Hearing)) →
    WorldOk w → Origin shows setups w → Origin shows setups v → (events : List Event) (run : Ran) → run.world ≡ v → ran w events ≡ Some run → slice_get w.nodes i ≡ Some n → AreWhole turns →
    visits w i events ≡ gateway_visits (port_numbers n.ports) senders turns → RunsAsAGateway w run.world i n events run.answers senders turns
unfolding seen_core
shown_by_gateway of_turns shows setups i n set w v senders turns ok o later events run ev h there whole same =
    let ports = n.ports in
    let c = seen_core w.sent n in
    let s : Showing = record { core = c; lines = [] } in
    let one : Sees w i c = λ m e. ap (seen_core w.sent) (same_Some m n (sym e ∙ there)) in
    let made = run_made shows setups i ports set w ok o events run h s one in
    let all = ap (λ vs. show_all ports vs s) same ∙ gateway_so ports c senders turns whole in
    let lines = made.lines ∙ ap (λ (x : Showing). x.lines) all in
    let frames = made.looks_are ∙ ap (λ vs. looked_in ports vs s) same ∙ gateway_looked ports c senders turns whole in
    record {
      lines = lines;
      text = ap text_of lines;
      frames = frames;
      left = λ l e.
          let core : seen_core run.world.sent l ≡ (gateway_after (node_with ports c) senders turns).node.core = made.sees l e ∙ ap (λ (x : Showing). x.core) all in
          let its : l.ports ≡ ports = own shows setups i ports set v later l (ap (λ (x : World). slice_get x.nodes i) (sym ev) ∙ e) in
          ap (λ ps. node_with ps (seen_core run.world.sent l)) its ∙ ap (node_with ports) core ∙ sym (gateway_kept ports c senders turns);
      offered = offer_looked of_turns ports c senders turns i events run.answers frames;
    }

pub gateways_run : OffersAreOfTheirPort → GatewaysRunAsInAWorld
gateways_run of_turns shows setups earlier events run i n senders turns apart h there whole same =
    let w = reached shows setups earlier in
    let o = reached_origin shows setups earlier in
    let later = reached_origin shows setups (earlier ++ events) in
    let v : reached shows setups (earlier ++ events) ≡ run.world = joined (new_world shows setups) earlier events ∙ ran_after w events run h in
    let set : slice_get setups i ≡ Some n.ports = ap (λ xs. slice_get xs i) (sym o.ports_kept) ∙ slice_get-map (λ (x : Node). x.ports) w.nodes i ∙ ap (option_map (λ (x : Node). x.ports)) there in
    shown_by_gateway of_turns (map (λ (d : Desk). d.0) shows) setups i n set w (reached shows setups (earlier ++ events)) senders turns (reached_ok shows setups earlier apart) o later events run (sym v) h there whole same
