-- A run of a world is the loop of each of its nodes.
use Rattle.std.proofs.Common.{◌≡◌, ℕ, List, [], ◌∷◌, ◌++◌, map, Some, refl, sym, ap, subst, ◌∙◌, slice_get}
use Rattle.std.specs.Prelude.{option_map}
use Rattle.std.proofs.lemmas.Option.{same_Some, slice_get-map}
use Rattle.sacn_console.specs.Shows.{ShowContent}
use Rattle.sacn_node.specs.Setup.{Port, port_numbers}
use Rattle.sacn_node.specs.Cores.{Core}
use Rattle.sacn_node.specs.Cores as numbers
use Rattle.sacn_schedule.specs.Cids.{Desk}
use Rattle.sacn_schedule.specs.declared.event.Event.{Event}
use Rattle.sacn_edge.specs.NodeText.{Turn, node_after, lines_after, text_of}
use Rattle.sacn_world.specs.Nodes.{Node, seen_core}
use Rattle.sacn_world.specs.Worlds.{World, step, left_by, new_world, WorldOk}
use Rattle.sacn_world.specs.Runs.{Ran, ran}
use Rattle.sacn_world.specs.Laws.{reached}
use Rattle.sacn_world.proofs.Keeping.{new_seen}
use Rattle.sacn_world.proofs.Origin.{Origin, step_kept, reached_origin}
use Rattle.sacn_world.proofs.Ran.{ran_after}
use Rattle.sacn_world.proofs.Reaching.{reached_ok, joined, first_of_run}
use Rattle.sacn_world.proofs.Runs.{step_ok}
use Rattle.sacn_runs.specs.NodeVisits.{visits_by, visits, loop_visits}
use Rattle.sacn_runs.specs.NodeRuns.{moment_with, lines_shown, seen_node, RunsAs, NodesRunAsInAWorld}
use Rattle.sacn_runs.specs.GatewayRuns.{looks}
use Rattle.sacn_runs.proofs.Visits.{Showing, node_with, show_all, show_all-append}
use Rattle.sacn_runs.proofs.Turns.{node_kept, loop_so}
use Rattle.sacn_runs.proofs.GatewayTurns.{looked_in, looked_in-append}
use Rattle.sacn_runs.proofs.NodeEvents.{Sees, event_made, event_looked}

module _ (shows : List ShowContent) (setups : List (List Port)) (i : ℕ) (ports : List Port) (there : slice_get setups i ≡ Some ports) where
  pub own : (w : World) → Origin shows setups w → (n : Node) → slice_get w.nodes i ≡ Some n → n.ports ≡ ports
  own w o n e =
      same_Some n.ports ports
      (sym (slice_get-map (λ (x : Node). x.ports) w.nodes i ∙ ap (option_map (λ (x : Node). x.ports)) e) ∙ ap (λ xs. slice_get xs i) o.ports_kept ∙ there)

  pub record Run (w : World) (events : List Event) (run : Ran) (s : Showing) : Type 0 where
    pub lines : lines_shown i s.core.moment events run.answers s.lines ≡ (show_all ports (visits w i events) s).lines
    pub looks_are : looks i events run.answers ≡ looked_in ports (visits w i events) s
    pub sees : Sees run.world i (show_all ports (visits w i events) s).core

  pub run_made : (w : World) → WorldOk w → Origin shows setups w → (events : List Event) (run : Ran) → ran w events ≡ Some run → (s : Showing) → Sees w i s.core → Run w events run s
  run_made w ok o [] run h s sees = record { lines = refl; looks_are = refl; sees = subst (λ (r : Ran). Sees r.world i s.core) (same_Some _ run h) sees }
  run_made w ok o (e ∷ es) run h s sees =
      let f = first_of_run w e es run h in
      let left : left_by w (step w e) ≡ f.outcome.world = ap (left_by w) f.is_outcome in
      let made = event_made w ok i ports (own w o) s sees e f.outcome f.is_outcome in
      let s' = show_all ports (visits_by w.sent i e) s in
      let rest = run_made f.outcome.world (subst WorldOk left (step_ok w ok e)) (subst (Origin shows setups) left (step_kept shows setups w o e)) es f.rest f.is_rest s' made.sees in
      let all : show_all ports (visits f.outcome.world i es) s' ≡ show_all ports (visits w i (e ∷ es)) s =
      ap (λ v. show_all ports (visits v i es) s') (sym left) ∙ sym (show_all-append ports (visits_by w.sent i e) (visits (left_by w (step w e)) i es) s) in
      let t = moment_with i e s.core.moment in
      record {
        lines =
            ap (λ answers. lines_shown i s.core.moment (e ∷ es) answers s.lines) (sym f.answers)
            ∙ ap (λ ls. lines_shown i t es f.rest.answers ls) made.lines
            ∙ ap (λ m. lines_shown i m es f.rest.answers s'.lines) made.moment
            ∙ rest.lines
            ∙ ap (λ (x : Showing). x.lines) all;
        looks_are =
            ap (λ answers. looks i (e ∷ es) answers) (sym f.answers)
            ∙ ap (λ ls. ls ++ looks i es f.rest.answers) (event_looked w ok i ports (own w o) s sees e f.outcome f.is_outcome)
            ∙ ap (λ ls. looked_in ports (visits_by w.sent i e) s ++ ls) rest.looks_are
            ∙ ap (λ v. looked_in ports (visits_by w.sent i e) s ++ looked_in ports (visits v i es) s') (sym left)
            ∙ sym (looked_in-append ports (visits_by w.sent i e) (visits (left_by w (step w e)) i es) s);
        sees = subst (λ (v : World). Sees v i (show_all ports (visits w i (e ∷ es)) s).core) f.world (subst (λ (x : Showing). Sees f.rest.world i x.core) all rest.sees);
      }

  pub shown_so : (w v : World) (n : Node) (ts : List Turn) → n.ports ≡ ports → WorldOk w → Origin shows setups w → Origin shows setups v → (events : List Event) (run : Ran) → run.world ≡ v → ran w events ≡ Some run → slice_get w.nodes i ≡ Some n → visits w i events ≡ loop_visits (port_numbers ports) ts → RunsAs w run.world i n events run.answers ts
  unfolding seen_core
  shown_so w v n ts en ok o later events run ev h there' same =
      let c = seen_core w.sent n in
      let s : Showing = record { core = c; lines = [] } in
      let one : Sees w i c = λ m e. ap (seen_core w.sent) (same_Some m n (sym e ∙ there')) in
      let made = run_made w ok o events run h s one in
      let first : seen_node w.sent n ≡ node_with ports c = ap (λ ps. node_with ps c) en in
      let all = ap (λ vs. show_all ports vs s) same ∙ loop_so ports c ts in
      let lines = made.lines ∙ ap (λ (x : Showing). x.lines) all ∙ ap (λ (x : numbers.Node). lines_after x ts) (sym first) in
      record {
        lines = lines;
        text = ap text_of lines;
        left = λ l e.
            let core : seen_core run.world.sent l ≡ (node_after (node_with ports c) ts).core = made.sees l e ∙ ap (λ (x : Showing). x.core) all in
            let its : l.ports ≡ ports = own v later l (ap (λ (x : World). slice_get x.nodes i) (sym ev) ∙ e) in
            ap (λ ps. node_with ps (seen_core run.world.sent l)) its ∙ ap (node_with ports) core ∙ sym (node_kept ports c ts) ∙ ap (λ (x : numbers.Node). node_after x ts) (sym first);
      }

pub nodes_run : NodesRunAsInAWorld
nodes_run = record {
  runs = λ shows setups earlier events run i n ts apart h there same.
      let w = reached shows setups earlier in
      let o = reached_origin shows setups earlier in
      let later = reached_origin shows setups (earlier ++ events) in
      let v : reached shows setups (earlier ++ events) ≡ run.world = joined (new_world shows setups) earlier events ∙ ran_after w events run h in
      let own_ports : slice_get setups i ≡ Some n.ports = ap (λ xs. slice_get xs i) (sym o.ports_kept) ∙ slice_get-map (λ (x : Node). x.ports) w.nodes i ∙ ap (option_map (λ (x : Node). x.ports)) there in
      shown_so (map (λ (d : Desk). d.0) shows) setups i n.ports own_ports w (reached shows setups (earlier ++ events)) n ts refl (reached_ok shows setups earlier apart) o later events run (sym v) h there same;
  begins = λ sent ports. ap (node_with ports) (sym (new_seen sent ports));
}
