-- A run of a world is the loop, or the desk, of each of its consoles.
use Rattle.std.proofs.Common.{◌≡◌, ℕ, ◌+◌, List, [], ◌∷◌, ◌++◌, map, filter, length, drop, Some, refl, sym, ap, subst, ◌∙◌, append_assoc, append-nil, slice_get}
use Rattle.std.proofs.lemmas.Option.{same_Some}
use Rattle.std.proofs.lemmas.List.{drop_at, map-append}
use Rattle.std.proofs.lemmas.List.Elements.{filter-append}
use Rattle.sacn_sources.specs.Order.{same}
use Rattle.sacn_console.specs.Runs.{Call}
use Rattle.sacn_node.specs.Setup.{Port}
use Rattle.sacn_schedule.specs.Cids.{Desk}
use Rattle.sacn_schedule.specs.declared.event.Event.{Event}
use Rattle.sacn_edge.specs.SendsByList.{run_calls}
use Rattle.sacn_world.specs.declared.answer.Answer.{Answer}
use Rattle.sacn_world.specs.declared.console.Console.{Console}
use Rattle.sacn_world.specs.Streams.{Sent}
use Rattle.sacn_world.specs.Worlds.{World, left_by, with_core, new_console, Apart, WorldOk}
use Rattle.sacn_world.specs.Runs.{Ran, ran}
use Rattle.sacn_world.specs.Laws.{reached}
use Rattle.sacn_world.proofs.Reaching.{reached_ok, first_of_run}
use Rattle.sacn_world.proofs.Runs.{step_ok}
use Rattle.sacn_runs.specs.ConsoleRuns.{requests_by, requests, octets_of_packet, octets_from, refused_over, ConsolesRunAsInAWorld}
use Rattle.sacn_runs.specs.DeskRuns.{desk_calls, DesksRunAsInAWorld}
use Rattle.sacn_runs.proofs.Requests.{Requests, over, gave, refused_count, over-append, gave-append, refused-append, loop_over, loop_gave, loop_refused}
use Rattle.sacn_runs.proofs.DeskRequests.{desk_over, desk_gave, desk_refused}
use Rattle.sacn_runs.proofs.ConsoleEvents.{event_did}

-- the rest of a list of calls is one
calls_left : (xs ys : Requests) (calls : List Call) → xs ++ ys ≡ map Some calls → (left : List Call) × (ys ≡ map Some left)
calls_left [] ys calls e = (calls, e)
calls_left (x ∷ xs) ys [] e = absurd (cc)
calls_left (x ∷ xs) ys (k ∷ calls) e = calls_left xs ys calls (ap (λ (rs : Requests). drop 1 rs) e)

octets-append : (s : List ℕ) (xs ys : List Sent) → octets_from s (xs ++ ys) ≡ octets_from s xs ++ octets_from s ys
octets-append s xs ys =
    ap (map (λ (x : Sent). octets_of_packet x.packet)) (filter-append (λ (x : Sent). same s x.source) xs ys)
    ∙ map-append (λ (x : Sent). octets_of_packet x.packet) (filter (λ (x : Sent). same s x.source) xs) (filter (λ (x : Sent). same s x.source) ys)

module _ (i : ℕ) where
  record Run (w : World) (c : Console) (events : List Event) (run : Ran) : Type 0 where
    there : slice_get run.world.consoles i ≡ Some (with_core c (over (requests i events) c.core))
    more : List Sent
    grown : run.world.sent ≡ w.sent ++ more
    octets : octets_from c.show.cid more ≡ gave (requests i events) c.core
    count : refused_over i events run.answers ≡ refused_count (requests i events) c.core

  run_did : (w : World) → WorldOk w → (c : Console) → slice_get w.consoles i ≡ Some c → (events : List Event) (run : Ran) → ran w events ≡ Some run → (calls : List Call) → requests i events ≡ map Some calls → Run w c events run
  run_did w ok c here [] run h calls all =
      let is = ap (λ (r : Ran). r.world) (same_Some _ run h) in
      record {
        there = ap (λ (v : World). slice_get v.consoles i) (sym is) ∙ here;
        more = [];
        grown = ap (λ (v : World). v.sent) (sym is) ∙ sym (append-nil w.sent);
        octets = refl;
        count = refl;
      }
  run_did w ok c here (e ∷ es) run h calls all =
      let f = first_of_run w e es run h in
      let v = f.outcome.world in
      let rs = requests_by i e in
      let d = event_did w ok.apart i c here e f.outcome (requests i es) calls all f.is_outcome in
      let next = with_core c (over rs c.core) in
      let later = calls_left rs (requests i es) calls all in
      let rest = run_did v (subst WorldOk (ap (left_by w) f.is_outcome) (step_ok w ok e)) next d.there es f.rest f.is_rest later.0 later.1 in
      record {
        there =
            ap (λ (z : World). slice_get z.consoles i) (sym f.world) ∙ rest.there
            ∙ ap (λ k. Some (with_core c k)) (sym (over-append rs (requests i es) c.core));
        more = d.more ++ rest.more;
        grown =
            ap (λ (z : World). z.sent) (sym f.world) ∙ rest.grown ∙ ap (λ xs. xs ++ rest.more) d.grown
            ∙ append_assoc w.sent d.more rest.more;
        octets =
            octets-append c.show.cid d.more rest.more
            ∙ ap (λ os. os ++ octets_from c.show.cid rest.more) d.octets
            ∙ ap (λ os. gave rs c.core ++ os) rest.octets
            ∙ sym (gave-append rs (requests i es) c.core);
        count =
            ap (λ answers. refused_over i (e ∷ es) answers) (sym f.answers)
            ∙ ap (λ n. n + refused_over i es f.rest.answers) d.count_is
            ∙ ap (λ n. refused_count rs c.core + n) rest.count
            ∙ sym (refused-append rs (requests i es) c.core);
      }

-- console i of world w, over events that were answered so and left world v, did what these calls make of its core
record Asked (w v : World) (i : ℕ) (c : Console) (events : List Event) (answers : List Answer) (calls : List Call) : Type 0 where
  pub sent : octets_from c.show.cid (drop (length w.sent) v.sent) ≡ gave (map Some calls) c.core
  pub refused : refused_over i events answers ≡ refused_count (map Some calls) c.core
  pub left : (d : Console) → slice_get v.consoles i ≡ Some d → d.core ≡ over (map Some calls) c.core

calls_run :
    (shows : List Desk) (setups : List (List Port)) (earlier events : List Event) (run : Ran) (i : ℕ) (c : Console) (calls : List Call) → Apart (map new_console shows) →
    ran (reached shows setups earlier) events ≡ Some run → slice_get (reached shows setups earlier).consoles i ≡ Some c → requests i events ≡ map Some calls →
    Asked (reached shows setups earlier) run.world i c events run.answers calls
calls_run shows setups earlier events run i c calls apart h here all =
    let w = reached shows setups earlier in
    let r = run_did i w (reached_ok shows setups earlier apart) c here events run h calls all in
    record {
      sent =
          ap (λ sent. octets_from c.show.cid (drop (length w.sent) sent)) r.grown
          ∙ ap (octets_from c.show.cid) (drop_at w.sent r.more (length w.sent) refl)
          ∙ r.octets
          ∙ ap (λ rs. gave rs c.core) all;
      refused = r.count ∙ ap (λ rs. refused_count rs c.core) all;
      left = λ d e. ap (λ (x : Console). x.core) (same_Some d _ (sym e ∙ r.there)) ∙ ap (λ rs. over rs c.core) all;
    }

pub consoles_run : ConsolesRunAsInAWorld
consoles_run shows setups earlier events run i c script readings apart h here all =
    let r = calls_run shows setups earlier events run i c (run_calls script readings) apart h here all in
    record {
      sent = r.sent ∙ loop_gave c.core script readings;
      refused = r.refused ∙ loop_refused c.core script readings;
      left = λ d e. r.left d e ∙ loop_over c.core script readings;
    }

pub desks_run : DesksRunAsInAWorld
desks_run shows setups earlier events run i c rounds apart h here all =
    let r = calls_run shows setups earlier events run i c (desk_calls rounds) apart h here all in
    record {
      sent = r.sent ∙ desk_gave c.core rounds;
      refused = r.refused ∙ desk_refused c.core rounds;
      left = λ d e. r.left d e ∙ desk_over c.core rounds;
    }
