-- What is read of a world that is kept.
use Rattle.std.proofs.Common.{◌≡◌, ℕ, ◌≤◌, true, List, map, length, Option, Some, None, Result, Ok, Err, refl, sym, ap, ◌∙◌, inl, inr, slice_get}
use Rattle.std.specs.Prelude.{find, ◌==◌}
use Rattle.std.specs.Option.{option_map}
use Rattle.std.proofs.lemmas.Bool.{eqb-true}
use Rattle.std.proofs.lemmas.Option.{slice_get-map, slice_get_past}
use Rattle.sacn_sources.specs.Order.{same}
use Rattle.sacn_sources.specs.Rows.{Row, row_of}
use Rattle.sacn_node.specs.Cores.{Table, core_row, row_on, table_of}
use Rattle.sacn_world.specs.declared.console.Console.{Console}
use Rattle.sacn_world.specs.declared.answer.Answer.{Answer}
use Rattle.sacn_schedule.specs.declared.event.Event.{Event}
use Rattle.sacn_world.specs.declared.fault.WorldFault.{WorldFault}
use Rattle.sacn_world.specs.Streams.{Sent}
use Rattle.sacn_world.specs.Holdings.{Hold, hold_of}
use Rattle.sacn_world.specs.RowsOfPlaces.{seen}
use Rattle.sacn_world.specs.Nodes.{Holding, Node, holding_of, seen_core, seen_table}
use Rattle.sacn_world.specs.Worlds.{World, Step, place_on, hold_in, held_at, place_at, row_at, takes_memory}
use Rattle.sacn_world.specs.Watches.{Mark, Watch, mark_of, held_place, hold_from, holding_from, by_places, node_by_places, place_noted, WatchOk}
use Rattle.sacn_world.specs.Wire.{SentDatagram, seen_sent}
use Rattle.sacn_world.specs.Invariants.{seen_world, Kept, Stepped, SteppedWithRoom, SteppedBy}
use Rattle.sacn_world.proofs.All.{all_get}
use Rattle.sacn_world.proofs.Sources.{same_source}
use Rattle.sacn_world.proofs.Lists.{find-map, row_of_seen}
use Rattle.sacn_world.proofs.Looks.{found_passes}

mapped_twice : {X Y Z : Type 0} (f : X → Y) (g : Y → Z) (o : Option X) → option_map g (option_map f o) ≡ option_map (λ x. g (f x)) o
mapped_twice f g None = refl
mapped_twice f g (Some x) = refl

-- ---- places

own_row : (marks : List Mark) (u : ℕ) (s : List ℕ) (o : Option Row) → ((r : Row) → o ≡ Some r → same s r.source ≡ true) → option_map (λ (r : Row). held_place (mark_of r.source u marks)) o ≡ option_map (λ (r : Row). held_place (mark_of s u marks)) o
own_row marks u s None h = refl
own_row marks u s (Some r) h = ap (λ z. Some (held_place (mark_of z u marks))) (sym (same_source s r.source (h r refl)))

place_in_rows : (marks : List Mark) (u : ℕ) (s : List ℕ) (rs : List Row) → option_map (λ (h : Hold). h.place) (hold_of s (map (hold_from marks u) rs)) ≡ option_map (λ (r : Row). held_place (mark_of s u marks)) (row_of s rs)
place_in_rows marks u s rs =
    ap (option_map (λ (h : Hold). h.place)) (find-map (hold_from marks u) (λ (r : Row). same s r.source) (λ (h : Hold). same s h.source) (λ x. refl) rs)
    ∙ mapped_twice (hold_from marks u) (λ (h : Hold). h.place) (find (λ (r : Row). same s r.source) rs)
    ∙ own_row marks u s (find (λ (r : Row). same s r.source) rs) (λ r e. found_passes (λ (x : Row). same s x.source) rs r e)

place_in_table : (marks : List Mark) (u : ℕ) (s : List ℕ) (o : Option Table) → ((g : Table) → o ≡ Some g → g.universe ≡ u) → option_map (λ (h : Hold). h.place) (place_on s (option_map (holding_from marks) o)) ≡ option_map (λ (r : Row). held_place (mark_of s u marks)) (row_on s o)
place_in_table marks u s None h = refl
place_in_table marks u s (Some g) h =
    place_in_rows marks g.universe s g.rows ∙ ap (λ v. option_map (λ (r : Row). held_place (mark_of s v marks)) (row_of s g.rows)) (h g refl)

place_seen : (u : ℕ) (s : List ℕ) (y : Watch) → place_noted u s y ≡ option_map (λ (h : Hold). h.place) (place_on s (holding_of u (node_by_places y).holdings))
unfolding by_places
place_seen u s y =
    sym (place_in_table y.marks u s (table_of u y.node.core.tables) (λ g e. eqb-true _ _ (found_passes (λ (x : Table). x.universe == u) y.node.core.tables g e)))
    ∙ sym (ap (λ o. option_map (λ (h : Hold). h.place) (place_on s o)) (find-map (holding_from y.marks) (λ (g : Table). g.universe == u) (λ (g : Holding). g.universe == u) (λ x. refl) y.node.core.tables))

-- ---- rows

row_in_holding : (sent : List Sent) (u : ℕ) (s : List ℕ) (o : Option Holding) → ((g : Holding) → o ≡ Some g → g.universe ≡ u) → row_on s (option_map (seen_table sent) o) ≡ option_map (seen u sent) (place_on s o)
row_in_holding sent u s None h = refl
row_in_holding sent u s (Some g) h = row_of_seen g.universe sent s g.held ∙ ap (λ v. option_map (seen v sent) (hold_of s g.held)) (h g refl)

row_seen : (sent : List Sent) (u : ℕ) (s : List ℕ) (n : Node) → core_row u s (seen_core sent n) ≡ option_map (seen u sent) (place_on s (holding_of u n.holdings))
unfolding seen_core
row_seen sent u s n =
    ap (row_on s) (find-map (seen_table sent) (λ (g : Holding). g.universe == u) (λ (g : Table). g.universe == u) (λ x. refl) n.holdings)
    ∙ row_in_holding sent u s (holding_of u n.holdings) (λ g e. eqb-true _ _ (found_passes (λ (x : Holding). x.universe == u) n.holdings g e))

-- ---- of a world

module _ (cs : List Console) (fs : List SentDatagram) (ws : List Watch) (keeps : Kept cs fs ws) (v : World) (is : seen_world cs fs ws ≡ v) (i u : ℕ) (s : List ℕ) where
  none_held : length ws ≤ i → held_at i s u (seen_world cs fs ws) ≡ None
  none_held past = ap (hold_in s u) (slice_get-map node_by_places ws i ∙ ap (option_map node_by_places) (slice_get_past ws i past))

  one_held : (y : Watch) → slice_get ws i ≡ Some y → held_at i s u (seen_world cs fs ws) ≡ place_on s (holding_of u (node_by_places y).holdings)
  one_held y e = ap (hold_in s u) (slice_get-map node_by_places ws i ∙ ap (option_map node_by_places) e)

  pub no_place : length ws ≤ i → None ≡ place_at i s u v
  no_place past = sym (ap (option_map (λ (h : Hold). h.place)) (none_held past)) ∙ ap (place_at i s u) is

  pub no_row : length ws ≤ i → None ≡ row_at i s u v
  no_row past = sym (ap (option_map (seen u (map seen_sent fs))) (none_held past)) ∙ ap (row_at i s u) is

  pub the_place : (y : Watch) → slice_get ws i ≡ Some y → place_noted u s y ≡ place_at i s u v
  the_place y e = place_seen u s y ∙ sym (ap (option_map (λ (h : Hold). h.place)) (one_held y e)) ∙ ap (place_at i s u) is

  pub the_row : (y : Watch) → slice_get ws i ≡ Some y → core_row u s y.node.core ≡ row_at i s u v
  the_row y e =
      ap (core_row u s) (all_get (WatchOk (map seen_sent fs)) ws i y keeps.nodes e).core ∙ row_seen (map seen_sent fs) u s (node_by_places y)
      ∙ sym (ap (option_map (seen u (map seen_sent fs))) (one_held y e)) ∙ ap (row_at i s u) is

-- ---- steps

pub without_memory : (e : Event) (s : Step) (r : Result Answer WorldFault) (old new : World) → Stepped s r old new → SteppedBy e s r old new
without_memory e s (Ok a) old new h = h
without_memory e s (Err f) old new h = (inl h.0, h.1)

pub with_memory : (e : Event) → takes_memory e ≡ true → (s : Step) (r : Result Answer WorldFault) (old new : World) → SteppedWithRoom s r old new → SteppedBy e s r old new
with_memory e t s (Ok a) old new h = h
with_memory e t s (Err f) old new h = (elim h.0 [ inl x ↦ inl x | inr y ↦ inr (y.0, t, y.1) ], h.1)
