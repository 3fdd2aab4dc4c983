-- What stays when a packet more is sent.
use Rattle.std.proofs.Common.{◌≡◌, ℕ, ◌+◌, ◌%◌, ◌<◌, cond, List, [], ◌∷◌, ◌++◌, map, length, take, refl, ap, ◌∙◌, arith, length-append}
use Rattle.std.specs.Prelude.{count_by, ◌==◌}
use Rattle.std.specs.List.{AllByRecursion}
use Rattle.std.proofs.lemmas.List.{get_or_append_left, take-append-le}
use Rattle.std.proofs.lemmas.List.Elements.{filter-append}
use Rattle.sacn_world.proofs.NodeSteps.{newest_within}
use Rattle.sacn_world.specs.Streams.{is_live, priority, levels, Sent, nothing, at, life_at, rank, number_at, is_of, priority, levels, stream_of}
use Rattle.sacn_world.specs.Holdings.{Hold, Delivery}
use Rattle.sacn_world.specs.RowsOfPlaces.{shown_by, seen, rows_of}
use Rattle.sacn_world.specs.Nodes.{Holding, Node, seen_table, seen_core, HoldOk}
use Rattle.sacn_world.specs.Worlds.{NodeOk}

pub stream_push : (s : List ℕ) (u : ℕ) (sent : List Sent) (x : Sent) → stream_of s u (sent ++ x ∷ []) ≡ stream_of s u sent ++ cond (is_of s u x) (x ∷ []) []
unfolding stream_of
stream_push s u sent x = filter-append (is_of s u) sent (x ∷ [])

pub at_stays : (st r : List Sent) (p : ℕ) → p < length st → at (st ++ r) p ≡ at st p
at_stays st r p h = get_or_append_left st r nothing p h

pub rank_stays : (st r : List Sent) (p : ℕ) → p < length st → rank (st ++ r) p ≡ rank st p
unfolding rank
rank_stays st r p h =
    ap (λ xs. count_by (λ x. x.life == life_at (st ++ r) p) xs) (take-append-le p st r (omega arith))
    ∙ ap (λ (y : Sent). count_by (λ x. x.life == y.life) (take p st)) (at_stays st r p h)

pub number_stays : (st r : List Sent) (p : ℕ) → p < length st → number_at (st ++ r) p ≡ number_at st p
unfolding number_at
number_stays st r p h =
    ap (λ (y : Sent). (y.first + rank (st ++ r) p) % 256) (at_stays st r p h) ∙ ap (λ n. ((at st p).first + n) % 256) (rank_stays st r p h)

module _ (sent : List Sent) (x : Sent) where
  pub longer : (s : List ℕ) (u p : ℕ) → p < length (stream_of s u sent) → p < length (stream_of s u (sent ++ x ∷ []))
  longer s u p h =
      rw (stream_push s u sent x) (omega (arith, h, length-append (stream_of s u sent) (cond (is_of s u x) (x ∷ []) [])))

  pub at_kept : (s : List ℕ) (u p : ℕ) → p < length (stream_of s u sent) → at (stream_of s u (sent ++ x ∷ [])) p ≡ at (stream_of s u sent) p
  at_kept s u p h =
      ap (λ st. at st p) (stream_push s u sent x) ∙ at_stays (stream_of s u sent) _ p h

  pub number_kept : (s : List ℕ) (u p : ℕ) → p < length (stream_of s u sent) → number_at (stream_of s u (sent ++ x ∷ [])) p ≡ number_at (stream_of s u sent) p
  number_kept s u p h =
      ap (λ st. number_at st p) (stream_push s u sent x) ∙ number_stays (stream_of s u sent) _ p h

  seen_kept : (u : ℕ) (h : Hold) → h.place < length (stream_of h.source u sent) → seen u (sent ++ x ∷ []) h ≡ seen u sent h
  seen_kept u h lt =
      λ i. record {
        source = h.source;
        sequence_number = number_kept h.source u h.place lt i;
        shown = shown_by (is_live (at_kept h.source u h.place lt i)) (priority (at_kept h.source u h.place lt i)) (levels (at_kept h.source u h.place lt i));
        moment = h.moment;
      }

  table_kept : (u : ℕ) (hs : List Hold) → AllByRecursion (λ h. h.place < length (stream_of h.source u sent)) hs → rows_of u (sent ++ x ∷ []) hs ≡ rows_of u sent hs
  table_kept u [] all = refl
  table_kept u (h ∷ hs) all = λ i. seen_kept u h all.0 i ∷ table_kept u hs all.1 i

  pub holds_within : (u : ℕ) (ds : List Delivery) → AllByRecursion (λ d. d.place < length (stream_of d.source d.universe sent)) ds → (hs : List Hold) → AllByRecursion (HoldOk u ds) hs → AllByRecursion (λ h. h.place < length (stream_of h.source u sent)) hs
  holds_within u ds within [] all = tt
  holds_within u ds within (h ∷ hs) all =
      let n = newest_within sent h.source u ds all.0.last within all.0.is_last in
      (omega (arith, n, all.0.below), holds_within u ds within hs all.1)

  tables_kept : (ds : List Delivery) → AllByRecursion (λ d. d.place < length (stream_of d.source d.universe sent)) ds → (gs : List Holding) → AllByRecursion (λ g. AllByRecursion (HoldOk g.universe ds) g.held) gs → map (seen_table (sent ++ x ∷ [])) gs ≡ map (seen_table sent) gs
  tables_kept ds within [] all = refl
  tables_kept ds within (g ∷ gs) all =
      λ i. record { universe = g.universe; rows = table_kept g.universe g.held (holds_within g.universe ds within g.held all.0) i } ∷ tables_kept ds within gs all.1 i

  pub node_kept : (n : Node) → NodeOk sent n → seen_core (sent ++ x ∷ []) n ≡ seen_core sent n
  unfolding seen_core
  node_kept n ok = λ i. record { moment = n.moment; tables = tables_kept n.delivered ok.within n.holdings ok.below i }

  within_kept : (ds : List Delivery) → AllByRecursion (λ d. d.place < length (stream_of d.source d.universe sent)) ds → AllByRecursion (λ d. d.place < length (stream_of d.source d.universe (sent ++ x ∷ []))) ds
  within_kept [] all = tt
  within_kept (d ∷ ds) all = (longer d.source d.universe d.place all.0, within_kept ds all.1)

  pub ok_kept : (n : Node) → NodeOk sent n → NodeOk (sent ++ x ∷ []) n
  ok_kept n ok = record { within = within_kept n.delivered ok.within; below = ok.below }
