-- A new world.
use Rattle.std.proofs.Common.{◌≡◌, ℕ, zero, suc, false, List, [], ◌∷◌, map, Some, refl, sym, ap, subst, ◌∙◌, slice_get}
use Rattle.std.specs.List.{AllByRecursion, list_any}
use Rattle.std.proofs.lemmas.Option.{slice_get-map, same_Some, none-some as none_some}
use Rattle.sacn_node.specs.Setup.{Setup}
use Rattle.sacn_node.specs.Laws.{HasTheUniversesOfItsRanges}
use Rattle.sacn_world.specs.declared.console.Console.{Console}
use Rattle.sacn_world.specs.Nodes.{node_of}
use Rattle.sacn_schedule.specs.Cids.{Desk, same_cid, has_same_cid}
use Rattle.sacn_schedule.proofs.OwnCids.{or_parts, differ}
use Rattle.sacn_world.specs.Worlds.{new_console, new_world, Apart, WorldOk}
use Rattle.sacn_world.specs.Watches.{Watch, new_watch, node_by_places, WatchOk}
use Rattle.sacn_world.specs.Wire.{SentDatagram}
use Rattle.sacn_world.specs.Invariants.{seen_world, Kept}
use Rattle.sacn_world.proofs.Runs.{start_ok, mapped}
use Rattle.sacn_world.proofs.Keeping.{new_moved}

abbrev Elsewhere : List ℕ → List Desk → Type 0
Elsewhere cid ss = (j : ℕ) (t : Desk) → slice_get ss j ≡ Some t → cid ≡ t.0.cid → ⊥

elsewhere_by : (d s : Desk) (ss : List Desk) → same_cid d s ≡ false → Elsewhere d.0.cid ss → Elsewhere d.0.cid (s ∷ ss)
elsewhere_by d s ss fail rest zero t e is = let st : s ≡ t = same_Some s t e in differ d s fail (is ∙ sym (ap (λ (x : Desk). x.0.cid) st))
elsewhere_by d s ss fail rest (suc j) t e is = rest j t e is

not_there : (d : Desk) (ss : List Desk) → list_any (λ e. same_cid d e) ss ≡ false → Elsewhere d.0.cid ss
not_there d [] none = λ j t e is. none_some t e
not_there d (s ∷ ss) none = let parts = or_parts (same_cid d s) (list_any (λ e. same_cid d e) ss) none in elsewhere_by d s ss parts.0 (not_there d ss parts.1)

abbrev OwnCids : List (Desk) → Type 0
OwnCids ss = (i j : ℕ) (s t : Desk) → slice_get ss i ≡ Some s → slice_get ss j ≡ Some t → s.0.cid ≡ t.0.cid → i ≡ j

own_by : (x : Desk) (ss : List (Desk)) → Elsewhere x.0.cid ss → OwnCids ss → OwnCids (x ∷ ss)
own_by x ss fail rest zero zero s t es et is = refl
own_by x ss fail rest zero (suc j) s t es et is =
    let xs : x ≡ s = same_Some x s es in
    absurd (fail j t et (ap (λ (y : Desk). y.0.cid) xs ∙ is))
own_by x ss fail rest (suc i) zero s t es et is =
    let xt : x ≡ t = same_Some x t et in
    absurd (fail i s es (ap (λ (y : Desk). y.0.cid) xt ∙ sym is))
own_by x ss fail rest (suc i) (suc j) s t es et is = ap suc (rest i j s t es et is)

shows_apart : (ss : List Desk) → has_same_cid ss ≡ false → OwnCids ss
shows_apart [] none = λ i j s t es et is. absurd (none_some s es)
shows_apart (x ∷ ss) none = let parts = or_parts (list_any (λ e. same_cid x e) ss) (has_same_cid ss) none in own_by x ss (not_there x ss parts.0) (shows_apart ss parts.1)

pub consoles_apart : (ss : List (Desk)) → has_same_cid ss ≡ false → Apart (map new_console ss)
consoles_apart ss none i j c d ec ed is =
    let s = mapped new_console (slice_get ss i) c (sym (slice_get-map new_console ss i) ∙ ec) in
    let t = mapped new_console (slice_get ss j) d (sym (slice_get-map new_console ss j) ∙ ed) in
    shows_apart ss none i j s.0 t.0 s.1 t.1 (ap (λ (y : Console). y.show.cid) s.2 ∙ is ∙ sym (ap (λ (y : Console). y.show.cid) t.2))

module _ (law : HasTheUniversesOfItsRanges) where
  nodes_seen : (ns : List Setup) → map node_by_places (map (λ (n : Setup). new_watch n.ports) ns) ≡ map node_of (map (λ (n : Setup). n.ports) ns)
  nodes_seen [] = refl
  nodes_seen (n ∷ ns) = λ i. (new_moved [] (new_watch n.ports) n.ports (law n.ports).0).places i ∷ nodes_seen ns i

  watches_ok : (ns : List Setup) → AllByRecursion (WatchOk []) (map (λ (n : Setup). new_watch n.ports) ns)
  watches_ok [] = tt
  watches_ok (n ∷ ns) = ((new_moved [] (new_watch n.ports) n.ports (law n.ports).0).ok, watches_ok ns)

  pub new_seen : (ss : List (Desk)) (ns : List Setup) → seen_world (map new_console ss) [] (map (λ (n : Setup). new_watch n.ports) ns) ≡ new_world ss (map (λ (n : Setup). n.ports) ns)
  new_seen ss ns = λ i. record { consoles = map new_console ss; sent = []; nodes = nodes_seen ns i }

  pub new_kept : (ss : List (Desk)) (ns : List Setup) → has_same_cid ss ≡ false → Kept (map new_console ss) [] (map (λ (n : Setup). new_watch n.ports) ns)
  new_kept ss ns none = record {
    ok = subst WorldOk (sym (new_seen ss ns)) (start_ok ss (map (λ (n : Setup). n.ports) ns) (consoles_apart ss none));
    datagrams = λ k f e. absurd (none_some f e);
    nodes = watches_ok ns;
  }

pub kept_as : (law : HasTheUniversesOfItsRanges) (ss : List (Desk)) (ns : List Setup) → has_same_cid ss ≡ false → (cs : List Console) (fs : List SentDatagram) (ws : List Watch) → cs ≡ map new_console ss → fs ≡ [] → ws ≡ map (λ (n : Setup). new_watch n.ports) ns → Kept cs fs ws × (seen_world cs fs ws ≡ new_world ss (map (λ (n : Setup). n.ports) ns))
kept_as law ss ns none cs fs ws ec ef ew = (
  subst (λ x. Kept x fs ws) (sym ec) (subst (λ x. Kept (map new_console ss) x ws) (sym ef) (subst (λ x. Kept (map new_console ss) [] x) (sym ew) (new_kept law ss ns none))),
  ap (λ x. seen_world x fs ws) ec ∙ ap (λ x. seen_world (map new_console ss) x ws) ef ∙ ap (λ x. seen_world (map new_console ss) [] x) ew ∙ new_seen law ss ns,
)
