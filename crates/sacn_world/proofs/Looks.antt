-- Two looks of one run: the same places give the same slots.
use Rattle.std.proofs.Common.{◌≡◌, ℕ, zero, suc, ◌+◌, ◌<◌, Bool, true, false, List, [], ◌∷◌, ◌++◌, map, length, get_or, Option, Some, None, Ok, Err, refl, sym, ap, subst, ◌∙◌, inl, inr, ◌⊎◌, arith}
use Rattle.std.specs.Prelude.{find, ◌==◌, Contains}
use Rattle.std.specs.List.{AllByRecursion, cons_option, filter_map}
use Rattle.std.proofs.lemmas.Bool.{eqb-true, ne_eqb}
use Rattle.std.proofs.lemmas.Option.{same_Some}
use Rattle.std.proofs.Common.{◌-◌, cond}
use Rattle.std.specs.Prelude.{if◌then◌else◌}
use Rattle.sacn_node.specs.declared.setup.SlotRange.{SlotRange}
use Rattle.sacn_node.specs.Ports.{covers, octet_at, level_in, level_by}
use Rattle.sacn_world.specs.Nodes.{node_slots, slots_on}
use Rattle.sacn_world.specs.Laws.{SamePlacesGiveTheSameLevels}
use Rattle.sacn_packets.specs.declared.framing.packet.Packet.{Packet}
use Rattle.sacn_packets.specs.declared.framing.packet.Packet.TheVariants.{DataPacket, PagePacket, SyncPacket}
use Rattle.sacn_packets.specs.PacketReading.{reading_packet}
use Rattle.sacn_sources.specs.Merge.{Shown, MergesTheSet}
use Rattle.sacn_console.specs.declared.command.Command.{Command}
use Rattle.sacn_console.specs.Shows.{ShowContent}
use Rattle.sacn_console.specs.Lines as line
use Rattle.sacn_node.specs.Readings.{Reading}
use Rattle.sacn_node.specs.Setup.{Port}
use Rattle.sacn_schedule.specs.declared.event.Event.{Event}
use Rattle.sacn_schedule.specs.declared.event.Event.TheVariants.{Order, Poll, Deliver, Look, RestartConsole, RestartNode, Noise}
use Rattle.sacn_world.specs.declared.fault.WorldFault.{WorldFault}
use Rattle.sacn_world.specs.Streams.{Sent, nothing, at, stream_of, is_live, priority, levels}
use Rattle.sacn_world.specs.Holdings.{Hold}
use Rattle.sacn_world.specs.RowsOfPlaces.{shown_by}
use Rattle.sacn_world.specs.Nodes.{Holding, Node, shown_of, slots, HoldOk}
use Rattle.sacn_world.specs.declared.console.Console.{Console}
use Rattle.sacn_world.specs.Worlds.{World, sent_by, poll_by, poll_step, order_step, restart_console, come, arrive, deliver_step, look_step, hear_noise, noise_step, restart_node, step, left_by, after, new_console, new_world, Apart, WorldOk, NodeOk}
use Rattle.sacn_world.specs.Members.{IsShown, SameShown, HeldOn}
use Rattle.sacn_world.proofs.All.{all_get}
use Rattle.sacn_world.proofs.Lists.{found}
use Rattle.sacn_world.proofs.Growth.{longer, at_kept, holds_within}
use Rattle.sacn_world.proofs.Runs.{after_ok, start_ok}

-- what is found passes
pub found_passes : {X : Type 0} (test : X → Bool) (xs : List X) (x : X) → find test xs ≡ Some x → test x ≡ true
found_passes test [] x e = absurd (cc)
found_passes test (y ∷ ys) x e =
    elim (test y) as (λ b. test y ≡ b → cond b (Some y) (find test ys) ≡ Some x → test x ≡ true) [
      | true ↦ λ f g. ap test (sym (same_Some y x g)) ∙ f
      | false ↦ λ f g. found_passes test ys x g
    ] refl e

-- ---- elements

abbrev pub In : {X : Type 0} → X → List X → Type 0
In x [] = ⊥
In x (y ∷ ys) = (y ≡ x) ⊎ In x ys

contains_more : {X : Type 0} (x y : X) (ys : List X) → Contains ys x → Contains (y ∷ ys) x
contains_more x y ys c = (suc c.0, omega (arith, c.1), c.2)

pub contains_in : {X : Type 0} (x : X) (xs : List X) → In x xs → Contains xs x
contains_in x [] i = absurd i
contains_in x (y ∷ ys) (inl e) = (0, omega arith, e)
contains_in x (y ∷ ys) (inr i) = contains_more x y ys (contains_in x ys i)

in_at : {X : Type 0} (x : X) (xs : List X) (k : ℕ) → k < length xs → get_or xs k x ≡ x → In x xs
in_at x [] k lt e = absurd (omega (arith, lt))
in_at x (y ∷ ys) zero lt e = inl e
in_at x (y ∷ ys) (suc k) lt e = inr (in_at x ys k (omega (arith, lt)) e)

pub in_contains : {X : Type 0} (x : X) (xs : List X) → Contains xs x → In x xs
in_contains x xs c = in_at x xs c.0 c.1 c.2

module _ {X Y : Type 0} (f : X → Option Y) where
  pub in_filter_map : (y : Y) (xs : List X) → In y (filter_map f xs) → (x : X) × In x xs × (f x ≡ Some y)
  in_filter_map y [] i = absurd i
  in_filter_map y (z ∷ zs) i =
      elim (f z) as (λ o. f z ≡ o → In y (cons_option o (filter_map f zs)) → (x : X) × In x (z ∷ zs) × (f x ≡ Some y)) [
        | Some w ↦ λ e j. elim j [
          | inl k ↦ (z, inl refl, e ∙ ap Some k)
          | inr k ↦ let r = in_filter_map y zs k in (r.0, inr r.1, r.2)
        ]
        | None ↦ λ e j. let r = in_filter_map y zs j in (r.0, inr r.1, r.2)
      ] refl i

  pub filter_map_in : (x : X) (y : Y) (xs : List X) → In x xs → f x ≡ Some y → In y (filter_map f xs)
  filter_map_in x y [] i e = absurd i
  filter_map_in x y (z ∷ zs) (inl k) e =
      let g : f z ≡ Some y = ap f k ∙ e in
      subst (λ o. In y (cons_option o (filter_map f zs))) (sym g) (inl refl)
  filter_map_in x y (z ∷ zs) (inr k) e =
      let r = filter_map_in x y zs k e in
      elim (f z) as (λ o. In y (cons_option o (filter_map f zs))) [ Some w ↦ inr r | None ↦ r ]

pub in_all : {X : Type 0} (P : X → Type 0) (xs : List X) (x : X) → AllByRecursion P xs → In x xs → P x
in_all P [] x all i = absurd i
in_all P (y ∷ ys) x all (inl e) = subst P e all.0
in_all P (y ∷ ys) x all (inr i) = in_all P ys x all.1 i

-- ---- what is shown on the one side is shown on the other, with its priority and levels

pub shown_live : (b : Bool) (p : ℕ) (l : List ℕ) (y : Shown) → shown_by b p l ≡ Some y → b ≡ true
shown_live true p l y e = refl
shown_live false p l y e = cc

half : (u : ℕ) (sent later : List Sent) (hs gs : List Hold) → ((s : List ℕ) (q : ℕ) → IsShown u sent hs s q → IsShown u later gs s q) → ((s : List ℕ) (q : ℕ) → IsShown u sent hs s q → at (stream_of s u later) q ≡ at (stream_of s u sent) q) → (y : Shown) → Contains (filter_map (shown_of u sent) hs) y → Contains (filter_map (shown_of u later) gs) y
half u sent later hs gs to alike y c =
    let a = in_filter_map (shown_of u sent) y hs (in_contains y _ c) in
    let here : IsShown u sent hs a.0.source a.0.place = record { hold = a.0; held = contains_in a.0 hs a.1; source = refl; place = refl; live = shown_live _ _ _ y a.2 } in
    let b = to a.0.source a.0.place here in
    let e : shown_of u later b.hold ≡ shown_of u sent a.0 =
    ap (λ (s : List ℕ). let x = at (stream_of s u later) b.hold.place in shown_by (is_live x) (priority x) (levels x)) b.source
    ∙ ap (λ q. let x = at (stream_of a.0.source u later) q in shown_by (is_live x) (priority x) (levels x)) b.place
    ∙ ap (λ (x : Sent). shown_by (is_live x) (priority x) (levels x)) (alike a.0.source a.0.place here) in
    contains_in y _ (filter_map_in (shown_of u later) b.hold y gs (in_contains b.hold gs b.held) (e ∙ a.2))

pub slots_same : MergesTheSet → (u : ℕ) (sent later : List Sent) (hs gs : List Hold) → SameShown u sent hs later gs → ((s : List ℕ) (q : ℕ) → IsShown u sent hs s q → at (stream_of s u later) q ≡ at (stream_of s u sent) q) → slots u sent hs ≡ slots u later gs
slots_same merges u sent later hs gs same' alike =
    merges _ _ (λ y. (half u sent later hs gs (λ s q. (same' s q).0) alike y, half u later sent gs hs (λ s q. (same' s q).1) (λ s q i. sym (alike s q ((same' s q).1 i))) y))

-- ---- the second history has all that the first has

pub record Longer (a b : List Sent) : Type 0 where
  pub there : (s : List ℕ) (u p : ℕ) → p < length (stream_of s u a) → p < length (stream_of s u b)
  pub alike : (s : List ℕ) (u p : ℕ) → p < length (stream_of s u a) → at (stream_of s u b) p ≡ at (stream_of s u a) p

itself : (a : List Sent) → Longer a a
itself a = record { there = λ s u p lt. lt; alike = λ s u p lt. refl }

further : (a b c : List Sent) → Longer a b → Longer b c → Longer a c
further a b c f g = record { there = λ s u p lt. g.there s u p (f.there s u p lt); alike = λ s u p lt. g.alike s u p (f.there s u p lt) ∙ f.alike s u p lt }

one_more : (a : List Sent) (x : Sent) → Longer a (a ++ x ∷ [])
one_more a x = record { there = λ s u p lt. longer a x s u p lt; alike = λ s u p lt. at_kept a x s u p lt }

order_longer : (w : World) (i m : ℕ) (k : Command) (o : Option Console) → Longer w.sent (left_by w (order_step w i m k o)).sent
order_longer w i m k None = itself w.sent
order_longer w i m k (Some c) = itself w.sent

poll_by_longer : (w : World) (i m : ℕ) (c : Console) (o : Option line.Datagram) → Longer w.sent (poll_by w i m c o).world.sent
poll_by_longer w i m c None = itself w.sent
poll_by_longer w i m c (Some d) = one_more w.sent (sent_by c d)

poll_longer : (w : World) (i m : ℕ) (o : Option Console) → Longer w.sent (left_by w (poll_step w i m o)).sent
poll_longer w i m None = itself w.sent
poll_longer w i m (Some c) = poll_by_longer w i m c _

come_longer : (w : World) (i m : ℕ) (n : Node) (s : List ℕ) (u q : ℕ) (r : Option WorldFault) → Longer w.sent (left_by w (come w i m n s u q r)).sent
come_longer w i m n s u q (Some r) = itself w.sent
come_longer w i m n s u q None = itself w.sent

arrive_longer : (w : World) (k i m : ℕ) (n : Node) (s : List ℕ) (p : Packet) → Longer w.sent (left_by w (arrive w k i m n s p)).sent
arrive_longer w k i m n s (DataPacket d) = come_longer w i m n s d.universe _ _
arrive_longer w k i m n s (PagePacket p) = itself w.sent
arrive_longer w k i m n s SyncPacket = itself w.sent

deliver_longer : (w : World) (k i m : ℕ) (on : Option Node) (ox : Option Sent) → Longer w.sent (left_by w (deliver_step w k i m on ox)).sent
deliver_longer w k i m None ox = itself w.sent
deliver_longer w k i m (Some n) None = itself w.sent
deliver_longer w k i m (Some n) (Some x) = arrive_longer w k i m n x.source x.packet

look_longer : (w : World) (i port m : ℕ) (on : Option Node) → Longer w.sent (left_by w (look_step w i port m on)).sent
look_longer w i port m None = itself w.sent
look_longer w i port m (Some n) = itself w.sent

heard_longer : (w : World) (i m : ℕ) (n : Node) (r : Reading) → Longer w.sent (left_by w (hear_noise w i m n r)).sent
heard_longer w i m n (Ok p) = itself w.sent
heard_longer w i m n (Err f) = itself w.sent

noise_longer : (w : World) (i m : ℕ) (r : Reading) (on : Option Node) → Longer w.sent (left_by w (noise_step w i m r on)).sent
noise_longer w i m r None = itself w.sent
noise_longer w i m r (Some n) = heard_longer w i m n r

console_longer : (w : World) (i first : ℕ) (o : Option Console) → Longer w.sent (left_by w (restart_console w i first o)).sent
console_longer w i first None = itself w.sent
console_longer w i first (Some c) = itself w.sent

node_longer : (w : World) (i : ℕ) (on : Option Node) → Longer w.sent (left_by w (restart_node w i on)).sent
node_longer w i None = itself w.sent
node_longer w i (Some n) = itself w.sent

step_longer : (w : World) (e : Event) → Longer w.sent (left_by w (step w e)).sent
unfolding step
step_longer w (Order i m k) = order_longer w i m k _
step_longer w (Poll i m) = poll_longer w i m _
step_longer w (Deliver k i m) = deliver_longer w k i m _ _
step_longer w (Look i port m) = look_longer w i port m _
step_longer w (RestartConsole i first) = console_longer w i first _
step_longer w (RestartNode i) = node_longer w i _
step_longer w (Noise i m octets) = noise_longer w i m (reading_packet octets.items) _

pub run_longer : (w : World) (es : List Event) → Longer w.sent (after w es).sent
run_longer w [] = itself w.sent
run_longer w (e ∷ es) = further w.sent (left_by w (step w e)).sent (after (left_by w (step w e)) es).sent (step_longer w e) (run_longer (left_by w (step w e)) es)

-- a place that is shown was sent
pub shown_within : (w : World) → WorldOk w → (i u : ℕ) (hs : List Hold) → HeldOn w i u hs → (s : List ℕ) (q : ℕ) → IsShown u w.sent hs s q → q < length (stream_of s u w.sent)
shown_within w ok i u hs on s q k =
    let nok = all_get (NodeOk w.sent) w.nodes i on.node ok.nodes on.is_node in
    let f = found (λ (y : Holding). AllByRecursion (HoldOk y.universe on.node.delivered) y.held) (λ y. y.universe == u) on.node.holdings on.holding nok.below on.is_holding in
    let all : AllByRecursion (HoldOk u on.node.delivered) hs = subst (λ (xs : List Hold). AllByRecursion (HoldOk u on.node.delivered) xs) on.holds (subst (λ v. AllByRecursion (HoldOk v on.node.delivered) on.holding.held) (eqb-true _ _ f.1) f.0) in
    let within = holds_within w.sent nothing u on.node.delivered nok.within hs all in
    let h = in_all (λ (y : Hold). y.place < length (stream_of y.source u w.sent)) hs k.hold within (in_contains k.hold hs k.held) in
    let a : k.hold.place < length (stream_of s u w.sent) = subst (λ (z : List ℕ). k.hold.place < length (stream_of z u w.sent)) k.source h in
    subst (λ p. p < length (stream_of s u w.sent)) k.place a

-- after two prefixes of one run, on any nodes, the same places that are shown give the same slots
pub looks_same : MergesTheSet → (shows : List (ShowContent × ℕ)) (setups : List (List Port)) (es fs : List Event) (i j u : ℕ) (hs gs : List Hold) → Apart (map new_console shows) → let w = after (new_world shows setups) es in let v = after w fs in HeldOn w i u hs → HeldOn v j u gs → SameShown u w.sent hs v.sent gs → slots u w.sent hs ≡ slots u v.sent gs
looks_same merges shows setups es fs i j u hs gs apart a b same' =
    let w = after (new_world shows setups) es in
    let ok = after_ok (new_world shows setups) (start_ok shows setups apart) es in
    let l = run_longer w fs in
    slots_same merges u w.sent (after w fs).sent hs gs same' (λ s q k. l.alike s u q (shown_within w ok i u hs a s q k))

-- ---- and so at the ports

universe_slots : (w : World) (i u : ℕ) (hs : List Hold) (on : HeldOn w i u hs) → node_slots w.sent on.node u ≡ slots u w.sent hs
universe_slots w i u hs on =
    let is : on.holding.universe ≡ u = eqb-true _ _ (found_passes (λ (g : Holding). g.universe == u) on.node.holdings on.holding on.is_holding) in
    ap (slots_on w.sent) on.is_holding ∙ ap (λ v. slots v w.sent on.holding.held) is ∙ ap (slots u w.sent) on.holds

octet_by : (slots : ℕ → List ℕ) (rs : List SlotRange) (a u : ℕ) (r : SlotRange) → 0 < a → find (covers a) rs ≡ Some r → r.universe ≡ u → octet_at slots rs a ≡ get_or (slots u) (r.slot - 1 + (a - r.port_slot)) 0
unfolding level_in
octet_by slots rs a u r up is eu =
    ap (λ b. if b then 0 else level_by slots a (find (covers a) rs)) (ne_eqb a 0 (λ e. absurd (omega (arith, up, e))))
    ∙ ap (level_by slots a) is ∙ ap (λ v. get_or (slots v) (r.slot - 1 + (a - r.port_slot)) 0) eu

pub levels_same : MergesTheSet → SamePlacesGiveTheSameLevels
levels_same merges shows setups es fs i j u hs gs apart on off same' rs qs a b up there is =
    let w = after (new_world shows setups) es in
    let v = after w fs in
    let e : node_slots w.sent on.node u ≡ node_slots v.sent off.node u =
    universe_slots w i u hs on ∙ looks_same merges shows setups es fs i j u hs gs apart on off same' ∙ sym (universe_slots v j u gs off) in
    octet_by (node_slots w.sent on.node) rs a u is.one up is.is_one is.universe
    ∙ ap (λ n. get_or (node_slots w.sent on.node u) n 0) is.slot
    ∙ ap (λ xs. get_or xs (is.other.slot - 1 + (b - is.other.port_slot)) 0) e
    ∙ sym (octet_by (node_slots v.sent off.node) qs b u is.other there is.is_other is.other_universe)
