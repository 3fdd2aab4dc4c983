-- The nodes of a gateway, one by one.
use Rattle.std.proofs.Common.{◌≡◌, ℕ, zero, suc, ◌+◌, ◌<◌, ◌≤◌, List, [], ◌∷◌, ◌++◌, length, get_or, take, refl, ap, subst, sym, ◌∙◌, arith, min, append_assoc, Option, None, Some, Bool, true, false, if◌then◌else◌}
use Rattle.std.specs.Prelude.{⊤}
use Rattle.std.proofs.lemmas.List.{take_more}
use Rattle.sacn_node.specs.Cores.{Node, core_lost}
use Rattle.sacn_node.specs.Calls.{step, Tick, with_reading}
use Rattle.sacn_packets.specs.PacketReading.{Reading, reading_packet}
use Rattle.sacn_edge.specs.Hearings.{Silence, Octets}
use Rattle.sacn_edge.specs.NodeText.{call_at}
use Rattle.sacn_node.specs.Showings.{IsShowingOf}
use Rattle.sacn_node.specs.declared.port_frame.PortFrame.{PortFrame}
use Rattle.sacn_machine.specs.declared.device.Offer.{Offer}
use Rattle.sacn_edge.specs.Additions.{Adds}
use Rattle.sacn_edge.specs.PortLines.{FailsAmong, port_text, ports_text}
use Rattle.sacn_edge.proofs.PortLineLemmas.{append_nil}
use Rattle.sacn_gateway.specs.declared.interface.Interface.{Interface}
use Rattle.sacn_gateway.specs.declared.nodes.GatewayNode.{GatewayNode}
use Rattle.sacn_gateway.specs.Interfaces.{Pairwise, due_before, earliest}
use Rattle.sacn_gateway.specs.GatewayNodes.{AreShown, IsMoved, Sleeps, AllSleep, news_text, news_texts}
use Rattle.sacn_gateway.proofs.Pairing.{DoneTo}

pub pairwise_join : {X : Type 0} (R S T : X → X → Type 0) → ((x y z : X) → R x y → S y z → T x z)
    → (xs ys zs : List X) → Pairwise R xs ys → Pairwise S ys zs → Pairwise T xs zs
pairwise_join R S T join [] [] [] r s = tt
pairwise_join R S T join [] [] (z ∷ zs) r s = absurd s
pairwise_join R S T join [] (y ∷ ys) zs r s = absurd r
pairwise_join R S T join (x ∷ xs) [] zs r s = absurd r
pairwise_join R S T join (x ∷ xs) (y ∷ ys) [] r s = absurd s
pairwise_join R S T join (x ∷ xs) (y ∷ ys) (z ∷ zs) r s = (join x y z r.0 s.0, pairwise_join R S T join xs ys zs r.1 s.1)

pub pairwise_map : {X : Type 0} (R T : X → X → Type 0) → ((x y : X) → R x y → T x y) → (xs ys : List X) → Pairwise R xs ys → Pairwise T xs ys
pairwise_map R T join [] [] r = tt
pairwise_map R T join [] (y ∷ ys) r = absurd r
pairwise_map R T join (x ∷ xs) [] r = absurd r
pairwise_map R T join (x ∷ xs) (y ∷ ys) r = (join x y r.0, pairwise_map R T join xs ys r.1)

-- the node that comes next in a loop over all is as it was
pub shown_next : {D : Type 0} (R : GatewayNode D → GatewayNode D → Type 0) (n : ℕ) (xs ys : List (GatewayNode D)) (d : GatewayNode D)
    → AreShown xs → DoneTo R n xs ys → n < length xs → IsShowingOf (get_or ys n d).showing (get_or ys n d).core
shown_next R n [] ys d shown done within = absurd (omega (arith, within))
shown_next R zero (x ∷ xs) [] d shown done within = absurd done
shown_next R (suc n) (x ∷ xs) [] d shown done within = absurd done
shown_next R zero (x ∷ xs) (y ∷ ys) d shown done within = subst (λ (v : GatewayNode _). IsShowingOf v.showing v.core) (sym done.0) shown.0
shown_next R (suc n) (x ∷ xs) (y ∷ ys) d shown done within = shown_next R n xs ys d shown.1 done.1 (omega (arith, within))

-- all are shown that became so, each by itself
pub all_shown : {D : Type 0} (R : GatewayNode D → GatewayNode D → Type 0) → ((x y : GatewayNode D) → R x y → IsShowingOf y.showing y.core)
    → (xs ys : List (GatewayNode D)) → Pairwise R xs ys → AreShown ys
all_shown R is [] [] r = tt
all_shown R is [] (y ∷ ys) r = absurd r
all_shown R is (x ∷ xs) [] r = absurd r
all_shown R is (x ∷ xs) (y ∷ ys) r = (is x y r.0, all_shown R is xs ys r.1)

pub moved_shown : {D : Type 0} (by : Node → Node) (xs ys : List (GatewayNode D)) → Pairwise (IsMoved by) xs ys → AreShown ys
moved_shown by xs ys moved = all_shown (IsMoved by) (λ x y m. m.1) xs ys moved

-- one thing came, said in two ways
moved_as : {D : Type 0} (by to : Node → Node) (xs ys : List (GatewayNode D)) → ((n : Node) → by n ≡ to n) → Pairwise (IsMoved by) xs ys → Pairwise (IsMoved to) xs ys
moved_as by to xs ys same moved = pairwise_map (IsMoved by) (IsMoved to) (λ x y m. (m.0 ∙ same x.core, m.1, m.2, m.3)) xs ys moved

-- a datagram, where it isn't passed over
pub given_taken : {D : Type 0} (passed : Bool) (now : ℕ) (octets : List ℕ) (reading : Reading) (xs ys : List (GatewayNode D))
    → false ≡ passed → reading ≡ reading_packet octets
    → Pairwise (IsMoved (with_reading now reading)) xs ys
    → Pairwise (IsMoved (step (call_at now (if passed then Silence else Octets octets)))) xs ys
given_taken passed now octets reading xs ys not_passed read moved =
    moved_as (with_reading now reading) (step (call_at now (if passed then Silence else Octets octets))) xs ys
    (λ n. ap (λ r. with_reading now r n) read ∙ ap (λ b. step (call_at now (if b then Silence else Octets octets)) n) not_passed) moved

-- where it is
pub given_passed : {D : Type 0} (passed : Bool) (now : ℕ) (octets : List ℕ) (xs ys : List (GatewayNode D))
    → true ≡ passed
    → Pairwise (IsMoved (step (Tick now))) xs ys
    → Pairwise (IsMoved (step (call_at now (if passed then Silence else Octets octets)))) xs ys
given_passed passed now octets xs ys is_passed moved =
    moved_as (step (Tick now)) (step (call_at now (if passed then Silence else Octets octets))) xs ys
    (λ n. ap (λ b. step (call_at now (if b then Silence else Octets octets)) n) is_passed) moved

-- ---- how long is waited

due_below : (latest : Option Offer) (now w : ℕ) → due_before latest now w ≤ w
due_below None now w = omega arith
due_below (Some o) now w = omega arith

due_rises : (latest : Option Offer) (now w v : ℕ) → w ≤ v → due_before latest now w ≤ due_before latest now v
due_rises None now w v below = below
due_rises (Some o) now w v below = omega (arith, below)

earliest_below : {D : Type 0} (is : List (Interface D)) (now w : ℕ) → earliest is now w ≤ w
earliest_below [] now w = omega arith
earliest_below (i ∷ is) now w = omega (arith, earliest_below is now (due_before i.latest now w), due_below i.latest now w)

earliest_rises : {D : Type 0} (is : List (Interface D)) (now w v : ℕ) → w ≤ v → earliest is now w ≤ earliest is now v
earliest_rises [] now w v below = below
earliest_rises (i ∷ is) now w v below = earliest_rises is now (due_before i.latest now w) (due_before i.latest now v) (due_rises i.latest now w v below)

pub woken_latest : {D : Type 0} (is : List (Interface D)) (now w latest r : ℕ) → r ≡ earliest is now w → w ≤ latest → r ≤ latest
woken_latest is now w latest r woken below = omega (arith, woken, below, earliest_below is now w)

pub woken_sleeps : {D : Type 0} (n : GatewayNode D) (now w latest r : ℕ) → r ≡ earliest n.interfaces.items now w → w ≤ latest
    → ((t : ℕ) → t < w → core_lost t n.core.core ≡ 0) → Sleeps now latest r n
woken_sleeps n now w latest r woken below asleep =
    (λ t before. asleep t (omega (arith, before, woken, earliest_below n.interfaces.items now w)), omega (arith, woken, earliest_rises n.interfaces.items now w latest below))

-- where it is asked up to a later moment
pub sleeps_later : {D : Type 0} (n : GatewayNode D) (now w latest r : ℕ) → w ≤ latest → Sleeps now w r n → Sleeps now latest r n
sleeps_later n now w latest r below asleep = (asleep.0, omega (arith, asleep.1, earliest_rises n.interfaces.items now w latest below))

-- the nodes up to one, and the next, where less is waited for it
pub more_sleep : {D : Type 0} (now latest wake sooner i : ℕ) (ns : List (GatewayNode D)) (d : GatewayNode D)
    → AllSleep now latest wake (take i ns) → sooner ≤ wake → Sleeps now latest sooner (get_or ns i d) → i < length ns
    → AllSleep now latest sooner (take (i + 1) ns)
more_sleep now latest wake sooner i [] d all below next within = absurd (omega (arith, within))
more_sleep now latest wake sooner zero (n ∷ ns) d all below next within = (next, tt)
more_sleep now latest wake sooner (suc i) (n ∷ ns) d all below next within =
    let step : suc i + 1 ≡ suc (i + 1) = omega arith in
    rw step ((λ t before. all.0.0 t (omega (arith, before, below)), omega (arith, below, all.0.1)), more_sleep now latest wake sooner i ns d all.1 below next (omega (arith, within)))

-- ---- lines

news_texts-append : {D : Type 0} (ns ms : List (GatewayNode D)) → news_texts (ns ++ ms) ≡ news_texts ns ++ news_texts ms
news_texts-append [] ms = refl
news_texts-append (n ∷ ns) ms = ap (λ x. news_text n ++ x) (news_texts-append ns ms) ∙ sym (append_assoc (news_text n) (news_texts ns) (news_texts ms))

pub news_texts-more : {D : Type 0} (ns : List (GatewayNode D)) (i : ℕ) (d : GatewayNode D) → i < length ns → news_texts (take (i + 1) ns) ≡ news_texts (take i ns) ++ news_text (get_or ns i d)
news_texts-more ns i d lt =
    ap news_texts (take_more ns i d lt)
    ∙ news_texts-append (take i ns) (get_or ns i d ∷ [])
    ∙ ap (λ x. news_texts (take i ns) ++ x) (append_nil (news_text (get_or ns i d)))

-- what was written of some ports up to a proper part, as a text of its own
pub fails_alone : (m : ℕ) (ps : List PortFrame) (old new : List ℕ → Type 0) → FailsAmong m ps old new
    → (more : List ℕ) × FailsAmong m ps (λ xs. xs ≡ []) (λ xs. xs ≡ more) × Adds old new more
fails_alone m ps old new fails =
    let more = ports_text m fails.0 ++ take fails.3 (port_text m fails.1) in
    (more, (fails.0, fails.1, fails.2, fails.3, fails.4, fails.5, λ ys told. ([], refl, told)), fails.6)
