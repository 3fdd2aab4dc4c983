-- The counts of a follower's book are those of its calls alone: what is told in between changes none.
use Rattle.std.proofs.Common.{◌≡◌, ℕ, zero, suc, ◌+◌, ltb, Bool, true, false, not, cond, ◌&&◌, ◌==◌, max, List, [], ◌∷◌, ◌++◌, length, Option, None, Some, Result, Ok, Err, refl, sym, ap, subst, ◌∙◌}
use Rattle.std.specs.Prelude.{⊤, slice_get}
use Rattle.std.specs.Str.{bytes_eq}
use Rattle.std.specs.List.{position, position_or_len}
use Rattle.sacn_packets.specs.declared.root.fault.PacketFault.{PacketFault}
use Rattle.sacn_packets.specs.Data.{Data}
use Rattle.sacn_packets.specs.declared.framing.packet.Packet.{Packet}
use Rattle.sacn_packets.specs.declared.framing.packet.Packet.TheVariants.{DataPacket, PagePacket, SyncPacket}
use Rattle.sacn_packets.specs.PacketReading.{reading_packet}
use Rattle.sacn_monitor.specs.declared.account.Endpoint.{Endpoint}
use Rattle.sacn_monitor.specs.declared.stream.Stream.{Stream}
use Rattle.sacn_monitor.specs.declared.tally.Tally.{Tally}
use Rattle.sacn_monitor.specs.Kinds.{more}
use Rattle.sacn_monitor.specs.Tallies.{refused_more}
use Rattle.sacn_monitor.specs.Streams.{is_of, first_stream, stream_after}
use Rattle.sacn_monitor.specs.Books.{Book, new_book, with_told, told_at, silent_place, changed, change_at, after_data, after_read, after_take, after_tick, with_datagram}
use Rattle.sacn_monitor.specs.Histories.{Call, Take, Tick, moment_in_use, after_calls}
use Rattle.sacn_tell.specs.Following.{after_ticks, IsTicked, Follows, CountsAreOfWhatWasHanded}

-- the same sources on the same universes, in the same order
abbrev Alike : List Stream → List Stream → Type 0
Alike [] [] = ⊤
Alike [] (t ∷ ts) = ⊥
Alike (s ∷ ss) [] = ⊥
Alike (s ∷ ss) (t ∷ ts) = (s.universe ≡ t.universe) × (s.cid ≡ t.cid) × Alike ss ts

alike_self : (ss : List Stream) → Alike ss ss
alike_self [] = tt
alike_self (s ∷ ss) = (refl, refl, alike_self ss)

alike_len : (ss ts : List Stream) → Alike ss ts → length ss ≡ length ts
alike_len [] [] h = refl
alike_len [] (t ∷ ts) h = absurd h
alike_len (s ∷ ss) [] h = absurd h
alike_len (s ∷ ss) (t ∷ ts) h = ap suc (alike_len ss ts h.2)

same_test : (universe : ℕ) (cid : List ℕ) (s t : Stream) → s.universe ≡ t.universe → s.cid ≡ t.cid → is_of universe cid s ≡ is_of universe cid t
same_test universe cid s t u c = ap (λ (x : ℕ). (x == universe) && bytes_eq s.cid cid) u ∙ ap (λ (x : List ℕ). (t.universe == universe) && bytes_eq x cid) c

alike_place : (universe : ℕ) (cid : List ℕ) (ss ts : List Stream) → Alike ss ts → position_or_len (is_of universe cid) ss ≡ position_or_len (is_of universe cid) ts
alike_place universe cid [] [] h = refl
alike_place universe cid [] (t ∷ ts) h = absurd h
alike_place universe cid (s ∷ ss) [] h = absurd h
alike_place universe cid (s ∷ ss) (t ∷ ts) h =
    ap (λ (b : Bool). cond (not b) (1 + position_or_len (is_of universe cid) ss) 0) (same_test universe cid s t h.0 h.1)
    ∙ ap (λ (n : ℕ). cond (not (is_of universe cid t)) (1 + n) 0) (alike_place universe cid ss ts h.2)

alike_position : (universe : ℕ) (cid : List ℕ) (ss ts : List Stream) → Alike ss ts → position (is_of universe cid) ss ≡ position (is_of universe cid) ts
alike_position universe cid ss ts h =
    ap (λ (n : ℕ). cond (ltb n (length ss)) (Some n) None) (alike_place universe cid ss ts h)
    ∙ ap (λ (n : ℕ). cond (ltb (position_or_len (is_of universe cid) ts) n) (Some (position_or_len (is_of universe cid) ts)) None) (alike_len ss ts h)

alike_push : (ss ts : List Stream) (s t : Stream) → Alike ss ts → s.universe ≡ t.universe → s.cid ≡ t.cid → Alike (ss ++ s ∷ []) (ts ++ t ∷ [])
alike_push [] [] s t h u c = (u, c, tt)
alike_push [] (y ∷ ts) s t h u c = absurd h
alike_push (x ∷ ss) [] s t h u c = absurd h
alike_push (x ∷ ss) (y ∷ ts) s t h u c = (h.0, h.1, alike_push ss ts s t h.2 u c)

alike_sym : (ss ts : List Stream) → Alike ss ts → Alike ts ss
alike_sym [] [] h = tt
alike_sym [] (t ∷ ts) h = absurd h
alike_sym (s ∷ ss) [] h = absurd h
alike_sym (s ∷ ss) (t ∷ ts) h = (sym h.0, sym h.1, alike_sym ss ts h.2)

-- ---- a stream that changes stays that of its source on its universe

abbrev Keeps : (Stream → Stream) → Type 0
Keeps f = (s : Stream) → ((f s).universe ≡ s.universe) × ((f s).cid ≡ s.cid)

changed_on : (f : Stream → Stream) (i : ℕ) (s : Stream) (ss : List Stream) (o : Option Stream) → s ∷ changed f i ss o ≡ changed f (suc i) (s ∷ ss) o
changed_on f i s ss None = refl
changed_on f i s ss (Some x) = refl

alike_changed : (f : Stream → Stream) → Keeps f → (i : ℕ) (ss ts : List Stream) → Alike ss ts → Alike (change_at f i ss) ts
alike_changed f keeps i [] ts h = h
alike_changed f keeps i (s ∷ ss) [] h = absurd h
alike_changed f keeps zero (s ∷ ss) (t ∷ ts) h = ((keeps s).0 ∙ h.0, (keeps s).1 ∙ h.1, h.2)
alike_changed f keeps (suc i) (s ∷ ss) (t ∷ ts) h =
    subst (λ (x : List Stream). Alike x (t ∷ ts)) (changed_on f i s ss (slice_get ss i)) (h.0, h.1, alike_changed f keeps i ss ts h.2)

alike_both : (f g : Stream → Stream) → Keeps f → Keeps g → (i : ℕ) (ss ts : List Stream) → Alike ss ts → Alike (change_at f i ss) (change_at g i ts)
alike_both f g fk gk i ss ts h = alike_sym (change_at g i ts) (change_at f i ss) (alike_changed g gk i ts (change_at f i ss) (alike_sym (change_at f i ss) ts (alike_changed f fk i ss ts h)))

-- ---- books

abbrev SameCounts : Book → Book → Type 0
SameCounts b c = (b.tally ≡ c.tally) × Alike b.streams c.streams

told_alike : (o : Option ℕ) (ss ts : List Stream) → Alike ss ts → Alike (told_at o ss) ts
told_alike None ss ts h = h
told_alike (Some i) ss ts h = alike_changed with_told (λ s. (refl, refl)) i ss ts h

tick_left : (m : ℕ) (b c : Book) → SameCounts b c → SameCounts (after_tick m b) c
tick_left m b c h = (h.0, told_alike (silent_place (max b.moment m) b.streams) b.streams c.streams h.1)

ticks_left : (ms : List ℕ) (b c : Book) → SameCounts b c → SameCounts (after_ticks ms b) c
ticks_left [] b c h = h
ticks_left (m ∷ ms) b c h = tick_left m (after_ticks ms b) c (ticks_left ms b c h)

tick_right : (m : ℕ) (b c : Book) → SameCounts b c → SameCounts b (after_tick m c)
tick_right m b c h =
    let turned = tick_left m c b (sym h.0, alike_sym b.streams c.streams h.1) in
    (sym turned.0, alike_sym (after_tick m c).streams b.streams turned.1)

abbrev opened : Endpoint → Data → Book → Bool → Book
opened sender d b room = cond room (record b { streams = b.streams ++ first_stream b.moment sender d ∷ [] }) (record b { tally = record b.tally { untracked = more 1 b.tally.untracked } })

opened_counts : (sender : Endpoint) (d : Data) (b c : Book) (room : Bool) → SameCounts b c → SameCounts (opened sender d b room) (opened sender d c room)
opened_counts sender d b c true h = (h.0, alike_push b.streams c.streams (first_stream b.moment sender d) (first_stream c.moment sender d) h.1 refl refl)
opened_counts sender d b c false h = (ap (λ (t : Tally). record t { untracked = more 1 t.untracked }) h.0, h.1)

data_counts : (sender : Endpoint) (d : Data) (b c : Book) (o : Option ℕ) → SameCounts b c → SameCounts (after_data sender d b o) (after_data sender d c o)
unfolding after_data
data_counts sender d b c None h =
    subst (λ (n : ℕ). SameCounts (opened sender d b (ltb (length b.streams) 1024)) (opened sender d c (ltb n 1024))) (alike_len b.streams c.streams h.1)
    (opened_counts sender d b c (ltb (length b.streams) 1024) h)
data_counts sender d b c (Some i) h = (
  h.0,
  alike_both (stream_after b.moment sender d) (stream_after c.moment sender d) (λ s. (refl, refl)) (λ s. (refl, refl)) i b.streams c.streams h.1,
)

read_counts : (sender : Endpoint) (b c : Book) (r : Result Packet PacketFault) → SameCounts b c → SameCounts (after_read sender b r) (after_read sender c r)
read_counts sender b c (Ok (DataPacket d)) h =
    subst (λ (o : Option ℕ). SameCounts (after_data sender d b (position (is_of d.universe d.cid) b.streams)) (after_data sender d c o)) (alike_position d.universe d.cid b.streams c.streams h.1)
    (data_counts sender d b c (position (is_of d.universe d.cid) b.streams) h)
read_counts sender b c (Ok (PagePacket p)) h = (ap (λ (t : Tally). record t { pages = more 1 t.pages }) h.0, h.1)
read_counts sender b c (Ok SyncPacket) h = (ap (λ (t : Tally). record t { syncs = more 1 t.syncs }) h.0, h.1)
read_counts sender b c (Err fault) h = (ap (refused_more fault) h.0, h.1)

take_counts : (t now : ℕ) (sender : Endpoint) (octets : List ℕ) (b c : Book) → SameCounts b c → SameCounts (after_take t sender octets b) (after_take now sender octets c)
take_counts t now sender octets b c h =
    read_counts sender (with_datagram t b) (with_datagram now c) (reading_packet octets) (ap (λ (x : Tally). record x { datagrams = more 1 x.datagrams }) h.0, h.1)

ticked_counts : (t : ℕ) (old new c : Book) → SameCounts old c → IsTicked t old new → SameCounts new c
ticked_counts t old new c h ticked = subst (λ (x : Book). SameCounts x c) (sym ticked.2) (ticks_left ticked.0 old c h)

same_counts : (calls : List Call) (b : Book) → Follows calls b → SameCounts b (after_calls calls)
same_counts [] b begun = subst (λ (x : Book). SameCounts x new_book) (sym begun) (refl, tt)
same_counts (Tick now ∷ earlier) b (old, follows, ticked) =
    tick_right now b (after_calls earlier) (ticked_counts (max (moment_in_use earlier) now) old b (after_calls earlier) (same_counts earlier old follows) ticked)
same_counts (Take now sender octets ∷ earlier) b (old, follows, (mid, ticked, taken)) =
    subst (λ (x : Book). SameCounts x (after_take now sender octets (after_calls earlier))) (sym taken)
    (take_counts (max (moment_in_use earlier) now) now sender octets mid (after_calls earlier)
    (ticked_counts (max (moment_in_use earlier) now) old mid (after_calls earlier) (same_counts earlier old follows) ticked))

pub counts_are_of_what_was_handed : CountsAreOfWhatWasHanded
counts_are_of_what_was_handed calls b follows = let same = same_counts calls b follows in (same.0, alike_len b.streams (after_calls calls).streams same.1)
