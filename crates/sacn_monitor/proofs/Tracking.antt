-- The account of a source on a universe is the one that its packets there give.
use Rattle.std.proofs.Common.{◌≡◌, ℕ, zero, suc, ◌<◌, ◌≤◌, ◌⊎◌, inl, inr, max, cond, ltb, ◌&&◌, ◌==◌, Bool, true, false, List, [], ◌∷◌, ◌++◌, length, get_or, set, Option, Some, None, Result, Ok, Err, refl, sym, ap, subst, ◌∙◌, arith}
use Rattle.std.specs.Prelude.{find, position, slice_get}
use Rattle.std.specs.Option.{option_map, option_or}
use Rattle.std.specs.List.{position_or_len}
use Rattle.std.specs.Str.{bytes_eq}
use Rattle.std.proofs.lemmas.Bool.{ltb-false, ltb-true, eqb-true}
use Rattle.std.proofs.lemmas.List.{length-set, length-append}
use Rattle.std.proofs.lemmas.List.Folds.{find_at, find-set, find_past, find-append}
use Rattle.std.proofs.lemmas.List.Quantifiers.{position-Some}
use Rattle.std.proofs.lemmas.Option.{slice_get_past, slice_get_within, slice_get_cases, get_or_from_slice_get}
use Rattle.std.proofs.lemmas.Slice.Eq.{bytes_eq-Decides}
use Rattle.sacn_packets.specs.declared.root.fault.PacketFault.{PacketFault}
use Rattle.sacn_packets.specs.Data.{Data}
use Rattle.sacn_packets.specs.declared.framing.packet.Packet.{Packet}
use Rattle.sacn_packets.specs.declared.framing.packet.Packet.TheVariants.{DataPacket, PagePacket, SyncPacket}
use Rattle.sacn_packets.specs.PacketReading.{reading_packet}
use Rattle.sacn_monitor.specs.declared.account.Account.{Account}
use Rattle.sacn_monitor.specs.declared.account.Endpoint.{Endpoint}
use Rattle.sacn_monitor.specs.declared.stream.Stream.{Stream}
use Rattle.sacn_monitor.specs.Kinds.{more}
use Rattle.sacn_monitor.specs.Streams.{is_of, first_stream, stream_after}
use Rattle.sacn_monitor.specs.Books.{Book, with_datagram, after_data, after_read, changed, change_at, with_told, told_at, silent_place}
use Rattle.sacn_monitor.proofs.Chaining.{refused}
use Rattle.sacn_monitor.specs.Histories.{Take, Tick, Arrival, after_calls, arrival_of, arrivals, account_with, account_by, account_in, AccountsAreOfTheirPackets, UsesTheGreatestMoment}

-- ---- places

chosen : (b : Bool) (n i : ℕ) → cond b (Some n) None ≡ Some i → n ≡ i
chosen true n i e = cc
chosen false n i e = absurd cc

find_none : (p : Stream → Bool) (ss : List Stream) → position p ss ≡ None → find p ss ≡ None
find_none p ss e =
    let past = ltb-false (position_or_len p ss) (length ss) (refused (ltb (position_or_len p ss) (length ss)) (position_or_len p ss) e) in
    find_at p ss ∙ slice_get_past ss (position_or_len p ss) past

clash : (a : Account) (o : Option Account) → o ≡ None → o ≡ Some a → ⊥
clash a o none some = let bad : ⊥ = cc in bad

apart_from : (s : Stream) (o : Option Stream) → o ≡ None → o ≡ Some s → ⊥
apart_from s o none some = let bad : ⊥ = cc in bad

placed : (b : Bool) (n i : ℕ) → cond b (Some n) None ≡ Some i → b ≡ true
placed true n i e = refl
placed false n i e = absurd cc

-- at a place there is a stream
missing : (p : Stream → Bool) (ss : List Stream) (i : ℕ) → position p ss ≡ Some i → slice_get ss i ≡ None → ⊥
missing p ss i place none =
    let at : position_or_len p ss ≡ i = chosen (ltb (position_or_len p ss) (length ss)) (position_or_len p ss) i place in
    let within : position_or_len p ss < length ss = ltb-true (position_or_len p ss) (length ss) (placed (ltb (position_or_len p ss) (length ss)) (position_or_len p ss) i place) in
    elim (slice_get_cases ss i).1 [
      | inl there ↦ apart_from there.0 (slice_get ss i) none there.2
      | inr past ↦ absurd (omega (arith, at, within, past.0))
    ]

length_changed : (f : Stream → Stream) (i : ℕ) (ss : List Stream) (o : Option Stream) → length (changed f i ss o) ≡ length ss
length_changed f i ss None = refl
length_changed f i ss (Some s) = length-set ss i (f s)

module _ (p : Stream → Bool) (f : Stream → Stream) (ss : List Stream) (i : ℕ) (place : position p ss ≡ Some i) where
  here : position_or_len p ss ≡ i
  here = chosen (ltb (position_or_len p ss) (length ss)) (position_or_len p ss) i place

  found : find p ss ≡ slice_get ss i
  found = find_at p ss ∙ ap (slice_get ss) here

  passes : (s : Stream) → slice_get ss i ≡ Some s → p s ≡ true
  passes s e = subst (λ x. p x ≡ true) (get_or_from_slice_get ss i s s e) (position-Some p ss i s place).1

  by_same : ((s : Stream) → p (f s) ≡ p s) → (o : Option Stream) → slice_get ss i ≡ o → find p (changed f i ss o) ≡ option_map f o
  by_same keeps None e = found ∙ e
  by_same keeps (Some s) e = find-set p ss i (f s) (sym here) (slice_get_within ss i s e) (keeps s ∙ passes s e)

  pub found_same : ((s : Stream) → p (f s) ≡ p s) → find p (change_at f i ss) ≡ option_map f (find p ss)
  found_same keeps = by_same keeps (slice_get ss i) refl ∙ ap (option_map f) (sym found)

  by_other : (q : Stream → Bool) → ((s : Stream) → q (f s) ≡ q s) → ((s : Stream) → p s ≡ true → q s ≡ false) → (o : Option Stream) → slice_get ss i ≡ o → find q (changed f i ss o) ≡ find q ss
  by_other q keeps apart None e = refl
  by_other q keeps apart (Some s) e =
      let other : q s ≡ false = apart s (passes s e) in
      find_past q ss i (f s) s (ap q (get_or_from_slice_get ss i s s e) ∙ other) (keeps s ∙ other)

  pub found_other : (q : Stream → Bool) → ((s : Stream) → q (f s) ≡ q s) → ((s : Stream) → p s ≡ true → q s ≡ false) → find q (change_at f i ss) ≡ find q ss
  found_other q keeps apart = by_other q keeps apart (slice_get ss i) refl

-- ---- one source on one universe

module _ (universe : ℕ) (cid : List ℕ) where
  abbrev q : Stream → Bool
  q s = is_of universe cid s

  abbrev kept : List Stream → Option Account
  kept ss = account_in universe cid ss

  abbrev Tracks : List Stream → List Arrival → Type 0
  Tracks ss xs = (kept ss ≡ account_by xs) ⊎ ((kept ss ≡ None) × (1024 ≤ length ss))

  -- what doesn't touch the account and drops no stream keeps it tracked
  untouched : (ss after : List Stream) (xs : List Arrival) → kept after ≡ kept ss → length ss ≤ length after → Tracks ss xs → Tracks after xs
  untouched ss after xs same more (inl e) = inl (same ∙ e)
  untouched ss after xs same more (inr e) = inr (same ∙ e.0, omega (arith, e.1, more))

  -- ---- a loss is told

  account_of : (b : Bool) (s : Stream) (rest : Option Stream) → option_map (λ (x : Stream). x.account) (cond b (Some (with_told s)) rest) ≡ option_map (λ (x : Stream). x.account) (cond b (Some s) rest)
  account_of true s rest = refl
  account_of false s rest = refl

  later : (b : Bool) (s : Stream) (r r' : Option Stream) → option_map (λ (x : Stream). x.account) r ≡ option_map (λ (x : Stream). x.account) r' → option_map (λ (x : Stream). x.account) (cond b (Some s) r) ≡ option_map (λ (x : Stream). x.account) (cond b (Some s) r')
  later true s r r' e = refl
  later false s r r' e = e

  told_keeps : (ss : List Stream) (i : ℕ) (d : Stream) → kept (set ss i (with_told (get_or ss i d))) ≡ kept ss
  told_keeps [] i d = refl
  told_keeps (s ∷ ss) zero d = account_of (q s) s (find q ss)
  told_keeps (s ∷ ss) (suc i) d = later (q s) s (find q (set ss i (with_told (get_or ss i d)))) (find q ss) (told_keeps ss i d)

  told_by : (ss : List Stream) (i : ℕ) (o : Option Stream) → slice_get ss i ≡ o → kept (changed with_told i ss o) ≡ kept ss
  told_by ss i None e = refl
  told_by ss i (Some s) e = ap (λ (x : Stream). kept (set ss i (with_told x))) (sym (get_or_from_slice_get ss i s s e)) ∙ told_keeps ss i s

  tick_tracks : (ss : List Stream) (o : Option ℕ) (xs : List Arrival) → Tracks ss xs → Tracks (told_at o ss) xs
  tick_tracks ss None xs tracks = tracks
  tick_tracks ss (Some i) xs tracks = untouched ss (change_at with_told i ss) xs (told_by ss i (slice_get ss i) refl) (omega (arith, length_changed with_told i ss (slice_get ss i))) tracks

  -- ---- a data packet

  abbrev is_ours : Data → Bool
  is_ours d = (d.universe == universe) && bytes_eq d.cid cid

  both : (a b : Bool) → a && b ≡ true → (a ≡ true) × (b ≡ true)
  both true b e = (refl, e)
  both false b e = absurd cc

  -- a stream of the packet's source and universe is ours exactly where the packet is
  like : (d : Data) (s : Stream) → is_of d.universe d.cid s ≡ true → q s ≡ is_ours d
  like d s e =
      let parts = both (s.universe == d.universe) (bytes_eq s.cid d.cid) e in
      ap (λ u. (u == universe) && bytes_eq s.cid cid) (eqb-true s.universe d.universe parts.0)
      ∙ ap (λ c. (d.universe == universe) && bytes_eq c cid) ((bytes_eq-Decides s.cid d.cid).0 parts.1)

  module _ (t : ℕ) (sender : Endpoint) (d : Data) where
    abbrev f : Stream → Stream
    f s = stream_after t sender d s

    abbrev x : Arrival
    x = record { moment = t; sender = sender; packet = d }

    abbrev p : Stream → Bool
    p s = is_of d.universe d.cid s

    module _ (ss : List Stream) (xs : List Arrival) (tracks : Tracks ss xs) where
      -- a packet of ours looks for our stream
      looks : is_ours d ≡ true → p ≡ q
      looks e =
          let parts = both (d.universe == universe) (bytes_eq d.cid cid) e in
          ap (λ (u : ℕ). λ (s : Stream). is_of u d.cid s) (eqb-true d.universe universe parts.0)
          ∙ ap (λ (c : List ℕ). λ (s : Stream). is_of universe c s) ((bytes_eq-Decides d.cid cid).0 parts.1)

      -- of a stream that is there

      heard_by : (i : ℕ) → position q ss ≡ Some i → (o : Option Stream) → slice_get ss i ≡ o → Tracks ss xs → Tracks (changed f i ss o) (x ∷ xs)
      heard_by i place None e known = absurd (missing q ss i place e)
      heard_by i place (Some s) e (inl known) =
          let same : kept ss ≡ Some s.account = ap (option_map (λ (y : Stream). y.account)) (found q f ss i place ∙ e) in
          let after : kept (set ss i (f s)) ≡ Some (f s).account = ap (option_map (λ (y : Stream). y.account)) (by_same q f ss i place (λ y. refl) (Some s) e) in
          inl (after ∙ ap (λ (a : Option Account). Some (account_with x a)) (sym same ∙ known))
      heard_by i place (Some s) e (inr full) =
          let same : kept ss ≡ Some s.account = ap (option_map (λ (y : Stream). y.account)) (found q f ss i place ∙ e) in
          absurd (clash s.account (kept ss) full.0 same)

      known_tracks : (i : ℕ) → position p ss ≡ Some i → (k : Bool) → is_ours d ≡ k → Tracks (change_at f i ss) (cond k (x ∷ []) [] ++ xs)
      known_tracks i place true e = heard_by i (sym (ap (λ (r : Stream → Bool). position r ss) (looks e)) ∙ place) (slice_get ss i) refl tracks
      known_tracks i place false e =
          let same : kept (change_at f i ss) ≡ kept ss = ap (option_map (λ (y : Stream). y.account)) (found_other p f ss i place q (λ s. refl) (λ s h. like d s h ∙ e)) in
          untouched ss (change_at f i ss) xs same (omega (arith, length_changed f i ss (slice_get ss i))) tracks

      -- of a new one

      abbrev opened : List Stream
      opened = ss ++ first_stream t sender d ∷ []

      kept_opened : (k : Bool) → is_ours d ≡ k → kept opened ≡ option_map (λ (y : Stream). y.account) (option_or (find q ss) (cond k (Some (first_stream t sender d)) None))
      kept_opened k e = ap (option_map (λ (y : Stream). y.account)) (find-append q ss (first_stream t sender d ∷ []) ∙ ap (λ (b : Bool). option_or (find q ss) (cond b (Some (first_stream t sender d)) None)) e)

      or_none : (o : Option Stream) → option_or o None ≡ o
      or_none None = refl
      or_none (Some s) = refl

      opened_ours : position p ss ≡ None → is_ours d ≡ true → length ss < 1024 → Tracks ss xs → Tracks opened (x ∷ xs)
      opened_ours place e room (inl known) =
          let none : find q ss ≡ None = find_none q ss (sym (ap (λ (r : Stream → Bool). position r ss) (looks e)) ∙ place) in
          let before : account_by xs ≡ None = sym known ∙ ap (option_map (λ (y : Stream). y.account)) none in
          inl (kept_opened true e ∙ ap (λ (o : Option Stream). option_map (λ (y : Stream). y.account) (option_or o (Some (first_stream t sender d)))) none ∙ ap (λ (a : Option Account). Some (account_with x a)) (sym before))
      opened_ours place e room (inr full) = absurd (omega (arith, full.1, room))

      new_tracks : position p ss ≡ None → (r : Bool) → ltb (length ss) 1024 ≡ r → (k : Bool) → is_ours d ≡ k → Tracks (cond r opened ss) (cond k (x ∷ []) [] ++ xs)
      new_tracks place true room true e = opened_ours place e (ltb-true (length ss) 1024 room) tracks
      new_tracks place true room false e =
          let same : kept opened ≡ kept ss = kept_opened false e ∙ ap (option_map (λ (y : Stream). y.account)) (or_none (find q ss)) in
          untouched ss opened xs same (omega (arith, length-append ss (first_stream t sender d ∷ []))) tracks
      new_tracks place false room true e =
          let none : find q ss ≡ None = find_none q ss (sym (ap (λ (r : Stream → Bool). position r ss) (looks e)) ∙ place) in
          inr (ap (option_map (λ (y : Stream). y.account)) none, ltb-false (length ss) 1024 room)
      new_tracks place false room false e = tracks

  opened_streams : (sender : Endpoint) (d : Data) (b : Book) → (after_data sender d b None).streams ≡ cond (ltb (length b.streams) 1024) (b.streams ++ first_stream b.moment sender d ∷ []) b.streams
  unfolding after_data
  opened_streams sender d b = elim (ltb (length b.streams) 1024) as (λ r. (cond r (record b { streams = b.streams ++ first_stream b.moment sender d ∷ [] }) (record b { tally = record b.tally { untracked = more 1 b.tally.untracked } })).streams ≡ cond r (b.streams ++ first_stream b.moment sender d ∷ []) b.streams) [ true ↦ refl | false ↦ refl ]

  heard_streams : (sender : Endpoint) (d : Data) (b : Book) (i : ℕ) → (after_data sender d b (Some i)).streams ≡ change_at (stream_after b.moment sender d) i b.streams
  unfolding after_data
  heard_streams sender d b i = refl

  data_tracks : (sender : Endpoint) (d : Data) (b : Book) (xs : List Arrival) (o : Option ℕ) → position (is_of d.universe d.cid) b.streams ≡ o → Tracks b.streams xs → Tracks (after_data sender d b o).streams (arrival_of universe cid b.moment sender (Ok (DataPacket d)) ++ xs)
  data_tracks sender d b xs None place tracks = subst (λ (ss : List Stream). Tracks ss (arrival_of universe cid b.moment sender (Ok (DataPacket d)) ++ xs)) (sym (opened_streams sender d b)) (new_tracks b.moment sender d b.streams xs tracks place (ltb (length b.streams) 1024) refl (is_ours d) refl)
  data_tracks sender d b xs (Some i) place tracks = subst (λ (ss : List Stream). Tracks ss (arrival_of universe cid b.moment sender (Ok (DataPacket d)) ++ xs)) (sym (heard_streams sender d b i)) (known_tracks b.moment sender d b.streams xs tracks i place (is_ours d) refl)

  read_tracks : (sender : Endpoint) (b : Book) (xs : List Arrival) (r : Result Packet PacketFault) → Tracks b.streams xs → Tracks (after_read sender b r).streams (arrival_of universe cid b.moment sender r ++ xs)
  read_tracks sender b xs (Ok (DataPacket d)) tracks = data_tracks sender d b xs (position (is_of d.universe d.cid) b.streams) refl tracks
  read_tracks sender b xs (Ok (PagePacket p)) tracks = tracks
  read_tracks sender b xs (Ok SyncPacket) tracks = tracks
  read_tracks sender b xs (Err fault) tracks = tracks

-- ---- the clock

data_moment : (sender : Endpoint) (d : Data) (b : Book) (o : Option ℕ) → (after_data sender d b o).moment ≡ b.moment
unfolding after_data
data_moment sender d b None = elim (ltb (length b.streams) 1024) as (λ r. (cond r (record b { streams = b.streams ++ first_stream b.moment sender d ∷ [] }) (record b { tally = record b.tally { untracked = more 1 b.tally.untracked } })).moment ≡ b.moment) [ true ↦ refl | false ↦ refl ]
data_moment sender d b (Some i) = refl

read_moment : (sender : Endpoint) (b : Book) (r : Result Packet PacketFault) → (after_read sender b r).moment ≡ b.moment
read_moment sender b (Ok (DataPacket d)) = data_moment sender d b (position (is_of d.universe d.cid) b.streams)
read_moment sender b (Ok (PagePacket p)) = refl
read_moment sender b (Ok SyncPacket) = refl
read_moment sender b (Err fault) = refl

pub moments : UsesTheGreatestMoment
moments [] = refl
moments (Take now sender octets ∷ earlier) = read_moment sender (with_datagram now (after_calls earlier)) (reading_packet octets) ∙ ap (λ (m : ℕ). max m now) (moments earlier)
moments (Tick now ∷ earlier) = ap (λ (m : ℕ). max m now) (moments earlier)

pub accounts_are_of_their_packets : AccountsAreOfTheirPackets
accounts_are_of_their_packets [] universe cid = inl refl
accounts_are_of_their_packets (Take now sender octets ∷ earlier) universe cid =
    let before : Book = with_datagram now (after_calls earlier) in
    let xs : List Arrival = arrivals universe cid earlier in
    let kept = read_tracks universe cid sender before xs (reading_packet octets) (accounts_are_of_their_packets earlier universe cid) in
    subst (λ (t : ℕ). Tracks universe cid (after_read sender before (reading_packet octets)).streams (arrival_of universe cid t sender (reading_packet octets) ++ xs)) (ap (λ (m : ℕ). max m now) (moments earlier)) kept
accounts_are_of_their_packets (Tick now ∷ earlier) universe cid =
    let ss : List Stream = (after_calls earlier).streams in
    tick_tracks universe cid ss (silent_place (max (after_calls earlier).moment now) ss) (arrivals universe cid earlier) (accounts_are_of_their_packets earlier universe cid)
