-- What a watcher knows follows the calls that it was handed.
use Rattle.std.proofs.Common.{◌≡◌, ℕ, ◌≤◌, max, ltb, true, false, cond, List, [], ◌∷◌, ◌++◌, length, Option, None, Some, Result, Ok, Err, refl, ap, ◌∙◌, arith}
use Rattle.std.specs.Prelude.{OnOk}
use Rattle.std.specs.List.{position}
use Rattle.sacn_packets.specs.declared.root.fault.PacketFault.{PacketFault}
use Rattle.sacn_packets.specs.Data.{Data}
use Rattle.sacn_packets.specs.PacketReading.{reading_packet}
use Rattle.sacn_packets.specs.declared.framing.packet.Packet.{Packet}
use Rattle.sacn_packets.specs.declared.framing.packet.Packet.TheVariants.{DataPacket, PagePacket, SyncPacket}
use Rattle.sacn_monitor.specs.Kinds.{more}
use Rattle.sacn_monitor.specs.declared.account.Endpoint.{Endpoint}
use Rattle.sacn_monitor.specs.Streams.{is_of, first_stream}
use Rattle.sacn_monitor.specs.Books.{Book, after_take, after_data, after_read, with_datagram}
use Rattle.sacn_monitor.specs.Histories.{Call, Take, Tick, moment_in_use}
use Rattle.sacn_tell.specs.Following.{AreBy, after_ticks, IsTicked, IsTaken, Follows}

-- what holds whatever a call answered
pub whatever : {T E P : Type 0} (r : Result T E) → P → OnOk r P
whatever (Ok x) p = p
whatever (Err e) p = tt

-- ---- the clock of a monitor

data_moment : (sender : Endpoint) (d : Data) (b : Book) (o : Option ℕ) → (after_data sender d b o).moment ≡ b.moment
unfolding after_data
data_moment sender d b None = elim (ltb (length b.streams) 1024) as (λ r. (cond r (record b { streams = b.streams ++ first_stream b.moment sender d ∷ [] }) (record b { tally = record b.tally { untracked = more 1 b.tally.untracked } })).moment ≡ b.moment) [ true ↦ refl | false ↦ refl ]
data_moment sender d b (Some i) = refl

read_moment : (sender : Endpoint) (b : Book) (r : Result Packet PacketFault) → (after_read sender b r).moment ≡ b.moment
read_moment sender b (Ok (DataPacket d)) = data_moment sender d b (position (is_of d.universe d.cid) b.streams)
read_moment sender b (Ok (PagePacket p)) = refl
read_moment sender b (Ok SyncPacket) = refl
read_moment sender b (Err fault) = refl

by_later : (t u : ℕ) (ms : List ℕ) → t ≤ u → AreBy t ms → AreBy u ms
by_later t u [] later by = tt
by_later t u (m ∷ ms) later by = (omega (arith, later, by.0), by_later t u ms later by.1)

ticks_later : (ms : List ℕ) (b : Book) → b.moment ≤ (after_ticks ms b).moment
ticks_later [] b = omega arith
ticks_later (m ∷ ms) b = let before : b.moment ≤ (after_ticks ms b).moment = ticks_later ms b in omega (arith, before)

ticks_by : (t : ℕ) (ms : List ℕ) (b : Book) → AreBy t ms → max (after_ticks ms b).moment t ≡ max b.moment t
ticks_by t [] b by = refl
ticks_by t (m ∷ ms) b by = let before : max (after_ticks ms b).moment t ≡ max b.moment t = ticks_by t ms b by.1 in omega (arith, before, by.0)

take_moment : (now : ℕ) (sender : Endpoint) (octets : List ℕ) (b : Book) → (after_take now sender octets b).moment ≡ max b.moment now
take_moment now sender octets b = read_moment sender (with_datagram now b) (reading_packet octets)

same_take : (now t : ℕ) (sender : Endpoint) (octets : List ℕ) (b : Book) → max b.moment now ≡ max b.moment t → after_take now sender octets b ≡ after_take t sender octets b
same_take now t sender octets b same =
    ap (λ (n : ℕ). after_read sender (record b { moment = n; tally = record b.tally { datagrams = more 1 b.tally.datagrams } }) (reading_packet octets)) same

-- ---- a screen

module _ (calls : List Call) (now : ℕ) (old new : Book) (was : Follows calls old) (at : old.moment ≡ moment_in_use calls) where
  pub shown_taken : (sender : Endpoint) (octets : List ℕ) → IsTaken now sender octets old new → Follows (Take now sender octets ∷ calls) new
  shown_taken sender octets (mid, (ms, by, ticked), taken) =
      let t : ℕ = max (moment_in_use calls) now in
      let later : old.moment ≤ (after_ticks ms old).moment = ticks_later ms old in
      let mids : mid.moment ≡ (after_ticks ms old).moment = ap (λ (b : Book). b.moment) ticked in (
        old,
        was,
        (
          mid,
          (ms, by_later now (max (moment_in_use calls) now) ms (omega arith) by, ticked),
          taken ∙ same_take now (max (moment_in_use calls) now) sender octets mid (omega (arith, later, mids, at)),
        ),
      )

  pub taken_at : (sender : Endpoint) (octets : List ℕ) → IsTaken now sender octets old new → new.moment ≡ moment_in_use (Take now sender octets ∷ calls)
  taken_at sender octets (mid, (ms, by, ticked), taken) =
      ap (λ (b : Book). b.moment) taken ∙ take_moment now sender octets mid ∙ ap (λ (b : Book). max b.moment now) ticked ∙ ticks_by now ms old by ∙ ap (λ (m : ℕ). max m now) at

  pub shown_ticked : IsTicked now old new → Follows (Tick now ∷ calls) new
  shown_ticked (ms, by, ticked) = (old, was, (ms, by_later now (max (moment_in_use calls) now) ms (omega arith) by, ticked))

  pub ticked_at : new.moment ≡ max old.moment now → new.moment ≡ moment_in_use (Tick now ∷ calls)
  ticked_at moved = moved ∙ ap (λ (m : ℕ). max m now) at
