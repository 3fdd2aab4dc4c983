-- What a datagram leaves as it was, of the slots of universes and of the frames of ports.
use Rattle.std.proofs.Common.{◌≡◌, ◌≢◌, ℕ, ◌+◌, ◌-◌, ◌==◌, Bool, true, false, cond, ◌||◌, List, [], ◌∷◌, map, find, get_or, Option, None, Some, Ok, Err, max, refl, sym, ap, ◌∙◌}
use Rattle.std.specs.List.{list_any, range_with_len, AllByRecursion}
use Rattle.std.proofs.lemmas.Bool.{eqb-true}
use Rattle.sacn_packets.specs.declared.framing.packet.Packet.TheVariants.{DataPacket, PagePacket, SyncPacket}
use Rattle.sacn_sources.specs.Packets.{packet_of}
use Rattle.sacn_sources.specs.declared.answer.Taken.{Taken}
use Rattle.sacn_sources.specs.declared.answer.Taken.TheVariants.{Held, Observed, EndedNow, OutOfSequence, SourcesExceeded, UnknownIgnored}
use Rattle.sacn_sources.specs.Rows.{Row, Packet, taken, take_row, rows_after, slots_of}
use Rattle.sacn_node.specs.declared.setup.SlotRange.{SlotRange}
use Rattle.sacn_node.specs.declared.answer.NodeTaken.TheVariants.{FromTable}
use Rattle.sacn_node.specs.Setup.{Port}
use Rattle.sacn_node.specs.Ports.{covers, level_in, level_by, octet_at, port_frame, port_of, frame_on}
use Rattle.sacn_node.specs.Cores.{Table, table_of, change_rows, core_reply_on, rows_kept_all, slots_on, core_slots}
use Rattle.sacn_node.specs.Changes.{universe_by, shows_on, SlotsAreKept, FramesAreKept}

-- ---- slots

module _ (u v t : ℕ) (x : Packet) where
  -- the table that the packet comes to: where its universe isn't told, its rows stay
  here : (rs : List Row) (a : Taken) → v ≡ u → universe_by v (FromTable a) ≢ Some u → slots_of (rows_after a x t rs) ≡ slots_of rs
  here rs Held same not = absurd (not (ap Some same))
  here rs EndedNow same not = absurd (not (ap Some same))
  here rs Observed same not = absurd (not (ap Some same))
  here rs OutOfSequence same not = refl
  here rs SourcesExceeded same not = refl
  here rs UnknownIgnored same not = refl

  abbrev changed : Table → Table
  changed g = record { universe = g.universe; rows = take_row x t g.rows }

  first : (g : Table) (gs : List Table) → (g.universe == v) ≡ true → universe_by v (FromTable (taken x g.rows)) ≢ Some u
      → slots_on (table_of u (changed g ∷ gs)) ≡ slots_on (table_of u (g ∷ gs))
  first g gs at not =
      elim (g.universe == u) as (λ b. (g.universe == u) ≡ b → slots_on (cond b (Some (changed g)) (table_of u gs)) ≡ slots_on (cond b (Some g) (table_of u gs))) [
        | true ↦ λ is. here g.rows (taken x g.rows) (sym (eqb-true g.universe v at) ∙ eqb-true g.universe u is) not
        | false ↦ λ is. refl
      ] refl

  others_stay : (gs : List Table) → universe_by v (core_reply_on x (table_of v gs)) ≢ Some u
      → slots_on (table_of u (change_rows v (take_row x t) gs)) ≡ slots_on (table_of u gs)
  others_stay [] not = refl
  others_stay (g ∷ gs) not =
      elim (g.universe == v) as (λ b. (g.universe == v) ≡ b → universe_by v (core_reply_on x (cond b (Some g) (table_of v gs))) ≢ Some u
      → slots_on (table_of u (cond b (changed g ∷ gs) (g ∷ change_rows v (take_row x t) gs))) ≡ slots_on (table_of u (g ∷ gs))) [
        | true ↦ λ at not. first g gs at not
        | false ↦ λ at not.
            elim (g.universe == u) as (λ b. slots_on (cond b (Some g) (table_of u (change_rows v (take_row x t) gs))) ≡ slots_on (cond b (Some g) (table_of u gs))) [
              | true ↦ refl
              | false ↦ others_stay gs not
            ]
      ] refl not

pub slots_are_kept : SlotsAreKept
slots_are_kept (Ok (DataPacket d)) now u c not = others_stay u d.universe (max c.moment now) (packet_of d) (rows_kept_all (max c.moment now) c.tables) not
slots_are_kept (Ok (PagePacket p)) now u c not = refl
slots_are_kept (Ok SyncPacket) now u c not = refl
slots_are_kept (Err fault) now u c not = refl

-- ---- frames

pub neither : (a b : Bool) → (a || b) ≡ false → (a ≡ false) × (b ≡ false)
neither true b is = absurd (cc)
neither false b is = (refl, is)

module _ (old new : ℕ → List ℕ) where
  abbrev Same : SlotRange → Type 0
  Same r = new r.universe ≡ old r.universe

  level_same : (i : ℕ) (r : SlotRange) → Same r → level_in new i r ≡ level_in old i r
  unfolding level_in
  level_same i r same = ap (λ l. get_or l (r.slot - 1 + (i - r.port_slot)) 0) same

  found_same : (i : ℕ) (rs : List SlotRange) → AllByRecursion Same rs → level_by new i (find (covers i) rs) ≡ level_by old i (find (covers i) rs)
  found_same i [] all = refl
  found_same i (r ∷ rs) all =
      elim (covers i r) as (λ b. level_by new i (cond b (Some r) (find (covers i) rs)) ≡ level_by old i (cond b (Some r) (find (covers i) rs))) [
        | true ↦ level_same i r all.0
        | false ↦ found_same i rs all.1
      ]

  octet_same : (rs : List SlotRange) → AllByRecursion Same rs → (i : ℕ) → octet_at new rs i ≡ octet_at old rs i
  octet_same rs all i = ap (λ l. cond (i == 0) 0 l) (found_same i rs all)

  frame_same : (rs : List SlotRange) → AllByRecursion Same rs → port_frame new rs ≡ port_frame old rs
  unfolding port_frame
  frame_same rs all = λ j. map (λ i. octet_same rs all i j) (range_with_len 0 513)

  ranges_same : (us : List ℕ) (rs : List SlotRange) → ((u : ℕ) → list_any (λ v. v == u) us ≡ false → new u ≡ old u)
      → list_any (λ r. list_any (λ v. v == r.universe) us) rs ≡ false → AllByRecursion Same rs
  ranges_same us [] kept none = tt
  ranges_same us (r ∷ rs) kept none =
      let parts = neither (list_any (λ v. v == r.universe) us) (list_any (λ r. list_any (λ v. v == r.universe) us) rs) none in
      (kept r.universe parts.0, ranges_same us rs kept parts.1)

  port_same : (us : List ℕ) (o : Option Port) → ((u : ℕ) → list_any (λ v. v == u) us ≡ false → new u ≡ old u) → shows_on us o ≡ false → frame_on new o ≡ frame_on old o
  port_same us None kept none = refl
  port_same us (Some p) kept none = ap Some (frame_same p.ranges (ranges_same us p.ranges kept none))

pub frames_are_kept : FramesAreKept
frames_are_kept number us n m ports kept none =
    ap (λ ps. frame_on (core_slots m.core) (port_of number ps)) ports
    ∙ port_same (core_slots n.core) (core_slots m.core) us (port_of number n.ports) kept none
