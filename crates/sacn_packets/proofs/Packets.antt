-- A packet is read exactly where its text stands at the front.
use Rattle.std.proofs.Common.{◌≡◌, ℕ, ◌+◌, true, eqb, cond, List, ◌++◌, length, Result, Ok, Err, refl, sym, ap, subst, ◌∙◌, arith, inl, inr, ◌⊎◌, ◌||◌, ◌*◌, false, take, drop}
use Rattle.std.specs.Prelude.{slice_range}
use Rattle.std.proofs.lemmas.List.{length-append, length-take, length-drop, take_at}
use Rattle.sacn_packets.specs.Octets.{number32_at}
use Rattle.sacn_packets.specs.Page.{Page, IsPage}
use Rattle.sacn_packets.specs.PageText.{PageLayer, IsPageLayer, page_framing_text, sync_framing_text}
use Rattle.sacn_packets.specs.PageReading.{reading_extended_vector, reading_page, extended_checks, page_checks, page_at}
use Rattle.sacn_packets.proofs.PageLaws.{page_only, page_vector, extended_pass, length_page_text, layer_is, page_begins, sync_begins}
use Rattle.std.specs.Prelude.{IfOk}
use Rattle.std.proofs.lemmas.Bool.{eqb-true, eqb-false, leb-true, or_cases, both_ways}
use Rattle.sacn_packets.specs.declared.root.fault.PacketFault.{PacketFault}
use Rattle.sacn_packets.specs.Results.{◌>>=◌}
use Rattle.sacn_packets.specs.RootText.{Root, ReadsRoot, root_head, root_text}
use Rattle.sacn_packets.specs.RootReading.{reading_root}
use Rattle.sacn_packets.proofs.CheckLists.{AllPassed, all_passed, checked_is, either, bind_ok, ok_is}
use Rattle.sacn_packets.proofs.Pieces.{IsBytes}
use Rattle.sacn_packets.proofs.RootLayer.{root_found, root_only, body_bytes as root_body_bytes}
use Rattle.sacn_packets.specs.DmpText.{Dmp, IsDmp, dmp_text}
use Rattle.sacn_packets.specs.DmpReading.{reading_dmp}
use Rattle.sacn_packets.proofs.DmpLayer.{dmp_found, dmp_only}
use Rattle.sacn_packets.specs.Data.{Data, IsData}
use Rattle.sacn_packets.specs.FramingText.{Framing, IsFraming, ReadsFraming, framing_text, nothing}
use Rattle.sacn_packets.specs.FramingReading.{reading_framing}
use Rattle.sacn_packets.specs.PacketText.{ReadsData, ReadsPage, ReadsSync, Reads, page_layer, framing, data_text, page_text, unused}
use Rattle.sacn_packets.specs.PacketReading.{Reading, reading_packet, reading_data, reading_extended, data_of, page_of}
use Rattle.sacn_packets.specs.declared.framing.packet.Packet.{Packet}
use Rattle.sacn_packets.specs.declared.framing.packet.Packet.TheVariants.{DataPacket, PagePacket, SyncPacket}
use Rattle.sacn_packets.proofs.FramingLaws.{framing_found, framing_only, body_bytes, length_framing_text}

-- three layers, each read from the body of the one round it, are a data packet
joined : (octets : List ℕ) (root : Root) (f : Framing) (dmp : Dmp) → root.vector ≡ 4 → ReadsRoot octets root → ReadsFraming root.body f → IsDmp dmp → f.body ≡ dmp_text dmp → ReadsData octets (data_of root f dmp)
joined octets root f dmp four in_root in_framing is_dmp in_dmp =
    let d : Data = data_of root f dmp in
    let inner : framing d ≡ f = ap (λ (body : List ℕ). let g : Framing = record f { body = body } in g) (sym in_dmp) in
    let text : root.body ≡ framing_text (framing d) in_framing.ignored = in_framing.is_text ∙ ap (λ (g : Framing). framing_text g in_framing.ignored) (sym inner) in
    let outer : (let r : Root = record { vector = 4; cid = root.cid; body = framing_text (framing d) in_framing.ignored } in r) ≡ root = rw (← text, ← four) refl in
    record {
      is_data = record {
        cid = in_root.is_root.cid;
        name = in_framing.is_framing.name;
        priority = in_framing.is_framing.priority;
        universe = in_framing.is_framing.universe;
        slots = is_dmp.slots;
      };
      ignored = in_framing.ignored;
      is_ignored = in_framing.is_ignored;
      rest = in_root.begins.0;
      begins = in_root.begins.1 ∙ ap (λ (r : Root). root_text r ++ in_root.begins.0) (sym outer);
    }

pub data_found : (octets : List ℕ) (root : Root) (packet : Packet) → IsBytes root.body → root.vector ≡ 4 → ReadsRoot octets root → reading_data root ≡ Ok packet → Reads octets packet
unfolding reading_data
data_found octets root packet fits four in_root e =
    let b = bind_ok (reading_framing root.body) (λ f. reading_dmp f.body >>= λ dmp. Ok (DataPacket (data_of root f dmp))) packet e in
    let c = bind_ok (reading_dmp b.0.body) (λ dmp. Ok (DataPacket (data_of root b.0 dmp))) packet b.2 in
    let dmp_bytes = body_bytes root.body b.0 fits b.1 in
    let dmp = dmp_found b.0.body c.0 dmp_bytes c.1 in
    subst (λ (p : Packet). Reads octets p) (ok_is (DataPacket (data_of root b.0 c.0)) packet c.2)
    (joined octets root b.0 c.0 four in_root (framing_found root.body b.0 fits b.1) dmp.0 dmp.1)

sync_found : (octets : List ℕ) (root : Root) → IsBytes root.body → root.vector ≡ 8 → ReadsRoot octets root → AllPassed (extended_checks root.body) → number32_at root.body 2 ≡ 1 → ReadsSync octets
sync_found octets root fits eight in_root g one =
    let begins = sync_begins root.body fits g one in
    let outer : (let r : Root = record { vector = 8; cid = root.cid; body = sync_framing_text (drop 6 root.body) } in r) ≡ root = rw (← begins.0, ← eight) refl in
    record {
      cid = root.cid;
      is_cid = in_root.is_root.cid;
      content = drop 6 root.body;
      is_content = omega (arith, in_root.is_root.body, ap length begins.0);
      rest = in_root.begins.0;
      begins = in_root.begins.1 ∙ ap (λ (r : Root). root_text r ++ in_root.begins.0) (sym outer);
    }

page_found : (octets : List ℕ) (root : Root) (layer : PageLayer) → IsBytes root.body → root.vector ≡ 8 → ReadsRoot octets root → AllPassed (extended_checks root.body) → number32_at root.body 2 ≡ 2 → reading_page root.body ≡ Ok layer → ReadsPage octets (page_of root layer)
page_found octets root layer fits eight in_root g two e =
    let h = all_passed (page_checks root.body) (page_at root.body) layer e in
    let reserved : List ℕ = slice_range root.body 70 74 in
    let is : IsPageLayer layer = subst (λ (p : PageLayer). IsPageLayer p) h.1 (layer_is root.body fits h.0).0 in
    let text : root.body ≡ page_framing_text layer reserved = subst (λ (p : PageLayer). root.body ≡ page_framing_text p reserved) h.1 (page_begins root.body fits g two h.0) in
    let outer : (let r : Root = record { vector = 8; cid = root.cid; body = page_framing_text layer reserved } in r) ≡ root = rw (← text, ← eight) refl in
    record {
      is_page = record { cid = in_root.is_root.cid; name = is.name; page = is.page; count = is.count; numbers = is.numbers };
      reserved = reserved;
      is_reserved = omega (arith, length-take 4 (drop 70 root.body), length-drop 70 root.body, leb-true 82 (length root.body) h.0.0);
      rest = in_root.begins.0;
      begins = in_root.begins.1 ∙ ap (λ (r : Root). root_text r ++ in_root.begins.0) (sym outer);
    }

two_if_not_one : (n : ℕ) → (eqb n 1 || eqb n 2) ≡ true → eqb n 1 ≡ false → n ≡ 2
two_if_not_one n passes other = elim (or_cases (eqb n 1) (eqb n 2) passes) [ inl one ↦ absurd (both_ways (eqb n 1) other one) | inr two ↦ eqb-true n 2 two ]

eight_if_not_four : (n : ℕ) → (n ≡ 4) ⊎ (n ≡ 8) → eqb n 4 ≡ false → n ≡ 8
eight_if_not_four n is other = elim is [ inl four ↦ absurd (eqb-false n 4 other four) | inr eight ↦ eight ]

extended_found : (octets : List ℕ) (root : Root) (packet : Packet) → IsBytes root.body → root.vector ≡ 8 → ReadsRoot octets root → reading_extended root ≡ Ok packet → Reads octets packet
unfolding reading_extended
extended_found octets root packet fits eight in_root e =
    let v = bind_ok (reading_extended_vector root.body) (λ vector. cond (eqb vector 1) (Ok SyncPacket) (reading_page root.body >>= λ layer. Ok (PagePacket (page_of root layer)))) packet e in
    let g = all_passed (extended_checks root.body) (number32_at root.body 2) v.0 v.1 in
    elim (either (eqb v.0 1) (Ok SyncPacket) (reading_page root.body >>= λ layer. Ok (PagePacket (page_of root layer))) (Ok packet) v.2) [
      | inl sync ↦ subst (λ (p : Packet). Reads octets p) (ok_is SyncPacket packet sync.1) (sync_found octets root fits eight in_root g.0 (g.1 ∙ eqb-true v.0 1 sync.0))
      | inr page ↦
          let b = bind_ok (reading_page root.body) (λ layer. Ok (PagePacket (page_of root layer))) packet page.1 in
          let two : number32_at root.body 2 ≡ 2 = two_if_not_one (number32_at root.body 2) g.0.1.1.1.1.0 (ap (λ (n : ℕ). eqb n 1) g.1 ∙ page.0) in
          subst (λ (p : Packet). Reads octets p) (ok_is (PagePacket (page_of root b.0)) packet b.2) (page_found octets root b.0 fits eight in_root g.0 two b.1)
    ]

pub packet_found : (octets : List ℕ) (packet : Packet) → IsBytes octets → reading_packet octets ≡ Ok packet → Reads octets packet
unfolding reading_packet
packet_found octets packet fits e =
    let a = bind_ok (reading_root octets) (λ root. cond (eqb root.vector 4) (reading_data root) (reading_extended root)) packet e in
    let in_root = root_found octets a.0 fits a.1 in
    let bytes = root_body_bytes octets a.0 fits a.1 in
    elim (either (eqb a.0.vector 4) (reading_data a.0) (reading_extended a.0) (Ok packet) a.2) [
      | inl data_of_it ↦ data_found octets a.0 packet bytes (eqb-true a.0.vector 4 data_of_it.0) in_root data_of_it.1
      | inr extended ↦ extended_found octets a.0 packet bytes (eight_if_not_four a.0.vector in_root.is_root.vector extended.0) in_root extended.1
    ]

pub data_only : (octets : List ℕ) (d : Data) → ReadsData octets d → reading_packet octets ≡ Ok (DataPacket d)
unfolding reading_packet reading_data
data_only octets d reads =
    let dmp : Dmp = record { start = d.start; slots = d.slots } in
    let text : List ℕ = framing_text (framing d) reads.ignored in
    let r : Root = record { vector = 4; cid = d.cid; body = text } in
    let is_dmp : IsDmp dmp = record { slots = reads.is_data.slots } in
    let is_framing : IsFraming (framing d) = record {
      name = reads.is_data.name;
      priority = reads.is_data.priority;
      universe = reads.is_data.universe;
      body = omega (arith, reads.is_data.slots);
    } in
    let in_root : ReadsRoot octets r = record {
      is_root = record { vector = inl refl; cid = reads.is_data.cid; body = omega (arith, length_framing_text (framing d) reads.ignored reads.is_data.name, reads.is_data.slots) };
      begins = (reads.rest, reads.begins);
    } in
    let in_framing : ReadsFraming text (framing d) = record { is_framing = is_framing; ignored = reads.ignored; is_ignored = reads.is_ignored; is_text = refl } in
    ap (λ (x : Result Root PacketFault). x >>= λ root. cond (eqb root.vector 4) (reading_data root) (reading_extended root)) (root_only octets r in_root)
    ∙ ap (λ (x : Result Framing PacketFault). x >>= λ f. reading_dmp f.body >>= λ dmp. Ok (DataPacket (data_of r f dmp))) (framing_only text (framing d) in_framing)
    ∙ ap (λ (x : Result Dmp PacketFault). x >>= λ dmp. Ok (DataPacket (data_of r (framing d) dmp))) (dmp_only (framing d).body dmp is_dmp refl)

pub page_only_at : (octets : List ℕ) (p : Page) → ReadsPage octets p → reading_packet octets ≡ Ok (PagePacket p)
unfolding reading_packet reading_extended
page_only_at octets p reads =
    let layer : PageLayer = page_layer p in
    let text : List ℕ = page_framing_text layer reads.reserved in
    let r : Root = record { vector = 8; cid = p.cid; body = text } in
    let is : IsPageLayer layer = record { name = reads.is_page.name; page = reads.is_page.page; count = reads.is_page.count; numbers = reads.is_page.numbers } in
    let len : length text ≡ 82 + 2 * length p.numbers = length_page_text layer reads.reserved is.name reads.is_reserved in
    let in_root : ReadsRoot octets r = record { is_root = record { vector = inr refl; cid = reads.is_page.cid; body = omega (arith, len, is.count) }; begins = (reads.rest, reads.begins) } in
    ap (λ (x : Result Root PacketFault). x >>= λ root. cond (eqb root.vector 4) (reading_data root) (reading_extended root)) (root_only octets r in_root)
    ∙ ap (λ (x : Result ℕ PacketFault). x >>= λ vector. cond (eqb vector 1) (Ok SyncPacket) (reading_page text >>= λ q. Ok (PagePacket (page_of r q)))) (page_vector layer reads.reserved is reads.is_reserved)
    ∙ ap (λ (x : Result PageLayer PacketFault). x >>= λ q. Ok (PagePacket (page_of r q))) (page_only layer reads.reserved is reads.is_reserved)

sync_only : (octets : List ℕ) → ReadsSync octets → reading_packet octets ≡ Ok SyncPacket
unfolding reading_packet reading_extended
sync_only octets reads =
    let text : List ℕ = sync_framing_text reads.content in
    let r : Root = record { vector = 8; cid = reads.cid; body = text } in
    let in_root : ReadsRoot octets r = record { is_root = record { vector = inr refl; cid = reads.is_cid; body = omega (arith, reads.is_content) }; begins = (reads.rest, reads.begins) } in
    let pass = extended_pass 1 reads.content (inl refl) (omega (arith, reads.is_content)) in
    ap (λ (x : Result Root PacketFault). x >>= λ root. cond (eqb root.vector 4) (reading_data root) (reading_extended root)) (root_only octets r in_root)
    ∙ ap (λ (x : Result ℕ PacketFault). x >>= λ vector. cond (eqb vector 1) (Ok SyncPacket) (reading_page text >>= λ q. Ok (PagePacket (page_of r q)))) (checked_is (extended_checks text) (number32_at text 2) pass.0)

pub packet_only : (octets : List ℕ) (packet : Packet) → Reads octets packet → reading_packet octets ≡ Ok packet
packet_only octets (DataPacket d) reads = data_only octets d reads
packet_only octets (PagePacket p) reads = page_only_at octets p reads
packet_only octets SyncPacket reads = sync_only octets reads

pub is_found : (octets : List ℕ) (result : Reading) → IsBytes octets → result ≡ reading_packet octets → IfOk result (λ packet. Reads octets packet)
is_found octets (Ok packet) fits e = packet_found octets packet fits (sym e)
is_found octets (Err fault) fits e = tt

pub one_packet : (octets : List ℕ) (p q : Packet) → Reads octets p → Reads octets q → p ≡ q
one_packet octets p q a b = ok_is p q (sym (packet_only octets p a) ∙ packet_only octets q b)

-- ---- what a writer wrote is read

pub data_written : (d : Data) (rest : List ℕ) → IsData d → reading_packet (data_text d nothing ++ rest) ≡ Ok (DataPacket d)
data_written d rest is = data_only (data_text d nothing ++ rest) d (record {
  is_data = is;
  ignored = nothing;
  is_ignored = record { synchronization = omega arith; reserved = omega arith };
  rest = rest;
  begins = refl;
})

pub page_written : (p : Page) (rest : List ℕ) → IsPage p → reading_packet (page_text p unused ++ rest) ≡ Ok (PagePacket p)
page_written p rest is = page_only_at (page_text p unused ++ rest) p (record { is_page = is; reserved = unused; is_reserved = refl; rest = rest; begins = refl })

length_data_text : (d : Data) → IsData d → length (data_text d nothing) ≡ 126 + length d.slots
length_data_text d is =
    let body : List ℕ = framing_text (framing d) nothing in
    let all : length body ≡ 88 + length d.slots = omega (arith, length_framing_text (framing d) nothing is.name) in
    omega (arith, all, length-append (root_head 4 d.cid (length body)) body, is.cid)

length_page : (p : Page) → IsPage p → length (page_text p unused) ≡ 120 + 2 * length p.numbers
length_page p is =
    let body : List ℕ = page_framing_text (page_layer p) unused in
    let all : length body ≡ 82 + 2 * length p.numbers = length_page_text (page_layer p) unused is.name refl in
    omega (arith, all, length-append (root_head 8 p.cid (length body)) body, is.cid)

front_read : (new old text rest : List ℕ) (n : ℕ) (packet : Packet) → new ≡ text ++ drop n old → length text ≡ n → reading_packet (text ++ rest) ≡ Ok packet → reading_packet (take n new ++ rest) ≡ Ok packet
front_read new old text rest n packet is len read =
    let front : take n new ≡ text = ap (λ (xs : List ℕ). take n xs) is ∙ take_at text (drop n old) n len in
    ap (λ (xs : List ℕ). reading_packet (xs ++ rest)) front ∙ read

pub data_reads_back : (new old : List ℕ) (n : ℕ) (d : Data) → IsData d → new ≡ data_text d nothing ++ drop n old → n ≡ 126 + length d.slots → (rest : List ℕ) → reading_packet (take n new ++ rest) ≡ Ok (DataPacket d)
data_reads_back new old n d is text len rest = front_read new old (data_text d nothing) rest n (DataPacket d) text (length_data_text d is ∙ sym len) (data_written d rest is)

pub page_reads_back : (new old : List ℕ) (n : ℕ) (p : Page) → IsPage p → new ≡ page_text p unused ++ drop n old → n ≡ 120 + 2 * length p.numbers → (rest : List ℕ) → reading_packet (take n new ++ rest) ≡ Ok (PagePacket p)
page_reads_back new old n p is text len rest = front_read new old (page_text p unused) rest n (PagePacket p) text (length_page p is ∙ sym len) (page_written p rest is)
