-- A datagram more is sent.
use Rattle.std.proofs.Common.{◌≡◌, ℕ, suc, ◌<◌, ◌≤◌, List, [], ◌∷◌, ◌++◌, map, length, take, drop, Option, Some, None, Ok, refl, sym, ap, subst, ◌∙◌, inl, inr, arith, slice_get, append-nil, length-append, length-drop}
use Rattle.std.specs.Prelude.{slice_set, option_map, count_by, ◌&&◌}
use Rattle.std.specs.List.{AllByRecursion}
use Rattle.std.proofs.lemmas.List.{take_at, map-append, length-map}
use Rattle.std.proofs.lemmas.Option.{slice_get-map}
use Rattle.sacn_packets.specs.Data.{Data, IsData}
use Rattle.sacn_packets.specs.Page.{IsPage}
use Rattle.sacn_packets.specs.Page as paged
use Rattle.sacn_packets.specs.FramingText.{nothing}
use Rattle.sacn_packets.specs.PacketText.{data_text, page_text, unused}
use Rattle.sacn_packets.specs.PacketReading.{reading_packet}
use Rattle.sacn_packets.specs.declared.framing.packet.Packet.{Packet}
use Rattle.sacn_packets.specs.declared.framing.packet.Packet.TheVariants.{DataPacket, PagePacket, SyncPacket}
use Rattle.sacn_discovery.specs.Pages.{page_of_list}
use Rattle.sacn_sources.specs.Order.{same}
use Rattle.sacn_console.specs.declared.sender.Sender.{Sender}
use Rattle.sacn_console.specs.declared.console.DueDatagram.{DueDatagram}
use Rattle.sacn_console.specs.Lines as line
use Rattle.sacn_console.specs.Core as console
use Rattle.sacn_world.specs.declared.answer.Answer.TheVariants as answered
use Rattle.sacn_world.specs.declared.console.Console.{Console}
use Rattle.sacn_schedule.specs.declared.event.Event.{Event}
use Rattle.sacn_schedule.specs.declared.event.Event.TheVariants.{Poll}
use Rattle.sacn_world.specs.Streams.{Sent, is_of, is_on, place_of, stream_of}
use Rattle.sacn_world.specs.Worlds.{World, with_console, with_core, said_by, sent_by, poll_by, poll_step, step, NodeOk}
use Rattle.sacn_world.specs.Watches.{Watch, Mark, node_by_places, by_places, delivery_of, MarkOk, WatchOk}
use Rattle.sacn_world.specs.Wire.{SentDatagram, said, seen_sent, stream_in, DatagramOk, is_in, is_filed, stream_next, sent_datagram}
use Rattle.sacn_world.specs.Invariants.{seen_world, Kept, IsAccepted}
use Rattle.sacn_world.proofs.Growth.{node_kept, at_kept}
use Rattle.sacn_world.proofs.Sending.{count_here, place_stays, next_place}
use Rattle.sacn_world.proofs.Runs.{pushed_cases, mapped}
use Rattle.sacn_world.proofs.Changes.{set_same}
use Rattle.std.specs.Prelude.{Vec}
use Rattle.std.specs.declared.alloc.Global.{Global}
use Rattle.sacn_world.proofs.Keeping.{Done, turned, ok_after, console_done}

-- ---- the octets that a poll gives are read as what was due

abbrev pub WrittenIsRead : Type 0
WrittenIsRead = (d : Data) (rest : List ℕ) → IsData d → reading_packet (data_text d nothing ++ rest) ≡ Ok (DataPacket d)

abbrev pub WrittenPageIsRead : Type 0
WrittenPageIsRead = (p : paged.Page) (rest : List ℕ) → IsPage p → reading_packet (page_text p unused ++ rest) ≡ Ok (PagePacket p)

text_read : WrittenIsRead → WrittenPageIsRead → (sender : Sender) (d : line.Datagram) → console.IsLawful sender d → reading_packet (console.text sender d ++ []) ≡ Ok (said_by sender d)
unfolding console.packet_text
text_read data' page' sender (line.Packet d) ok = data' d [] ok
text_read data' page' sender (line.Paged p) ok = page' (page_of_list p.list p.page sender.cid sender.name) [] ok

fits_buffer : (sender : Sender) (d : line.Datagram) → console.IsLawful sender d → console.size d ≤ 1144
fits_buffer sender (line.Packet d) ok = let s = ok.slots in omega (arith, s)
fits_buffer sender (line.Paged p) ok = let s = ok.count in omega (arith, s)

text_length : (sender : Sender) (d : line.Datagram) (out old : List ℕ) → console.IsLawful sender d → length out ≡ 1144 → length old ≡ 1144 → out ≡ console.text sender d ++ drop (console.size d) old → length (console.text sender d) ≡ console.size d
text_length sender d out old ok lo ll e =
    let fits = fits_buffer sender d ok in
    let all : length (console.text sender d ++ drop (console.size d) old) ≡ 1144 = ap (λ (xs : List ℕ). length xs) (sym e) ∙ lo in
    let parts = length-append (console.text sender d) (drop (console.size d) old) in
    let rest = length-drop (console.size d) old in
    omega (arith, all, parts, rest, ll, fits)

pub poll_read : WrittenIsRead → WrittenPageIsRead → (sender : Sender) (d : line.Datagram) (out old : List ℕ) → console.IsLawful sender d → length out ≡ 1144 → length old ≡ 1144 → out ≡ console.text sender d ++ drop (console.size d) old → reading_packet (take (console.size d) out) ≡ Ok (said_by sender d)
poll_read data' page' sender d out old ok lo ll e =
    let text = console.text sender d in
    let len = text_length sender d out old ok lo ll e in
    let t : take (console.size d) out ≡ text = ap (take (console.size d)) e ∙ take_at text (drop (console.size d) old) (console.size d) len in
    ap reading_packet (t ∙ sym (append-nil text)) ∙ text_read data' page' sender d ok

-- the universe of a data packet; what is none has none
abbrev universe_in : Packet → Option ℕ
universe_in (DataPacket d) = Some d.universe
universe_in (PagePacket p) = None
universe_in SyncPacket = None

universe_said : (sender : Sender) (d : line.Datagram) → console.universe_of d ≡ universe_in (said_by sender d)
universe_said sender (line.Packet d) = refl
universe_said sender (line.Paged p) = refl

-- ---- what a world keeps, with a datagram more

pub filed_is : (s : List ℕ) (u : ℕ) (f : SentDatagram) (sent : List Sent) (k : ℕ) → (p : Packet) → (seen_sent f).packet ≡ p → f.stream ≡ stream_in sent k f.source p → is_filed s u f ≡ is_of s u (seen_sent f)
filed_is s u f sent k (DataPacket d) ep es = ap (λ o. same s f.source && is_in u o) es ∙ ap (λ q. same s f.source && is_on u q) (sym ep)
filed_is s u f sent k (PagePacket p) ep es = ap (λ o. same s f.source && is_in u o) es ∙ ap (λ q. same s f.source && is_on u q) (sym ep)
filed_is s u f sent k SyncPacket ep es = ap (λ o. same s f.source && is_in u o) es ∙ ap (λ q. same s f.source && is_on u q) (sym ep)

pub count_filed : (s : List ℕ) (u : ℕ) (fs : List SentDatagram) → ((k : ℕ) (f : SentDatagram) → slice_get fs k ≡ Some f → is_filed s u f ≡ is_of s u (seen_sent f)) → count_by (is_filed s u) fs ≡ count_by (is_of s u) (map seen_sent fs)
count_filed s u [] all = refl
count_filed s u (f ∷ fs) all =
    let a = count_here (is_filed s u) f fs (is_filed s u f) refl in
    let b = count_here (is_of s u) (seen_sent f) (map seen_sent fs) (is_filed s u f) (sym (all 0 f refl)) in
    let r = count_filed s u fs (λ k g e. all (suc k) g e) in
    omega (arith, a, b, r)

module _ (cs : List Console) (fs : List SentDatagram) (ws : List Watch) (keeps : Kept cs fs ws) (f : SentDatagram) where
  abbrev sent : List Sent
  sent = map seen_sent fs

  abbrev x : Sent
  x = seen_sent f

  counted : (s : List ℕ) (u : ℕ) → count_by (is_filed s u) fs ≡ count_by (is_of s u) sent
  counted s u = count_filed s u fs (λ k g e. filed_is s u g sent k (seen_sent g).packet refl (keeps.datagrams k g e).stream)

  pushed : map seen_sent (fs ++ f ∷ []) ≡ sent ++ x ∷ []
  pushed = map-append seen_sent fs (f ∷ [])

  stream_stays : (k : ℕ) (g : SentDatagram) → slice_get fs k ≡ Some g → (p : Packet) → stream_in sent k g.source p ≡ stream_in (sent ++ x ∷ []) k g.source p
  stream_stays k g e (DataPacket d) = ap (λ q. Some (record { universe = d.universe; place = q })) (sym (place_stays g.source d.universe sent x k (seen_sent g) (slice_get-map seen_sent fs k ∙ ap (option_map seen_sent) e)))
  stream_stays k g e (PagePacket p) = refl
  stream_stays k g e SyncPacket = refl

  stream_new : (s : List ℕ) (p : Packet) → stream_next fs s (universe_in p) ≡ stream_in (sent ++ x ∷ []) (length fs) s p
  stream_new s (DataPacket d) =
      let len : length fs ≡ length sent = sym (length-map fs seen_sent) in
      ap (λ q. Some (record { universe = d.universe; place = q })) (counted s d.universe ∙ sym (next_place s d.universe sent x) ∙ ap (λ n. place_of s d.universe n (sent ++ x ∷ [])) (sym len))
  stream_new s (PagePacket p) = refl
  stream_new s SyncPacket = refl

  datagram_ok : (sent' : List Sent) → sent' ≡ sent ++ x ∷ [] → reading_packet f.octets.items ≡ Ok x.packet → f.stream ≡ stream_next fs f.source (universe_in x.packet) → (k : ℕ) (g : SentDatagram) → slice_get (fs ++ f ∷ []) k ≡ Some g → DatagramOk sent' k g
  datagram_ok sent' es read at' k g e = subst (λ ss. DatagramOk ss k g) (sym es) (elim (pushed_cases fs k f g e) [
    | inl h ↦ let d = keeps.datagrams k g h in record { read = d.read; stream = d.stream ∙ stream_stays k g h (seen_sent g).packet }
    | inr h ↦ subst (λ (y : SentDatagram). DatagramOk (sent ++ x ∷ []) k y) (sym h.1) (record { read = read; stream = at' ∙ stream_new f.source x.packet ∙ ap (λ n. stream_in (sent ++ x ∷ []) n f.source x.packet) (sym h.0) })
  ])

  marks_kept : (ms : List Mark) → AllByRecursion (λ d. d.place < length (stream_of d.source d.universe sent)) (map delivery_of ms) → AllByRecursion (MarkOk sent) ms → AllByRecursion (MarkOk (sent ++ x ∷ [])) ms
  marks_kept [] within all = tt
  marks_kept (m ∷ ms) within all = (all.0 ∙ ap (λ (y : Sent). y.life) (sym (at_kept sent x m.source m.universe m.newest within.0)), marks_kept ms within.1 all.1)

  watch_kept : (y : Watch) → NodeOk sent (node_by_places y) → WatchOk sent y → WatchOk (sent ++ x ∷ []) y
  unfolding by_places
  watch_kept y nok yok = record {
    core = yok.core ∙ sym (node_kept sent x (node_by_places y) nok);
    marks = marks_kept y.marks nok.within yok.marks;
    rise = yok.rise;
    sorted = yok.sorted;
  }

  watches_kept : (ys : List Watch) → AllByRecursion (NodeOk sent) (map node_by_places ys) → AllByRecursion (WatchOk sent) ys → AllByRecursion (WatchOk (sent ++ x ∷ [])) ys
  watches_kept [] nok all = tt
  watches_kept (y ∷ ys) nok all = (watch_kept y nok.0 all.0, watches_kept ys nok.1 all.1)

-- ---- polls

module _ (cs : List Console) (fs : List SentDatagram) (ws : List Watch) (keeps : Kept cs fs ws) (v : World) (is : seen_world cs fs ws ≡ v) (i m : ℕ) (c : Console) (ec : slice_get cs i ≡ Some c) where
  abbrev w : World
  w = seen_world cs fs ws

  poll_step_is : (o : Option line.Datagram) → console.due (console.at m c.core) ≡ o → step w (Poll i m) ≡ Ok (poll_by w i m c o)
  unfolding step
  poll_step_is o e = ap (poll_step w i m) ec ∙ ap (λ z. Ok (poll_by w i m c z)) e

  pub poll_is : IsAccepted (step v (Poll i m))
  poll_is = (_, turned cs fs ws keeps v is (Poll i m) _ (poll_step_is _ refl))

  pub idle_done : console.due (console.at m c.core) ≡ None → (core : console.Core) → core ≡ console.after_poll m c.core → Done v (Poll i m) answered.Idle (slice_set cs i (with_core c core)) fs ws
  idle_done e core ek =
      console_done cs fs ws keeps v is (Poll i m) answered.Idle i (with_core c core) (poll_step_is None e ∙ (λ j. Ok (record { answer = answered.Idle; world = with_console w i (with_core c (sym ek j)) })))

  pub sent_done : (d : line.Datagram) → console.due (console.at m c.core) ≡ Some d → (core : console.Core) → core ≡ console.after_poll m c.core → (f : SentDatagram) → f.source ≡ c.show.cid → f.life ≡ c.life → f.first ≡ c.first → reading_packet f.octets.items ≡ Ok (said_by c.core.sender d) → f.stream ≡ stream_next fs f.source (console.universe_of d) → Done v (Poll i m) (answered.Sent (length fs)) (slice_set cs i (with_core c core)) (fs ++ f ∷ []) ws
  sent_done d e core ek f es el ef read at' =
      let said' : (seen_sent f).packet ≡ said_by c.core.sender d = ap said read in
      let fx : seen_sent f ≡ sent_by c d = λ j. record { source = es j; life = el j; first = ef j; packet = said' j } in
      let all : map seen_sent (fs ++ f ∷ []) ≡ map seen_sent fs ++ sent_by c d ∷ [] = pushed cs fs ws keeps f ∙ ap (λ y. map seen_sent fs ++ y ∷ []) fx in
      let len : length (map seen_sent fs) ≡ length fs = length-map fs seen_sent in
      let h : step w (Poll i m) ≡ Ok (record { answer = answered.Sent (length fs); world = seen_world (slice_set cs i (with_core c core)) (fs ++ f ∷ []) ws }) =
      poll_step_is (Some d) e ∙ (λ j. Ok (record { answer = answered.Sent (len j); world = record { consoles = slice_set cs i (with_core c (sym ek j)); sent = sym all j; nodes = map node_by_places ws } })) in
      let read' : reading_packet f.octets.items ≡ Ok (seen_sent f).packet = read ∙ ap Ok (sym said') in
      let next : f.stream ≡ stream_next fs f.source (universe_in (seen_sent f).packet) = at' ∙ ap (stream_next fs f.source) (universe_said c.core.sender d ∙ ap universe_in (sym said')) in
      record {
        step = turned cs fs ws keeps v is (Poll i m) _ h;
        kept = record {
          ok = ok_after cs fs ws keeps v is (Poll i m) _ h;
          datagrams = datagram_ok cs fs ws keeps f (map seen_sent (fs ++ f ∷ [])) (pushed cs fs ws keeps f) read' next;
          nodes = subst (λ ss. AllByRecursion (WatchOk ss) ws) (sym (pushed cs fs ws keeps f)) (watches_kept cs fs ws keeps f ws keeps.ok.nodes keeps.nodes);
        };
      }

pub done_as : {v : World} {e : Event} {cs : List Console} {ws : List Watch} {fs gs : List SentDatagram} {n k : ℕ} → Done v e (answered.Sent n) cs fs ws → fs ≡ gs → n ≡ k → Done v e (answered.Sent k) cs gs ws
done_as {v = v} {e = e} {cs = cs} {ws = ws} {gs = gs} {n = n} d ef en = subst (λ j. Done v e (answered.Sent j) cs gs ws) en (subst (λ hs. Done v e (answered.Sent n) cs hs ws) ef d)

pub idle_as : {v : World} {e : Event} {cs : List Console} {ws : List Watch} {fs gs : List SentDatagram} → Done v e answered.Idle cs fs ws → fs ≡ gs → Done v e answered.Idle cs gs ws
idle_as {v = v} {e = e} {cs = cs} {ws = ws} d ef = subst (λ hs. Done v e answered.Idle cs hs ws) ef d

-- nothing was due
pub none_due : (o : Option line.Datagram) → option_map console.due_datagram o ≡ None → o ≡ None
none_due None e = refl
none_due (Some d) e = absurd (cc)

pub due_fits : (sender : Sender) (o : Option line.Datagram) (given : DueDatagram) → option_map console.due_datagram o ≡ Some given → ((d : line.Datagram) → o ≡ Some d → console.IsLawful sender d) → given.len ≤ 1144
due_fits sender o given e lawful =
    let d = mapped console.due_datagram o given e in
    let f = fits_buffer sender d.0 (lawful d.0 d.1) in
    let long : console.size d.0 ≡ given.len = ap (λ (g : DueDatagram). g.len) d.2 in
    omega (arith, f, long)

-- what was due is sent
pub posted_done : WrittenIsRead → WrittenPageIsRead → (cs : List Console) (fs : List SentDatagram) (ws : List Watch) → Kept cs fs ws → (v : World) → seen_world cs fs ws ≡ v → (i m : ℕ) (c : Console) → slice_get cs i ≡ Some c → (given : DueDatagram) (out old : List ℕ) (core : console.Core) (z : Console) (octets : Vec ℕ Global) (f : SentDatagram) → option_map console.due_datagram (console.due (console.at m c.core)) ≡ Some given → out ≡ console.over c.core.sender (console.due (console.at m c.core)) old → ((d : line.Datagram) → console.due (console.at m c.core) ≡ Some d → console.IsLawful c.core.sender d) → length out ≡ 1144 → length old ≡ 1144 → core ≡ console.after_poll m c.core → octets.items ≡ take given.len out → slice_get (slice_set cs i (with_core c core)) i ≡ Some z → f ≡ sent_datagram z fs given.universe octets → Done v (Poll i m) (answered.Sent (length fs)) (slice_set cs i (with_core c core)) (fs ++ f ∷ []) ws
posted_done data' page' cs fs ws keeps v is i m c ec given out old core z octets f el eo lawful lo ll ek eoct ez ef =
    let o = console.due (console.at m c.core) in
    let d = mapped console.due_datagram o given el in
    let eout : out ≡ console.text c.core.sender d.0 ++ drop (console.size d.0) old = eo ∙ ap (λ x. console.over c.core.sender x old) d.1 in
    let read : reading_packet octets.items ≡ Ok (said_by c.core.sender d.0) =
    ap reading_packet (eoct ∙ ap (λ (g : DueDatagram). take g.len out) (sym d.2)) ∙ poll_read data' page' c.core.sender d.0 out old (lawful d.0 d.1) lo ll eout in
    let same' : with_core c core ≡ z = set_same cs i (with_core c core) z ez in
    let fc : f ≡ sent_datagram c fs given.universe octets = ef ∙ ap (λ (y : Console). sent_datagram y fs given.universe octets) (sym same') in
    subst (λ (g : SentDatagram). Done v (Poll i m) (answered.Sent (length fs)) (slice_set cs i (with_core c core)) (fs ++ g ∷ []) ws) (sym fc)
    (sent_done cs fs ws keeps v is i m c ec d.0 d.1 core ek (sent_datagram c fs given.universe octets) refl refl refl read (ap (λ (g : DueDatagram). stream_next fs c.show.cid g.universe) (sym d.2)))
