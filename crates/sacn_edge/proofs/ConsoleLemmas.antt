-- The datagrams of a console's turns.
use Rattle.std.proofs.Common.{◌≡◌, ℕ, ◌+◌, ◌*◌, ◌≤◌, Bool, true, false, not, cond, List, [], ◌∷◌, ◌++◌, take, drop, length, count_by, refl, sym, ap, subst, ◌∙◌, arith, append_assoc, Option, Some, None, is_some, max, zero-add, add-zero}
use Rattle.std.specs.Option.{option_map}
use Rattle.std.specs.List.{range_with_len}
use Rattle.std.proofs.lemmas.List.{length-map, length-take, length-append, length-drop, take_at, drop-drop, map-append}
use Rattle.std.proofs.lemmas.List.Sums.{sum_by-append}
use Rattle.std.proofs.lemmas.List.FromFn.{length-range_with_len}
use Rattle.sacn_patch.specs.Patch.{Patched, slot_level, universe_frame}
use Rattle.std.specs.FinMap.{get}
use Rattle.sacn_cues.specs.Playing.{level_mastered}
use Rattle.sacn_console.specs.declared.line.UniverseLine.{UniverseLine}
use Rattle.sacn_console.specs.Lights.{Lights, frame, frame_now, lights_at}
use Rattle.sacn_console.specs.Lines.{Page, Datagram, Packet, Paged}
use Rattle.sacn_console.specs.Core.{Core, due, due_by, line_found, page_due, packet_of, packet_with, size, text, at, after_poll}
use Rattle.sacn_edge.specs.declared.report.ConsoleReport.{ConsoleReport}
use Rattle.sacn_edge.specs.Additions.{Extends}
use Rattle.sacn_edge.specs.Hearings.{Transcript, Hands}
use Rattle.sacn_edge.specs.ConsoleSends.{Script, Reader, Handed, come, commanded, refusals, lines_at, ordered, reader_after, core_after, octets_of, sent_at, handed_of, datagrams, console_sends, refused_by, sends_report, counted_send}

universe_long : (level : ℕ → ℕ) (patch : Patched) (u : ℕ) → length (universe_frame level patch u) ≡ 512
unfolding universe_frame
universe_long level patch u = length-map (range_with_len 0 512) (λ (i : ℕ). slot_level level (get patch (u, i + 1))) ∙ length-range_with_len 0 512

frame_long : (l : Lights) (u t : ℕ) → length (frame l u t) ≡ 512
unfolding frame frame_now
frame_long l u t = universe_long (level_mastered (lights_at t l).player) l.patch u

packet_size : (c : Core) (l : UniverseLine) → size (Packet (packet_of c.sender c.lights c.moment l)) ≡ 638
unfolding packet_with
packet_size c l = ap (λ n. 126 + n) (frame_long c.lights l.universe c.moment)

page_size : (p : Page) → size (Paged p) ≤ 1144
page_size p = omega (arith, length-take 512 (drop (512 * p.page) p.list))

page_small : (p : Option Page) (n : ℕ) → option_map size (option_map Paged p) ≡ Some n → n ≤ 1144
page_small None n is = absurd (cc)
page_small (Some p) n is = subst (λ (k : ℕ). k ≤ 1144) (some_is (size (Paged p)) n is) (page_size p)
  where
    some_is : (a b : ℕ) → Some a ≡ Some b → a ≡ b
    some_is a b e = cc

-- a datagram that is due fits the buffer of a poll
pub due_small : (c : Core) (n : ℕ) → option_map size (due c) ≡ Some n → n ≤ 1144
unfolding due
due_small c n is =
    elim (line_found c) as (λ l. option_map size (due_by c l) ≡ Some n → n ≤ 1144) [
      | None ↦ λ is. page_small (page_due c) n is
      | Some l ↦ λ is. subst (λ (k : ℕ). k ≤ 1144) (sym (packet_size c l) ∙ some_is (size (Packet (packet_of c.sender c.lights c.moment l))) n is) (omega arith)
    ] is
  where
    some_is : (a b : ℕ) → Some a ≡ Some b → a ≡ b
    some_is a b e = cc

-- the octets that are sent are the datagram's text
pub front : (octets out old : List ℕ) (n : ℕ) → out ≡ octets ++ drop n old → length out ≡ 1144 → length old ≡ 1144 → n ≤ 1144 → take n out ≡ octets
front octets out old n is long before small =
    let few : length octets ≡ n = omega (arith, ap length is, length-append octets (drop n old), length-drop n old, long, before, small) in
    ap (take n) is ∙ take_at octets (drop n old) n few

-- ---- one turn more

pub append_nil : {X : Type 0} (xs : List X) → xs ++ [] ≡ xs
append_nil [] = refl
append_nil (x ∷ xs) = ap (λ t. x ∷ t) (append_nil xs)

count-last : {X : Type 0} (p : X → Bool) (xs : List X) (x : X) (b : Bool) → p x ≡ b → count_by p (xs ++ x ∷ []) ≡ count_by p xs + cond b 1 0
count-last p xs x b e = sum_by-append (λ y. cond (p y) 1 0) xs (x ∷ []) ∙ rw (e, zero-add)

-- a send, or none, in the report
pub counted_more : (hs : Handed) (refused now : ℕ) (c : Core) (sent : Option Bool) → is_some sent ≡ is_some (due (at now c)) → counted_send sent (sends_report hs refused) ≡ sends_report (hs ++ handed_of (sent_at now c) sent) refused
counted_more hs refused now c sent same = by_due (due (at now c)) sent same
  where
    by_due : (d : Option Datagram) (sent : Option Bool) → is_some sent ≡ is_some d → counted_send sent (sends_report hs refused) ≡ sends_report (hs ++ handed_of (octets_of c.sender d) sent) refused
    by_due None None same = ap (λ (hs : Handed). sends_report hs refused) (sym (append_nil hs))
    by_due None (Some b) same = absurd (cc)
    by_due (Some d) None same = absurd (cc)
    by_due (Some d) (Some true) same =
        let h : List ℕ × Bool = (text c.sender d, true) in
        let yes_sent = sym (count-last (λ (h : List ℕ × Bool). h.1) hs h true refl) in
        let no_failure = sym (count-last (λ (h : List ℕ × Bool). not h.1) hs h false refl ∙ add-zero _) in
        λ i. record { sent = yes_sent i; failed = no_failure i; refused = refused }
    by_due (Some d) (Some false) same =
        let h : List ℕ × Bool = (text c.sender d, false) in
        let none_sent = sym (count-last (λ (h : List ℕ × Bool). h.1) hs h false refl ∙ add-zero _) in
        let a_failure = sym (count-last (λ (h : List ℕ × Bool). not h.1) hs h true refl) in
        λ i. record { sent = none_sent i; failed = a_failure i; refused = refused }

pub refused_kept : (sent : Option Bool) (r : ConsoleReport) → (counted_send sent r).refused ≡ r.refused
refused_kept None r = refl
refused_kept (Some true) r = refl
refused_kept (Some false) r = refl

-- its datagram, or none
pub datagrams_more : (hs : Handed) (now : ℕ) (c : Core) (sent : Option Bool) → is_some sent ≡ is_some (due (at now c)) → datagrams (hs ++ handed_of (sent_at now c) sent) ≡ datagrams hs ++ sent_at now c
datagrams_more hs now c sent same = map-append (λ (h : List ℕ × Bool). h.0) hs (handed_of (sent_at now c) sent) ∙ ap (λ os. datagrams hs ++ os) (by_due (due (at now c)) sent same)
  where
    by_due : (d : Option Datagram) (sent : Option Bool) → is_some sent ≡ is_some d → datagrams (handed_of (octets_of c.sender d) sent) ≡ octets_of c.sender d
    by_due None None same = refl
    by_due None (Some b) same = absurd (cc)
    by_due (Some d) None same = absurd (cc)
    by_due (Some d) (Some b) same = refl

pub Hands-append : (a b c : Option Transcript) (xs ys : List (List ℕ × Bool)) → Hands a b xs → Hands b c ys → Hands a c (xs ++ ys)
Hands-append a b None xs ys p q = tt
Hands-append a None (Some z) xs ys p q = absurd q
Hands-append None (Some y) (Some z) xs ys p q = absurd p
Hands-append (Some x) (Some y) (Some z) xs ys p q =
    (q.0 ∙ p.0, q.1 ∙ ap (λ t. t ++ ys) p.1 ∙ append_assoc x.handed xs ys)

pub Hands-nil : (a : Option Transcript) → Hands a a []
Hands-nil None = tt
Hands-nil (Some x) = (refl, sym (append_nil x.handed))

pub Extends-nil : (a : Option (List ℕ)) → Extends a a []
Extends-nil None = tt
Extends-nil (Some xs) = sym (append_nil xs)

-- what the loop has of a console and its script before a turn, and what the turn makes of it
module _ (first : Core) (script : Script) (readings : List ℕ) (core : Core) (next greatest now : ℕ) (core_is : core ≡ core_after first script readings) (is : record { left = drop next script; greatest = greatest } ≡ reader_after script readings) where
  abbrev pub lines_given : Script
  lines_given = come (max greatest now) (drop next script)

  lines_are : lines_given ≡ lines_at now (reader_after script readings)
  lines_are = ap (lines_at now) is

  ordered_is : (given : Core) → given ≡ commanded now lines_given core → given ≡ ordered now script readings (core_after first script readings)
  ordered_is given gave = gave ∙ ap (λ ls. commanded now ls core) lines_are ∙ ap (commanded now (lines_at now (reader_after script readings))) core_is

  pub core_more : (given new : Core) → given ≡ commanded now lines_given core → new ≡ after_poll now given → new ≡ core_after first script (now ∷ readings)
  core_more given new gave polled = polled ∙ ap (after_poll now) (ordered_is given gave)

  pub reader_more : (lines : ℕ) → lines ≡ length lines_given → record { left = drop (next + lines) script; greatest = max greatest now } ≡ reader_after script (now ∷ readings)
  reader_more lines many =
      let lefts : drop (next + lines) script ≡ drop (length lines_given) (drop next script) = ap (λ n. drop (next + n) script) many ∙ sym (drop-drop (length lines_given) next script) in
      (λ i. let r : Reader = record { left = lefts i; greatest = max greatest now } in r)
      ∙ ap (λ (r : Reader). let s : Reader = record { left = drop (length (lines_at now r)) r.left; greatest = max r.greatest now } in s) is

  pub sends_more : (hs : Handed) (given : Core) (sent : Option Bool) → given ≡ commanded now lines_given core → is_some sent ≡ is_some (due (at now given)) → datagrams hs ≡ console_sends first script readings
      → datagrams (hs ++ handed_of (sent_at now given) sent) ≡ console_sends first script (now ∷ readings)
  sends_more hs given sent gave same sofar =
      datagrams_more hs now given sent same
      ∙ ap (λ os. os ++ sent_at now given) sofar
      ∙ ap (λ c. console_sends first script readings ++ sent_at now c) (ordered_is given gave)

  pub refused_more : (refused : ℕ) → refused ≡ refusals now lines_given core → refused_by first script readings + refused ≡ refused_by first script (now ∷ readings)
  refused_more refused many =
      ap (λ n. refused_by first script readings + n) many
      ∙ ap (λ ls. refused_by first script readings + refusals now ls core) lines_are
      ∙ ap (λ c. refused_by first script readings + refusals now (lines_at now (reader_after script readings)) c) core_is
