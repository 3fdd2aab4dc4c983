-- How far the packets of a life are apart, and how a universe ends.
use Rattle.std.proofs.Common.{◌≡◌, ℕ, ◌+◌, ◌-◌, ◌<◌, ◌≤◌, max, Bool, true, false, ◌&&◌, ◌||◌, ◌==◌, nat_lt, nat_le, if◌then◌else◌, List, [], ◌∷◌, get_or, length, find, Option, Some, None, Result, Ok, Err, zero, suc, add-one, refl, ap, subst, sym, ◌∙◌, arith}
use Rattle.std.proofs.lemmas.Bool.Decides.{nat_tests}
use Rattle.sacn_packets.specs.Data.{Data}
use Rattle.sacn_console.specs.Lines.{Page, Datagram, Packet, Paged, Deed}
use Rattle.sacn_console.specs.Due.{Life, Sent, Mode, Runs, Ends, Stops, packets, packets_since, is_ended, terminations, mode, mode_by, latest, is_end, due_in, frame_by, would_be_new, follow_new, or_else, unless, order_in, packet_by, due_with, due_by_list, answer_by_list, universe_due}
use Rattle.sacn_console.specs.Runs.{Call, Order, Poll, with_order, with_datagram, deeds_after}
use Rattle.sacn_console.specs.Rhythm.{KeepsGap, PacketsKeepTheirGap, IsSentSince, IsQuiet, NoneWaitsTooLong, AllTerminate, EndsByThree, AnEndIsThreeTerminations}
use Rattle.sacn_console.specs.declared.command.Command.{Command}
use Rattle.sacn_console.specs.declared.command.ConsoleFault.{ConsoleFault}
use Rattle.sacn_console.specs.declared.limits.TheConstants.{REPEATS}
use Rattle.sacn_console.proofs.Plain.{option_paged, same_number, some_same}

-- ---- a packet that is given is one that is due

-- of a universe that is due, with its termination
record IsDue (life : Life) (t : ℕ) (ds : List Deed) (d : Data) : Type 0 where
  due : universe_due life t ds d.universe ≡ true
  ends : d.terminated ≡ is_end (mode d.universe ds)

same_packet : (a b : Data) → Packet a ≡ Packet b → a ≡ b
same_packet a b e = cc

no_page : (p : Page) (d : Data) → Packet d ≡ Paged p → ⊥
no_page p d e = cc

of_packet : (life : Life) (t : ℕ) (ds : List Deed) (u : ℕ) → universe_due life t ds u ≡ true → IsDue life t ds (packet_by life t ds u)
unfolding packet_by
of_packet life t ds u due = record { due = due; ends = refl }

found_by : (f : ℕ → Bool) (x u : ℕ) (xs : List ℕ) (b : Bool) → f x ≡ b → (if b then Some x else find f xs) ≡ Some u → (find f xs ≡ Some u → f u ≡ true) → f u ≡ true
found_by f x u xs true is e rest = rw (← some_same x u e) is
found_by f x u xs false is e rest = rest e

found : (f : ℕ → Bool) (xs : List ℕ) (u : ℕ) → find f xs ≡ Some u → f u ≡ true
found f [] u e = absurd (cc)
found f (x ∷ xs) u e = found_by f x u xs (f x) refl e (found f xs u)

given_by : (life : Life) (t : ℕ) (ds : List Deed) (d : Data) (o : Option ℕ) → ((u : ℕ) → o ≡ Some u → universe_due life t ds u ≡ true) → due_with life t ds o ≡ Some (Packet d) → IsDue life t ds d
given_by life t ds d None due e =
    let w = option_paged _ (Packet d) e in
    absurd (no_page w.0 d w.2)
given_by life t ds d (Some u) due e =
    rw (← same_packet (packet_by life t ds u) d (some_same (Packet (packet_by life t ds u)) (Packet d) e)) (of_packet life t ds u (due u refl))

given : (life : Life) (t : ℕ) (ds : List Deed) (d : Data) → due_by_list life t ds ≡ Some (Packet d) → IsDue life t ds d
unfolding due_by_list
given life t ds d e = given_by life t ds d (find (universe_due life t ds) life.universes) (λ u is. found (universe_due life t ds) life.universes u is) e

-- ---- the gap

-- at t the gap since the latest packet has passed
abbrev HasGap : ℕ → List Sent → Type 0
HasGap t [] = Unit {0}
HasGap t (s ∷ ss) = s.moment + 25 ≤ t

runs_gap : (t m : ℕ) (n : Bool) → ((nat_le 25 (t - m) && n) || nat_le 900 (t - m)) ≡ true → m + 25 ≤ t
runs_gap t m true e = grind (arith, nat_tests)
runs_gap t m false e = grind (arith, nat_tests)

ends_gap : (t m : ℕ) → nat_le 25 (t - m) ≡ true → m + 25 ≤ t
ends_gap t m e = grind (arith, nat_tests)

mode_gap : (m : Mode) (t : ℕ) (ps : List Sent) (f : List ℕ) (ss : List Sent) → due_in m t (latest ps) f ss ≡ true → HasGap t ps
mode_gap m t [] f ss e = tt
mode_gap Runs t (p ∷ ps) f ss e = runs_gap t p.moment (would_be_new f ss || nat_lt (follow_new ss) REPEATS) e
mode_gap Ends t (p ∷ ps) f ss e = ends_gap t p.moment e
mode_gap Stops t (p ∷ ps) f ss e = absurd (cc)

due_gap : (life : Life) (t : ℕ) (ds : List Deed) (u : ℕ) → universe_due life t ds u ≡ true → HasGap t (packets u ds)
unfolding universe_due
due_gap life t ds u e = mode_gap (mode u ds) t (packets u ds) _ (packets_since u ds) e

one_more : (t : ℕ) (d : Data) (ps : List Sent) → HasGap t ps → KeepsGap ps → KeepsGap (record { moment = t; data_sent = d } ∷ ps)
one_more t d [] gap keeps = tt
one_more t d (p ∷ ps) gap keeps = (gap, keeps)

gap_where : (t : ℕ) (d : Data) (ps : List Sent) (b : Bool) → (b ≡ true → HasGap t ps) → KeepsGap ps → KeepsGap (if b then record { moment = t; data_sent = d } ∷ ps else ps)
gap_where t d ps true gap keeps = one_more t d ps (gap refl) keeps
gap_where t d ps false gap keeps = keeps

gap_with : (life : Life) (t : ℕ) (ds : List Deed) (u : ℕ) (o : Option Datagram) → ((d : Data) → o ≡ Some (Packet d) → IsDue life t ds d) → KeepsGap (packets u ds) → KeepsGap (packets u (with_datagram t o ds))
gap_with life t ds u None due keeps = keeps
gap_with life t ds u (Some (Paged p)) due keeps = keeps
gap_with life t ds u (Some (Packet d)) due keeps =
    gap_where t d (packets u ds) (u == d.universe) (λ s. rw (same_number u d.universe s) (due_gap life t ds d.universe (due d refl).due)) keeps

gap_order : (t : ℕ) (ds : List Deed) (u : ℕ) (k : Command) (r : Result (Unit {0}) ConsoleFault) → KeepsGap (packets u ds) → KeepsGap (packets u (with_order t k r ds))
gap_order t ds u k (Ok x) keeps = keeps
gap_order t ds u k (Err x) keeps = keeps

gap_after : (life : Life) (u : ℕ) (calls : List Call) (t : ℕ) (ds : List Deed) → KeepsGap (packets u ds) → KeepsGap (packets u (deeds_after life t ds calls))
gap_after life u [] t ds keeps = keeps
gap_after life u (Order now k ∷ calls) t ds keeps =
    gap_after life u calls (max t now) (with_order (max t now) k (answer_by_list life k ds) ds) (gap_order (max t now) ds u k (answer_by_list life k ds) keeps)
gap_after life u (Poll now ∷ calls) t ds keeps =
    gap_after life u calls (max t now) (with_datagram (max t now) (due_by_list life (max t now) ds) ds)
    (gap_with life (max t now) ds u (due_by_list life (max t now) ds) (λ d e. given life (max t now) ds d e) keeps)

pub packets_keep_their_gap : PacketsKeepTheirGap
packets_keep_their_gap life calls u = gap_after life u calls 0 [] tt

-- ---- no universe waits too long

none_by : (f : ℕ → Bool) (x : ℕ) (xs : List ℕ) (b : Bool) → f x ≡ b → (if b then Some x else find f xs) ≡ None → (f x ≡ false) × (find f xs ≡ None)
none_by f x xs true is e = absurd (cc)
none_by f x xs false is e = (is, e)

none_of : (f : ℕ → Bool) (xs : List ℕ) → find f xs ≡ None → (i : ℕ) → i < length xs → f (get_or xs i 0) ≡ false
none_of f [] e i lt = absurd (omega (arith, lt))
none_of f (x ∷ xs) e zero lt = (none_by f x xs (f x) refl e).0
none_of f (x ∷ xs) e (suc i) lt = none_of f xs (none_by f x xs (f x) refl e).1 i (omega (arith, lt))

none_found : (life : Life) (t : ℕ) (ds : List Deed) (o : Option ℕ) → due_with life t ds o ≡ None → o ≡ None
none_found life t ds None e = refl
none_found life t ds (Some u) e = absurd (cc)

runs_since : (t m : ℕ) (n : Bool) → ((nat_le 25 (t - m) && n) || nat_le 900 (t - m)) ≡ false → t < m + 900
runs_since t m true e = grind (arith, nat_tests)
runs_since t m false e = grind (arith, nat_tests)

ends_since : (t m : ℕ) → nat_le 25 (t - m) ≡ false → t < m + 25
ends_since t m e = grind (arith, nat_tests)

kept_alive : (n : Bool) → (n || true) ≡ true
kept_alive true = refl
kept_alive false = refl

not_so : (b : Bool) → b ≡ true → b ≡ false → ⊥
not_so b x y = cc

runs_quiet : (t : ℕ) (ps : List Sent) (f : List ℕ) (ss : List Sent) → due_in Runs t (latest ps) f ss ≡ false → IsSentSince 900 t ps
runs_quiet t [] f ss e = absurd (not_so _ (kept_alive (would_be_new f ss || nat_lt (follow_new ss) REPEATS)) e)
runs_quiet t (p ∷ ps) f ss e = runs_since t p.moment (would_be_new f ss || nat_lt (follow_new ss) REPEATS) e

ends_quiet : (t : ℕ) (ps : List Sent) (f : List ℕ) (ss : List Sent) → due_in Ends t (latest ps) f ss ≡ false → IsSentSince 25 t ps
ends_quiet t [] f ss e = absurd (cc)
ends_quiet t (p ∷ ps) f ss e = ends_since t p.moment e

quiet : (life : Life) (t : ℕ) (ds : List Deed) (u : ℕ) → universe_due life t ds u ≡ false → IsQuiet t ds u
unfolding universe_due
quiet life t ds u e = record {
  runs = λ is. runs_quiet t (packets u ds) (frame_by life u t ds) (packets_since u ds) (rw is at e);
  ends = λ is. ends_quiet t (packets u ds) (frame_by life u t ds) (packets_since u ds) (rw is at e);
}

pub none_waits_too_long : NoneWaitsTooLong
unfolding due_by_list
none_waits_too_long life t ds e i lt =
    quiet life t ds (get_or life.universes i 0)
    (none_of (universe_due life t ds) life.universes (none_found life t ds (find (universe_due life t ds) life.universes) e) i lt)

-- ---- ends

all_count : (ss : List Sent) → AllTerminate true ss → terminations ss ≡ length ss
all_count [] all = refl
all_count (s ∷ ss) all = rw (all.0, all_count ss all.1, add-one) refl

-- a universe that is due isn't stopped: it runs, or less than three terminations were sent
few_left : (n t : ℕ) (ps : List Sent) (f : List ℕ) (ss : List Sent) (b : Bool) → nat_lt n 3 ≡ b → due_in (if b then Ends else Stops) t (latest ps) f ss ≡ true → (is_end (if b then Ends else Stops) ≡ true) × (n + 1 ≤ 3)
few_left n t ps f ss true is e = (refl, grind (arith, nat_tests))
few_left n t ps f ss false is e = absurd (cc)

module _ (t : ℕ) (d : Data) (ps : List Sent) (f : List ℕ) (ss : List Sent) where
  ended_more : (ended : Bool) → due_in (mode_by ended (terminations ss)) t (latest ps) f ss ≡ true → d.terminated ≡ is_end (mode_by ended (terminations ss)) →
      AllTerminate ended ss → (ended ≡ true → length ss ≤ 3) →
      AllTerminate ended (record { moment = t; data_sent = d } ∷ ss) × (ended ≡ true → length ss + 1 ≤ 3)
  ended_more true due says all few =
      let left = few_left (terminations ss) t ps f ss (nat_lt (terminations ss) 3) refl due in
      ((says ∙ left.0, all), λ e. rw (← all_count ss all) left.1)
  ended_more false due says all few = ((says, all), λ e. absurd (cc))

due_more : (life : Life) (t : ℕ) (ds : List Deed) (d : Data) → IsDue life t ds d → EndsByThree d.universe ds →
    AllTerminate (is_ended d.universe ds) (record { moment = t; data_sent = d } ∷ packets_since d.universe ds) × (is_ended d.universe ds ≡ true → length (packets_since d.universe ds) + 1 ≤ 3)
unfolding universe_due mode
due_more life t ds d is before =
    ended_more t d (packets d.universe ds) _ (packets_since d.universe ds) (is_ended d.universe ds) is.due is.ends before.all before.few

-- and so for the universe of its packet by any name
abbrev MoreAt : ℕ → Data → List Deed → ℕ → Type 0
MoreAt t d ds u = AllTerminate (is_ended u ds) (record { moment = t; data_sent = d } ∷ packets_since u ds) × (is_ended u ds ≡ true → length (packets_since u ds) + 1 ≤ 3)

due_more_at : (life : Life) (t : ℕ) (ds : List Deed) (u : ℕ) (d : Data) → u ≡ d.universe → IsDue life t ds d → EndsByThree u ds → MoreAt t d ds u
due_more_at life t ds u d same is before = subst (MoreAt t d ds) (sym same) (due_more life t ds d is (subst (λ v. EndsByThree v ds) same before))

three_where : (t : ℕ) (d : Data) (ended : Bool) (ss : List Sent) (b : Bool) → (b ≡ true → AllTerminate ended (record { moment = t; data_sent = d } ∷ ss) × (ended ≡ true → length ss + 1 ≤ 3)) →
    AllTerminate ended ss → (ended ≡ true → length ss ≤ 3) →
    AllTerminate ended (if b then record { moment = t; data_sent = d } ∷ ss else ss) × (ended ≡ true → length (if b then record { moment = t; data_sent = d } ∷ ss else ss) ≤ 3)
three_where t d ended ss true more all few = ((more refl).0, λ e. omega (arith, (more refl).1 e))
three_where t d ended ss false more all few = (all, few)

three_with : (life : Life) (t : ℕ) (ds : List Deed) (u : ℕ) (o : Option Datagram) → ((d : Data) → o ≡ Some (Packet d) → IsDue life t ds d) → EndsByThree u ds → EndsByThree u (with_datagram t o ds)
three_with life t ds u None due before = before
three_with life t ds u (Some (Paged p)) due before = record { all = before.all; few = before.few }
three_with life t ds u (Some (Packet d)) due before =
    let more = three_where t d (is_ended u ds) (packets_since u ds) (u == d.universe)
    (λ s. due_more_at life t ds u d (same_number u d.universe s) (due d refl) before) before.all before.few in
    record { all = more.0; few = more.1 }

three_told : (t : ℕ) (ds : List Deed) (u : ℕ) (o : Option Bool) → EndsByThree u ds → AllTerminate (or_else o (is_ended u ds)) (unless o (packets_since u ds)) × (or_else o (is_ended u ds) ≡ true → length (unless o (packets_since u ds)) ≤ 3)
three_told t ds u None before = (before.all, before.few)
three_told t ds u (Some b) before = (tt, λ e. omega arith)

three_order : (t : ℕ) (ds : List Deed) (u : ℕ) (k : Command) (r : Result (Unit {0}) ConsoleFault) → EndsByThree u ds → EndsByThree u (with_order t k r ds)
three_order t ds u k (Ok x) before =
    let told = three_told t ds u (order_in u k) before in
    record { all = told.0; few = told.1 }
three_order t ds u k (Err x) before = before

three_after : (life : Life) (u : ℕ) (calls : List Call) (t : ℕ) (ds : List Deed) → EndsByThree u ds → EndsByThree u (deeds_after life t ds calls)
three_after life u [] t ds before = before
three_after life u (Order now k ∷ calls) t ds before =
    three_after life u calls (max t now) (with_order (max t now) k (answer_by_list life k ds) ds) (three_order (max t now) ds u k (answer_by_list life k ds) before)
three_after life u (Poll now ∷ calls) t ds before =
    three_after life u calls (max t now) (with_datagram (max t now) (due_by_list life (max t now) ds) ds)
    (three_with life (max t now) ds u (due_by_list life (max t now) ds) (λ d e. given life (max t now) ds d e) before)

pub an_end_is_three_terminations : AnEndIsThreeTerminations
an_end_is_three_terminations life calls u = three_after life u calls 0 [] (record { all = tt; few = λ e. omega arith })
