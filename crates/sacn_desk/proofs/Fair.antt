-- What one poll does to the universes that are due.
use Rattle.std.proofs.Common.{◌≡◌, ◌==◌, ◌&&◌, ◌||◌, ◌+◌, ◌-◌, ℕ, zero, suc, max, Bool, true, false, cond, nat_le, if◌then◌else◌, List, [], ◌∷◌, map, find, refl, sym, ap, ◌∙◌, arith, Option, Some, None, zero-add}
use Rattle.std.specs.List.{list_any}
use Rattle.std.specs.Option.{option_map}
use Rattle.std.proofs.lemmas.List.Sums.{sum_by-append}
use Rattle.sacn_packets.specs.Data.{Data}
use Rattle.sacn_console.specs.declared.line.UniverseLine.{UniverseLine}
use Rattle.sacn_console.specs.Lights.{Lights, lights_at}
use Rattle.sacn_console.specs.Lines.{Page, Datagram, Packet, Paged, Gave, line_due, line_after, line_sent}
use Rattle.sacn_console.specs.Core.{Core, at, due, due_by, given, after, line_found, page_due, packet_of, packet_with}
use Rattle.sacn_console.proofs.Frames.{later}
use Rattle.sacn_desk.specs.DeskSends.{polled}
use Rattle.sacn_desk.specs.Fairness.{has_due, is_due, as_list, gives, is_packet_on, packets_on}

abbrev pub one_if : Bool → ℕ
one_if b = if b then 1 else 0

-- ---- a moment

max_again : (m t : ℕ) → max (max m t) t ≡ max m t
max_again m t = omega arith

-- a second reading at a moment changes nothing
pub at_again : (now : ℕ) (c : Core) → at now (at now c) ≡ at now c
at_again now c =
    ap (λ p. record { sender = c.sender; lines = c.lines; cycle = c.cycle; listed = c.listed; lights = record { patch = c.lights.patch; player = p }; moment = max (max c.moment now) now }) (later c.lights.player now now (omega arith))
    ∙ ap (λ m. record { sender = c.sender; lines = c.lines; cycle = c.cycle; listed = c.listed; lights = lights_at now c.lights; moment = m }) (max_again c.moment now)

-- ... nor does one after a poll
pub at_given : (now : ℕ) (d : Option Datagram) (c : Core) → at now (given d (at now c)) ≡ given d (at now c)
unfolding after
at_given now None c = at_again now c
at_given now (Some d) c = ap (λ (x : Core). after (Gave (max c.moment now) d) (record { sender = c.sender; lines = c.lines; cycle = c.cycle; listed = c.listed; lights = x.lights; moment = x.moment })) (at_again now c)

-- ---- lists

and_false : (a : Bool) → (a && false) ≡ false
and_false true = refl
and_false false = refl

pub some_is : {X : Type 0} (a b : X) → Some a ≡ Some b → a ≡ b
some_is a b e = cc

any_map : {X : Type 0} (p : X → Bool) (f : X → X) (xs : List X) → ((x : X) → p (f x) ≡ p x) → list_any p (map f xs) ≡ list_any p xs
any_map p f [] e = refl
any_map p f (x ∷ xs) e = ap (λ b. b || list_any p (map f xs)) (e x) ∙ ap (λ b. p x || b) (any_map p f xs e)

any_none : {X : Type 0} (p : X → Bool) (f : X → X) (xs : List X) → ((x : X) → p (f x) ≡ false) → list_any p (map f xs) ≡ false
any_none p f [] e = refl
any_none p f (x ∷ xs) e = ap (λ b. b || list_any p (map f xs)) (e x) ∙ any_none p f xs e

or_true : (a : Bool) → (a || true) ≡ true
or_true true = refl
or_true false = refl

-- a list that begins with x, of which the rest is found due or not
module _ (u : ℕ) (p : UniverseLine → Bool) (x : UniverseLine) (xs : List UniverseLine) where
  found_first : (l : UniverseLine) (b : Bool) → (l.universe == u) ≡ true → cond b (Some x) (find p xs) ≡ Some l → (find p xs ≡ Some l → list_any (λ (y : UniverseLine). (y.universe == u) && p y) xs ≡ true)
      → (((x.universe == u) && b) || list_any (λ (y : UniverseLine). (y.universe == u) && p y) xs) ≡ true
  found_first l true is same more =
      let yes : (x.universe == u) ≡ true = ap (λ (y : UniverseLine). y.universe == u) (some_is x l same) ∙ is in
      ap (λ b. (b && true) || list_any (λ (y : UniverseLine). (y.universe == u) && p y) xs) yes
  found_first l false is found more = ap (λ b. ((x.universe == u) && false) || b) (more found) ∙ or_true ((x.universe == u) && false)

  none_first : (b : Bool) → cond b (Some x) (find p xs) ≡ None → (find p xs ≡ None → list_any (λ (y : UniverseLine). (y.universe == u) && p y) xs ≡ false)
      → (((x.universe == u) && b) || list_any (λ (y : UniverseLine). (y.universe == u) && p y) xs) ≡ false
  none_first true some more = absurd (cc)
  none_first false none more = ap (λ b. b || list_any (λ (y : UniverseLine). (y.universe == u) && p y) xs) (and_false (x.universe == u)) ∙ more none

found_any : (u : ℕ) (p : UniverseLine → Bool) (l : UniverseLine) (xs : List UniverseLine) → (l.universe == u) ≡ true → find p xs ≡ Some l → list_any (λ (x : UniverseLine). (x.universe == u) && p x) xs ≡ true
found_any u p l [] is e = absurd (cc)
found_any u p l (x ∷ xs) is e = found_first u p x xs l (p x) is e (found_any u p l xs is)

none_any : (u : ℕ) (p : UniverseLine → Bool) (xs : List UniverseLine) → find p xs ≡ None → list_any (λ (x : UniverseLine). (x.universe == u) && p x) xs ≡ false
none_any u p [] e = refl
none_any u p (x ∷ xs) e = none_first u p x xs (p x) e (none_any u p xs)

-- ---- one line

abbrev due_on : ℕ → Lights → ℕ → UniverseLine → Bool
due_on u p m l = (l.universe == u) && line_due p m l

not_passed : (m : ℕ) → nat_le 25 (m - m) ≡ false
not_passed m = grind arith

pub equal : (a b : ℕ) → (a == b) ≡ true → a ≡ b
equal a b e = grind arith

-- after its packet a line isn't due at that moment
pub sent_rests : (p : Lights) (m : ℕ) (f : List ℕ) (l : UniverseLine) → line_due p m (line_sent m f l) ≡ false
unfolding line_due line_sent
sent_rests p m f l = rw (not_passed m) refl

module _ (u m : ℕ) (p : Lights) (d : Data) (l : UniverseLine) where
  -- after a packet on its universe
  rests : d.universe ≡ u → due_on u p m (line_after (Gave m (Packet d)) l) ≡ false
  unfolding line_after
  rests is = by_line (l.universe == d.universe) refl
    where
      by_line : (b : Bool) → (l.universe == d.universe) ≡ b → due_on u p m (if b then line_sent m d.slots l else l) ≡ false
      by_line true e = ap (λ b. ((line_sent m d.slots l).universe == u) && b) (sent_rests p m d.slots l) ∙ and_false ((line_sent m d.slots l).universe == u)
      by_line false e = ap (λ b. b && line_due p m l) (ap (λ w. l.universe == w) (sym is) ∙ e)

  -- after a packet on another universe
  stays : (d.universe == u) ≡ false → due_on u p m (line_after (Gave m (Packet d)) l) ≡ due_on u p m l
  unfolding line_after line_sent
  stays other = by_line (l.universe == d.universe) refl
    where
      by_line : (b : Bool) → (l.universe == d.universe) ≡ b → due_on u p m (if b then line_sent m d.slots l else l) ≡ due_on u p m l
      by_line true e =
          let no : (l.universe == u) ≡ false = ap (λ w. w == u) (equal l.universe d.universe e) ∙ other in
          ap (λ b. b && line_due p m (line_sent m d.slots l)) no ∙ sym (ap (λ b. b && line_due p m l) no)
      by_line false e = refl

-- ---- one poll

paged : (u : ℕ) (c : Core) (q : Option Page) → packets_on u (as_list (option_map Paged q)) + one_if (has_due u (given (option_map Paged q) c)) ≡ one_if (has_due u c)
unfolding after line_after
paged u c None = zero-add (one_if (has_due u c))
paged u c (Some q) =
    zero-add (one_if (has_due u (given (Some (Paged q)) c)))
    ∙ ap one_if (any_map (due_on u c.lights c.moment) (line_after (Gave c.moment (Paged q))) c.lines (λ l. refl))

sent_universe : (c : Core) (l : UniverseLine) → (packet_of c.sender c.lights c.moment l).universe ≡ l.universe
unfolding packet_with
sent_universe c l = refl

packed : (u : ℕ) (c : Core) (l : UniverseLine) → line_found c ≡ Some l → packets_on u (as_list (due_by c (Some l))) + one_if (has_due u (given (due_by c (Some l)) c)) ≡ one_if (has_due u c)
unfolding line_found after
packed u c l found = by_universe (d.universe == u) refl
  where
    d : Data
    d = packet_of c.sender c.lights c.moment l

    after_it : Core
    after_it = after (Gave c.moment (Packet d)) c

    by_universe : (b : Bool) → (d.universe == u) ≡ b → (0 + cond b 1 0) + one_if (has_due u after_it) ≡ one_if (has_due u c)
    by_universe true e =
        let on : d.universe ≡ u = equal d.universe u e in
        let yes : (l.universe == u) ≡ true = ap (λ w. w == u) (sym (sent_universe c l)) ∙ e in
        let was : has_due u c ≡ true = found_any u (line_due c.lights c.moment) l c.lines yes found in
        let now : has_due u after_it ≡ false = any_none (due_on u c.lights c.moment) (line_after (Gave c.moment (Packet d))) c.lines (λ x. rests u c.moment c.lights d x on) in
        ap (λ b. 1 + one_if b) now ∙ sym (ap one_if was)
    by_universe false e =
        zero-add (one_if (has_due u after_it))
        ∙ ap one_if (any_map (due_on u c.lights c.moment) (line_after (Gave c.moment (Packet d))) c.lines (λ x. stays u c.moment c.lights d x e))

-- a poll gives a universe its packet and it is due no more, or gives it none and leaves it as due as it was
pub one_poll : (u : ℕ) (c : Core) → packets_on u (as_list (due c)) + one_if (has_due u (given (due c) c)) ≡ one_if (has_due u c)
unfolding due
one_poll u c = by_line (line_found c) refl
  where
    by_line : (o : Option UniverseLine) → line_found c ≡ o → packets_on u (as_list (due_by c o)) + one_if (has_due u (given (due_by c o) c)) ≡ one_if (has_due u c)
    by_line None e = paged u c (page_due c)
    by_line (Some l) e = packed u c l e

-- where nothing is due, no universe is
pub quiet : (u : ℕ) (c : Core) → due c ≡ None → has_due u c ≡ false
unfolding due line_found
quiet u c none = by_line (line_found c) refl none
  where
    by_line : (o : Option UniverseLine) → line_found c ≡ o → due_by c o ≡ None → has_due u c ≡ false
    by_line None e none = none_any u (line_due c.lights c.moment) c.lines e
    by_line (Some l) e none = absurd (cc)

-- ---- all polls of a reading

-- what was given and what is still due are what was due
pub kept : (now n u : ℕ) (c : Core) → packets_on u (gives now n c) + one_if (has_due u (at now (polled now n c))) ≡ one_if (is_due now u c)
kept now zero u c = zero-add (one_if (is_due now u c))
kept now (suc n) u c =
    let old = at now (polled now n c) in
    let new = at now (polled now (suc n) c) in
    let step : packets_on u (as_list (due old)) + one_if (has_due u new) ≡ one_if (has_due u old) =
    ap (λ (x : Core). packets_on u (as_list (due old)) + one_if (has_due u x)) (at_given now (due old) (polled now n c)) ∙ one_poll u old in
    omega (arith, kept now n u c, step, sum_by-append (λ x. cond (is_packet_on u x) 1 0) (gives now n c) (as_list (due old)))
