-- What a look at a port finds, and what may have changed since.
use Rattle.std.proofs.Common.{◌≡◌, ℕ, ◌==◌, Bool, true, false, not, ◌||◌, List, [], ◌∷◌, ◌++◌, length, take, drop, map, get_or, zero, suc, ◌<◌, Option, None, Some, IfSome, refl, sym, ap, subst, ◌∙◌, arith}
use Rattle.std.specs.Cmp.Lexicographic.{bytes_decides}
use Rattle.std.specs.List.{list_any}
use Rattle.std.proofs.lemmas.List.{take_at, length-map}
use Rattle.sacn_node.specs.declared.setup.SlotRange.{SlotRange}
use Rattle.sacn_node.specs.declared.showing.Showing.{Showing}
use Rattle.sacn_node.specs.declared.port_frame.PortFrame.{PortFrame}
use Rattle.sacn_node.specs.Setup.{Port, port_numbers}
use Rattle.sacn_node.specs.Ports.{port_of}
use Rattle.sacn_node.specs.Cores.{Core, Node, core_lost, core_slots, node_frame}
use Rattle.sacn_node.specs.Readings.{Reading, after_reading}
use Rattle.sacn_node.specs.Calls.{with_reading}
use Rattle.sacn_node.specs.Changes.{universe_changed, shows_on, node_shows}
use Rattle.sacn_node.specs.Showings.{same, is_shown, unseen, with_found, port_after, ports_of, changes_universe, concerns, IsCurrent, AreCurrentBut, IsShowingOf, news_in}
use Rattle.sacn_node.proofs.StableFrames.{slots_are_kept, frames_are_kept, neither}
use Rattle.sacn_node.proofs.Settled.{tick_told}

-- ---- one frame

pub same_is : (a b : List ℕ) → same a b ≡ true → a ≡ b
unfolding same
same_is a b is = (bytes_decides a b).0 is

pub same_itself : (f : List ℕ) → same f f ≡ true
unfolding same
same_itself f = (bytes_decides f f).1 refl

pub shown_last : (last : Option (List ℕ)) (frame : List ℕ) → is_shown last frame ≡ true → last ≡ Some frame
shown_last None frame is = absurd (cc)
shown_last (Some last) frame is = ap Some (same_is last frame is)

not_false : (b : Bool) → not b ≡ false → b ≡ true
not_false true is = refl
not_false false is = absurd (cc)

-- a look that finds the frame of the look before
pub stays : (p : PortFrame) (frame : List ℕ) (told : Bool) → told ≡ is_shown p.last frame → not told ≡ false
    → record { port = p.port; last = p.last; is_new = not told } ≡ with_found p (Some frame)
stays p frame told is none =
    let last = shown_last p.last frame (sym is ∙ not_false told none) in
    λ i. let q : PortFrame = record { port = p.port; last = last i; is_new = not (is i) } in q

pub stays_current : (p : PortFrame) (f : Option (List ℕ)) → (with_found p f).last ≡ p.last → record { port = p.port; last = p.last; is_new = false } ≡ with_found p f
stays_current p None is = refl
stays_current p (Some f) is =
    let none : not (is_shown p.last f) ≡ false = ap (λ last. not (is_shown last f)) (sym is) ∙ ap not (same_itself f) in
    λ i. let q : PortFrame = record { port = p.port; last = sym is i; is_new = sym none i } in q

-- ---- all ports, where more is noted

both_ways : {X : Type 0} (b : Bool) → b ≡ true → b ≡ false → X
both_ways true is not = absurd (cc)
both_ways false is not = absurd (cc)

either : (a b : Bool) → a ≡ false → b ≡ false → (a || b) ≡ false
either a b first second = ap (λ x. x || b) first ∙ second

-- what concerns no noted universe concerns none that was noted before
none_before : (us vs : List ℕ) (o : Option Port) → ((u : ℕ) → list_any (λ v. v == u) vs ≡ false → list_any (λ v. v == u) us ≡ false) → shows_on vs o ≡ false → shows_on us o ≡ false
none_before us vs None before none = refl
none_before us vs (Some p) before none = ranges p.ranges none
  where
    ranges : (rs : List SlotRange) → list_any (λ r. list_any (λ v. v == r.universe) vs) rs ≡ false → list_any (λ r. list_any (λ v. v == r.universe) us) rs ≡ false
    ranges [] none = refl
    ranges (r ∷ rs) none =
        let parts = neither (list_any (λ v. v == r.universe) vs) (list_any (λ r. list_any (λ v. v == r.universe) vs) rs) none in
        either (list_any (λ v. v == r.universe) us) (list_any (λ r. list_any (λ v. v == r.universe) us) rs) (before r.universe parts.0) (ranges rs parts.1)

module _ (s t : Showing) (n m : Node) (ports : m.ports ≡ n.ports) (all : t.all ≡ false → s.all ≡ false) (grows : (u : ℕ) → changes_universe t u ≡ false → changes_universe s u ≡ false)
    (told : (u : ℕ) → changes_universe t u ≡ false → core_slots m.core u ≡ core_slots n.core u) where
  one_current : (p : PortFrame) → (concerns s.all s.universes.items n p.port ≡ false → IsCurrent n p) → concerns t.all t.universes.items m p.port ≡ false → IsCurrent m p
  one_current p was quiet =
      let parts = neither t.all (node_shows p.port t.universes.items m) quiet in
      let shows : node_shows p.port t.universes.items n ≡ false = ap (λ ps. shows_on t.universes.items (port_of p.port ps)) (sym ports) ∙ parts.1 in
      let noted : (u : ℕ) → list_any (λ v. v == u) t.universes.items ≡ false → changes_universe t u ≡ false = λ u none. either t.all (list_any (λ v. v == u) t.universes.items) parts.0 none in
      let before : (u : ℕ) → list_any (λ v. v == u) t.universes.items ≡ false → list_any (λ v. v == u) s.universes.items ≡ false = λ u none. (neither s.all (list_any (λ v. v == u) s.universes.items) (grows u (noted u none))).1 in
      let same : node_frame p.port m ≡ node_frame p.port n = frames_are_kept p.port t.universes.items n m ports (λ u none. told u (noted u none)) shows in
      ap (λ f. (with_found p f).last) same
      ∙ was (either s.all (node_shows p.port s.universes.items n) (all parts.0) (none_before s.universes.items t.universes.items (port_of p.port n.ports) before shows))

  still_current : (ps : List PortFrame) → AreCurrentBut s.all s.universes.items n ps → AreCurrentBut t.all t.universes.items m ps
  still_current [] current = tt
  still_current (p ∷ ps) current = (one_current p current.0, still_current ps current.1)

  pub still_showing : ports_of t ≡ ports_of s → t.has_news ≡ s.has_news → IsShowingOf s n → IsShowingOf t m
  still_showing kept news showing = record {
    numbers = ap (λ (ps : List PortFrame). map (λ p. p.port) ps) kept ∙ showing.numbers ∙ ap port_numbers (sym ports);
    current = subst (AreCurrentBut t.all t.universes.items m) (sym kept) (still_current (ports_of s) showing.current);
    quiet = λ none. ap news_in kept ∙ showing.quiet (sym news ∙ none);
  }

pub grows_lost : (s t : Showing) → (t.all ≡ false → s.all ≡ false) → t.universes.items ≡ s.universes.items → (u : ℕ) → changes_universe t u ≡ false → changes_universe s u ≡ false
grows_lost s t all same u quiet =
    let parts = neither t.all (list_any (λ v. v == u) t.universes.items) quiet in
    either s.all (list_any (λ v. v == u) s.universes.items) (all parts.0) (ap (λ us. list_any (λ v. v == u) us) (sym same) ∙ parts.1)

-- a datagram changes the slots of the universe alone that it names, where nothing is lost
pub reading_told : (t : Showing) (reading : Reading) (now lost u : ℕ) (named : Option ℕ) (old : Core)
    → lost ≡ core_lost now old → lost ≡ 0 → named ≡ universe_changed reading now old
    → IfSome named (λ v. changes_universe t v ≡ true) → changes_universe t u ≡ false
    → core_slots (after_reading reading now old) u ≡ core_slots old u
reading_told t reading now lost u named old counted none is noted quiet =
    slots_are_kept reading now u old (λ some. both_ways (changes_universe t u) (subst (λ o. IfSome o (λ v. changes_universe t v ≡ true)) (is ∙ some) noted) quiet)
    ∙ tick_told now lost u old counted none

-- a datagram is given to a node, and what that may have changed is noted
pub taken_showing : (s t : Showing) (n m : Node) (reading : Reading) (now lost : ℕ) (named : Option ℕ)
    → m ≡ with_reading now reading n → lost ≡ core_lost now n.core → named ≡ universe_changed reading now n.core
    → (t.all ≡ false → s.all ≡ false) → ((u : ℕ) → changes_universe t u ≡ false → changes_universe s u ≡ false)
    → (t.all ≡ false → lost ≡ 0) → IfSome named (λ v. changes_universe t v ≡ true)
    → ports_of t ≡ ports_of s → t.has_news ≡ s.has_news → IsShowingOf s n → IsShowingOf t m
taken_showing s t n m reading now lost named core counted is all grows none noted kept news showing =
    still_showing s t n m (ap (λ (n : Node). n.ports) core) all grows
    (λ u quiet.
    let parts = neither t.all (list_any (λ v. v == u) t.universes.items) quiet in
    ap (λ (n : Node). core_slots n.core u) core ∙ reading_told t reading now lost u named n.core counted (none parts.0) is noted quiet)
    kept news showing

-- ---- a new showing, and one after a look

pub all_but : (universes : List ℕ) (n : Node) (ps : List PortFrame) → AreCurrentBut true universes n ps
all_but universes n [] = tt
all_but universes n (p ∷ ps) = ((λ quiet. absurd (cc)), all_but universes n ps)

pub unseen_numbers : (numbers : List ℕ) → map (λ (p : PortFrame). p.port) (map unseen numbers) ≡ numbers
unseen_numbers [] = refl
unseen_numbers (k ∷ ks) = ap (λ l. k ∷ l) (unseen_numbers ks)

number_after : (p : PortFrame) (f : Option (List ℕ)) → (with_found p f).port ≡ p.port
number_after p None = refl
number_after p (Some f) = refl

pub numbers_after : (n : Node) (ps : List PortFrame) → map (λ (p : PortFrame). p.port) (map (port_after n) ps) ≡ map (λ (p : PortFrame). p.port) ps
numbers_after n [] = refl
numbers_after n (p ∷ ps) = λ i. number_after p (node_frame p.port n) i ∷ numbers_after n ps i

last_again : (p q : PortFrame) (f : Option (List ℕ)) → q ≡ with_found p f → (with_found q f).last ≡ q.last
last_again p q None is = refl
last_again p q (Some f) is = sym (ap (λ (r : PortFrame). r.last) is)

looked_current : (universes : List ℕ) (n : Node) (ps : List PortFrame) → AreCurrentBut false universes n (map (port_after n) ps)
looked_current universes n [] = tt
looked_current universes n (p ∷ ps) =
    let q = port_after n p in
    ((λ quiet. subst (λ k. (with_found q (node_frame k n)).last ≡ q.last) (sym (number_after p (node_frame p.port n))) (last_again p q (node_frame p.port n) refl)), looked_current universes n ps)

pub looked : (s t : Showing) (n m : Node) → m ≡ n → ports_of t ≡ map (port_after n) (ports_of s) → t.all ≡ false → (t.has_news ≡ false → news_in (ports_of t) ≡ false) → IsShowingOf s n
    → IsShowingOf t m
looked s t n m same is none quiet showing =
    subst (λ (m : Node). IsShowingOf t m) (sym same) (record {
      numbers = ap (λ (ps : List PortFrame). map (λ p. p.port) ps) is ∙ numbers_after n (ports_of s) ∙ showing.numbers;
      current = subst (λ all. AreCurrentBut all t.universes.items n (ports_of t)) (sym none) (subst (AreCurrentBut false t.universes.items n) (sym is) (looked_current t.universes.items n (ports_of s)));
      quiet = quiet;
    })

-- the port at a place
pub current_at : (all : Bool) (universes : List ℕ) (n : Node) (ps : List PortFrame) (i : ℕ) (d : PortFrame) → i < length ps → AreCurrentBut all universes n ps
    → concerns all universes n (get_or ps i d).port ≡ false → IsCurrent n (get_or ps i d)
current_at all universes n [] i d lt current = absurd (omega arith)
current_at all universes n (p ∷ ps) zero d lt current = current.0
current_at all universes n (p ∷ ps) (suc i) d lt current = current_at all universes n ps i d (omega arith) current.1

-- a slice that is lent and written back
pub put_back : {X : Type 0} (xs ws : List X) → length ws ≡ length xs → take (length xs) (ws ++ drop (length ws) xs) ≡ ws
put_back xs ws same = take_at ws (drop (length ws) xs) (length xs) same

-- ---- a look where nothing is noted

one_of_none : (rs : List SlotRange) → list_any (λ r. list_any (λ v. v == r.universe) []) rs ≡ false
one_of_none [] = refl
one_of_none (r ∷ rs) = one_of_none rs

shows_none : (o : Option Port) → shows_on [] o ≡ false
shows_none None = refl
shows_none (Some p) = one_of_none p.ranges

nothing_noted : (n : Node) (ps : List PortFrame) → AreCurrentBut false [] n ps → map (λ p. with_found p None) ps ≡ map (port_after n) ps
nothing_noted n [] current = refl
nothing_noted n (p ∷ ps) current = λ i. stays_current p (node_frame p.port n) (current.0 (shows_none (port_of p.port n.ports))) i ∷ nothing_noted n ps current.1 i

pub nothing_new : (all : Bool) (us : List ℕ) (n : Node) (ps : List PortFrame) → all ≡ false → us ≡ [] → AreCurrentBut all us n ps → map (λ p. with_found p None) ps ≡ map (port_after n) ps
nothing_new all us n ps none empty current =
    nothing_noted n ps (subst (λ us. AreCurrentBut false us n ps) empty (subst (λ all. AreCurrentBut all us n ps) none current))

-- ---- news that are forgotten

-- none of these ports has a new frame, and they are ports of which that was forgotten
pub none_new : (ps : List PortFrame) → news_in ps ≡ false → ps ≡ map (λ p. with_found p None) ps
none_new [] none = refl
none_new (p ∷ ps) none =
    let parts = neither p.is_new (news_in ps) none in
    λ i. (let q : PortFrame = record { port = p.port; last = p.last; is_new = parts.0 i } in q) ∷ none_new ps parts.1 i

pub forgotten : (ps : List PortFrame) → news_in (map (λ p. with_found p None) ps) ≡ false
forgotten [] = refl
forgotten (p ∷ ps) = forgotten ps
