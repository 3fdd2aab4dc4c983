-- Each event of a console keeps what holds of consoles.
use Rattle.std.proofs.Common.{◌≡◌, ℕ, suc, ◌+◌, ◌%◌, ◌<◌, ◌≤◌, Bool, true, false, cond, List, [], ◌∷◌, ◌++◌, map, length, Some, None, Result, Ok, Err, refl, sym, ap, subst, ◌∙◌, inl, inr, arith}
use Rattle.std.specs.Prelude.{count_by, ◌==◌, ◌&&◌, if◌then◌else◌}
use Rattle.std.specs.List.{AllByRecursion}
use Rattle.std.proofs.lemmas.Bool.{cases_Bool, and_from, eqb-true, eq-eqb, ne_eqb}
use Rattle.sacn_packets.specs.Data.{Data}
use Rattle.sacn_sources.specs.Order.{same}
use Rattle.sacn_console.specs.Shows.{ShowContent}
use Rattle.sacn_console.specs.declared.line.UniverseLine.{UniverseLine}
use Rattle.sacn_console.specs.declared.line.State.TheVariants.{Running, Ending}
use Rattle.sacn_console.specs.declared.limits.TheConstants.{TERMINATIONS}
use Rattle.sacn_console.specs.declared.command.Command.{Command}
use Rattle.sacn_console.specs.declared.command.Command.TheVariants.{Go, GoTo, SetLevel, Master, EndUniverse, StartUniverse}
use Rattle.sacn_console.specs.declared.command.ConsoleFault.{ConsoleFault}
use Rattle.sacn_console.specs.Runs.{core_by, line_by}
use Rattle.sacn_console.specs.Lines as line
use Rattle.sacn_console.specs.Core as console
use Rattle.sacn_world.specs.Streams.{Sent, is_of, stream_of, life_at}
use Rattle.sacn_world.specs.declared.console.Console.{Console}
use Rattle.sacn_world.specs.Worlds.{sent_by, with_core, polled, new_life, new_console, is_of_life, LineOk, ConsoleOk}
use Rattle.sacn_world.proofs.All.{all_weaker, all_map}
use Rattle.sacn_world.proofs.Sources.{same_source, same-itself}
use Rattle.sacn_world.proofs.Sending.{count_here, latest_push, begun_push}
use Rattle.sacn_world.proofs.Polls.{count_filter}

-- ---- orders

abbrev Alike : UniverseLine → UniverseLine → Type 0
Alike a b = (a.sequence_number ≡ b.sequence_number) × (a.universe ≡ b.universe)

told_alike : (k : Command) (l : UniverseLine) → Alike (line.line_told k l) l
told_alike Go l = (refl, refl)
told_alike (GoTo n) l = (refl, refl)
told_alike (SetLevel c n) l = (refl, refl)
told_alike (Master n) l = (refl, refl)
told_alike (EndUniverse u) l =
    elim (l.universe == u) as (λ b. Alike (if b then line.line_in (Ending TERMINATIONS) l else l) l) [ true ↦ (refl, refl) | false ↦ (refl, refl) ]
told_alike (StartUniverse u) l =
    elim (l.universe == u) as (λ b. Alike (if b then line.line_in (Running None) l else l) l) [ true ↦ (refl, refl) | false ↦ (refl, refl) ]

line_told_ok : (sent : List Sent) (c : Console) (t : ℕ) (k : Command) (l : UniverseLine) → LineOk sent c l → LineOk sent c (line.line_after (line.Accepted t k) l)
unfolding line.line_after
line_told_ok sent c t k l ok =
    let a = told_alike k l in
    a.0 ∙ ok ∙ ap (λ u. (c.first + count_by (is_of_life c.show.cid u c.life) sent) % 256) (sym a.1)

taken_ok : (sent : List Sent) (c : Console) (k : Command) (r : Result (Unit {0}) ConsoleFault) (core : console.Core) → core.sender.cid ≡ c.show.cid → AllByRecursion (LineOk sent c) core.lines → ((console.taken k r core).sender.cid ≡ c.show.cid) × AllByRecursion (LineOk sent c) (console.taken k r core).lines
unfolding console.after
taken_ok sent c k (Ok x) core s all =
    (s, all_map (LineOk sent c) (line.line_after (line.Accepted core.moment k)) core.lines (all_weaker (LineOk sent c) _ (line_told_ok sent c core.moment k) core.lines all))
taken_ok sent c k (Err e) core s all = (s, all)

-- the same console but for its core
recored : (sent : List Sent) (c : Console) (core : console.Core) → ConsoleOk sent c → core.sender.cid ≡ c.show.cid → AllByRecursion (LineOk sent c) core.lines → ConsoleOk sent (with_core c core)
recored sent c core ok s all = record { latest = ok.latest; begun = ok.begun; sender = s; lines = all }

pub ordered_ok : (sent : List Sent) (c : Console) (m : ℕ) (k : Command) → ConsoleOk sent c → ConsoleOk sent (with_core c (console.after_command m k c.core))
ordered_ok sent c m k ok =
    let t = taken_ok sent c k (console.answer k (console.at m c.core)) (console.at m c.core) ok.sender ok.lines in
    recored sent c (console.after_command m k c.core) ok t.0 t.1

-- ---- polls

pub idle_ok : (sent : List Sent) (c : Console) (m : ℕ) → console.due (console.at m c.core) ≡ None → ConsoleOk sent c → ConsoleOk sent (polled m c)
idle_ok sent c m e ok =
    let f : console.after_poll m c.core ≡ console.at m c.core = ap (λ o. console.given o (console.at m c.core)) e in
    subst (λ (core : console.Core). ConsoleOk sent (with_core c core)) (sym f) (recored sent c (console.at m c.core) ok ok.sender ok.lines)

pub count_push : {X : Type 0} (p : X → Bool) (xs : List X) (x : X) (b : Bool) → p x ≡ b → count_by p (xs ++ x ∷ []) ≡ count_by p xs + cond b 1 0
count_push p [] x b e = count_here p x [] b e ∙ omega arith
count_push p (y ∷ ys) x b e =
    let a = count_here p y (ys ++ x ∷ []) (p y) refl in
    let f = count_here p y ys (p y) refl in
    let r = count_push p ys x b e in
    omega (arith, a, f, r)

-- a datagram of another source, or a page, counts nowhere
stays_ok : (sent : List Sent) (x : Sent) (c : Console) (l : UniverseLine) → is_of_life c.show.cid l.universe c.life x ≡ false → LineOk sent c l → LineOk (sent ++ x ∷ []) c l
stays_ok sent x c l apart ok =
    ok ∙ ap (λ n. (c.first + n) % 256) (omega (arith, count_push (is_of_life c.show.cid l.universe c.life) sent x false apart))

not_of : (a b : Bool) → a ≡ false → (a && b) ≡ false
not_of true b e = cc
not_of false b e = refl

never_on : (a b : Bool) → b ≡ false → (a && b) ≡ false
never_on true b e = e
never_on false b e = refl

pub other_ok : (sent : List Sent) (x : Sent) (c : Console) → (c.show.cid ≡ x.source → ⊥) → ConsoleOk sent c → ConsoleOk (sent ++ x ∷ []) c
other_ok sent x c ne ok =
    let apart : same c.show.cid x.source ≡ false = elim (cases_Bool (same c.show.cid x.source)) [
      | inl pass ↦ absurd (ne (same_source _ _ pass))
      | inr fail ↦ fail
    ] in
    record {
      latest = latest_push sent x c.show.cid c.life (λ e. absurd (ne e)) ok.latest;
      begun = begun_push sent x c.show.cid c.life c.first (λ e. absurd (ne e)) ok.begun;
      sender = ok.sender;
      lines = all_weaker (LineOk sent c) _ (λ l is. stays_ok sent x c l (not_of _ _ (not_of _ _ apart)) is) c.core.lines ok.lines;
    }

module _ (sent : List Sent) (c : Console) (d : Data) (t : ℕ) where
  abbrev own : Sent
  own = sent_by c (line.Packet d)

  sent_line : (l : UniverseLine) → LineOk sent c l → LineOk (sent ++ own ∷ []) c (line.line_after (line.Gave t (line.Packet d)) l)
  unfolding line.line_after line.line_sent
  sent_line l ok =
      elim (l.universe == d.universe) as (λ b. (l.universe == d.universe) ≡ b → LineOk (sent ++ own ∷ []) c (if b then line.line_sent t d.slots l else l)) [
        | true ↦ λ e.
            let is : is_of_life c.show.cid l.universe c.life own ≡ true = and_from _ _ (and_from _ _ (same-itself c.show.cid) (eq-eqb _ _ (sym (eqb-true _ _ e)))) (eq-eqb c.life c.life refl) in
            let n = count_push (is_of_life c.show.cid l.universe c.life) sent own true is in
            let k = ok in
            omega (arith, n, k)
        | false ↦ λ e.
            let no : (d.universe == l.universe) ≡ false = ne_eqb _ _ (λ f. absurd (let g = eq-eqb _ _ (sym f) in cc)) in
            stays_ok sent own c l (not_of _ _ (never_on _ _ no)) ok
      ] refl

paged_line : (sent : List Sent) (c : Console) (p : line.Page) (t : ℕ) (l : UniverseLine) → LineOk sent c l → LineOk (sent ++ sent_by c (line.Paged p) ∷ []) c (line.line_after (line.Gave t (line.Paged p)) l)
unfolding line.line_after
paged_line sent c p t l ok = stays_ok sent (sent_by c (line.Paged p)) c l (not_of _ _ (never_on _ _ refl)) ok

gave_line : (sent : List Sent) (c : Console) (d : line.Datagram) (t : ℕ) (l : UniverseLine) → LineOk sent c l → LineOk (sent ++ sent_by c d ∷ []) c (line.line_after (line.Gave t d) l)
gave_line sent c (line.Packet d) t l ok = sent_line sent c d t l ok
gave_line sent c (line.Paged p) t l ok = paged_line sent c p t l ok

pub polled_ok : (sent : List Sent) (c : Console) (m : ℕ) (d : line.Datagram) → console.due (console.at m c.core) ≡ Some d → ConsoleOk sent c → ConsoleOk (sent ++ sent_by c d ∷ []) (polled m c)
unfolding console.after
polled_ok sent c m d e ok =
    let x = sent_by c d in
    let core = console.at m c.core in
    let f : console.after_poll m c.core ≡ console.after (line.Gave core.moment d) core = ap (λ o. console.given o core) e in
    subst (λ (k : console.Core). ConsoleOk (sent ++ x ∷ []) (with_core c k)) (sym f) (record {
      latest = latest_push sent x c.show.cid c.life (λ e. refl) ok.latest;
      begun = begun_push sent x c.show.cid c.life c.first (λ e. refl) ok.begun;
      sender = ok.sender;
      lines = all_map (LineOk (sent ++ x ∷ []) c) (line.line_after (line.Gave core.moment d)) c.core.lines (all_weaker (LineOk sent c) _ (gave_line sent c d core.moment) c.core.lines ok.lines);
    })

-- ---- a life begins

none_of_life : (st : List Sent) (n : ℕ) → ((p : ℕ) → p < length st → life_at st p ≤ n) → count_by (λ y. y.life == n + 1) st ≡ 0
none_of_life [] n all = refl
none_of_life (x ∷ st) n all =
    let first = all 0 (omega arith) in
    let no : (x.life == n + 1) ≡ false = ne_eqb _ _ (λ e. absurd (omega (arith, first, e))) in
    let c = count_here (λ (y : Sent). y.life == n + 1) x st false no in
    let r = none_of_life st n (λ p lt. all (suc p) (omega (arith, lt))) in
    omega (arith, c, r)

none_yet : (sent : List Sent) (s : List ℕ) (u n : ℕ) → ((p : ℕ) → p < length (stream_of s u sent) → life_at (stream_of s u sent) p ≤ n) → count_by (is_of_life s u (n + 1)) sent ≡ 0
unfolding stream_of
none_yet sent s u n all = sym (count_filter (λ y. y.life == n + 1) (is_of s u) sent) ∙ none_of_life (stream_of s u sent) n all

new_lines : (sent : List Sent) (c : Console) (us : List ℕ) → ((u : ℕ) → count_by (is_of_life c.show.cid u c.life) sent ≡ 0) → AllByRecursion (LineOk sent c) (map (line_by c.first []) us)
new_lines sent c [] none = tt
new_lines sent c (u ∷ us) none = (ap (λ n. (c.first + n) % 256) (sym (none u)), new_lines sent c us none)

pub restarted_ok : (sent : List Sent) (c : Console) (first : ℕ) → ConsoleOk sent c → ConsoleOk sent (new_life c.show (c.life + 1) first)
unfolding core_by
restarted_ok sent c first ok = record {
  latest = λ u p lt. let o = ok.latest u p lt in omega (arith, o);
  begun = λ u p lt e. absurd (let o = ok.latest u p lt in omega (arith, o, e));
  sender = refl;
  lines = new_lines sent (new_life c.show (c.life + 1) first) c.show.universes (λ u. none_yet sent c.show.cid u c.life (ok.latest u));
}

none_below : (st : List Sent) (p : ℕ) → st ≡ [] → p < length st → ⊥
none_below [] p e lt = omega arith
none_below (x ∷ st) p e lt = cc

pub empty_streams : (s : List ℕ) (u : ℕ) → stream_of s u [] ≡ []
unfolding stream_of
empty_streams s u = refl

pub new_ok : (s : ShowContent × ℕ) → ConsoleOk [] (new_console s)
unfolding core_by
new_ok s = record {
  latest = λ u p lt. absurd (none_below _ p (empty_streams s.0.cid u) lt);
  begun = λ u p lt. absurd (none_below _ p (empty_streams s.0.cid u) lt);
  sender = refl;
  lines = new_lines [] (new_console s) s.0.universes (λ u. refl);
}
