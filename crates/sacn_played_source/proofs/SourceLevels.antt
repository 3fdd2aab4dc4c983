-- What orders and packets make of the levels that a source has for a universe.
use Rattle.std.proofs.Common.{◌≡◌, ℕ, ◌-◌, ◌<◌, ◌≤◌, ◌++◌, ◌==◌, Bool, true, false, cond, nat_lt, nat_eq, List, [], ◌∷◌, length, map, find, replicate, Option, Some, None, Ok, refl, arith, ap, sym, ◌∙◌}
use Rattle.std.specs.Option.{option_map}
use Rattle.std.proofs.lemmas.Bool.Decides.{nat_tests}
use Rattle.std.proofs.lemmas.List.{append-nil}
use Rattle.sacn_console.specs.Lines.{Datagram, Packet, Paged, line_sent}
use Rattle.sacn_source.specs.declared.source_universe.SourceUniverse.{SourceUniverse}
use Rattle.sacn_source.specs.declared.fault.SourceFault.TheVariants as fault
use Rattle.sacn_source.specs.Rows.{row_showing, row_sent, row_ended, slots_of}
use Rattle.sacn_source.specs.Table.{is_of, on, answer, for_row, unless, taken, SetLevels, EndAll}
use Rattle.sacn_source.specs.Source.{Source, due, at, given, sent, after_poll, after_order}
use Rattle.sacn_played_source.specs.Laws.{levels_on}

abbrev pub levels_in : ℕ → List SourceUniverse → Option (List ℕ)
levels_in u rows = option_map (λ (r : SourceUniverse). r.levels) (find (is_of u) rows)

abbrev levels_of : Option SourceUniverse → Option (List ℕ)
levels_of o = option_map (λ (r : SourceUniverse). r.levels) o

not_of : (a u v : ℕ) → (a == v) ≡ true → (v == u) ≡ false → (a == u) ≡ false
not_of a u v e f = grind (arith, nat_tests)

past : (b : Bool) (x y : SourceUniverse) (o p : Option SourceUniverse) → x.levels ≡ y.levels → levels_of o ≡ levels_of p → levels_of (cond b (Some x) o) ≡ levels_of (cond b (Some y) p)
past true x y o p e h = ap (λ (l : List ℕ). Some l) e
past false x y o p e h = h

-- ---- rows that keep their universes and levels

pub kept_in : (f : SourceUniverse → SourceUniverse) → ((r : SourceUniverse) → (f r).line.universe ≡ r.line.universe) → ((r : SourceUniverse) → (f r).levels ≡ r.levels)
    → (u : ℕ) (rows : List SourceUniverse) → levels_in u (map f rows) ≡ levels_in u rows
kept_in f same_universe same_levels u [] = refl
kept_in f same_universe same_levels u (r ∷ rs) =
    ap (λ (a : ℕ). levels_of (cond (a == u) (Some (f r)) (find (is_of u) (map f rs)))) (same_universe r)
    ∙ past (r.line.universe == u) (f r) r (find (is_of u) (map f rs)) (find (is_of u) rs) (same_levels r) (kept_in f same_universe same_levels u rs)

on_universe : (v t : ℕ) (r : SourceUniverse) → (on v (row_sent t) r).line.universe ≡ r.line.universe
unfolding row_sent line_sent
on_universe v t r = by (r.line.universe == v)
  where
    by : (b : Bool) → (cond b (row_sent t r) r).line.universe ≡ r.line.universe
    by true = refl
    by false = refl

on_levels : (v t : ℕ) (r : SourceUniverse) → (on v (row_sent t) r).levels ≡ r.levels
unfolding row_sent line_sent
on_levels v t r = by (r.line.universe == v)
  where
    by : (b : Bool) → (cond b (row_sent t r) r).levels ≡ r.levels
    by true = refl
    by false = refl

given_kept : (u t : ℕ) (d : Option Datagram) (c : Source) → levels_on u (given d c) ≡ levels_on u c
unfolding sent
given_kept u t None c = refl
given_kept u t (Some (Packet d)) c = kept_in (on d.universe (row_sent c.moment)) (on_universe d.universe c.moment) (on_levels d.universe c.moment) u c.table.rows
given_kept u t (Some (Paged p)) c = refl

-- a poll changes no levels
pub polled : (u now : ℕ) (c : Source) → levels_on u (after_poll now c) ≡ levels_on u c
polled u now c = given_kept u now (due (at now c)) (at now c)

-- nor does an end
pub ended : (u : ℕ) (c : Source) → levels_on u (after_order EndAll c) ≡ levels_on u c
unfolding answer
ended u c = kept_in row_ended (λ r. refl) (λ r. refl) u c.table.rows

-- ---- levels that are handed in

module _ (s : List ℕ) where
  set_same : (u : ℕ) (rows : List SourceUniverse) (old : List ℕ) → levels_in u rows ≡ Some old → levels_in u (map (on u (row_showing s)) rows) ≡ Some s
  set_same u [] old is = absurd (cc)
  set_same u (r ∷ rs) old is =
      elim (r.line.universe == u) as (λ b. (r.line.universe == u) ≡ b → levels_of (cond b (Some r) (find (is_of u) rs)) ≡ Some old
      → levels_of (cond ((cond b (row_showing s r) r).line.universe == u) (Some (cond b (row_showing s r) r)) (find (is_of u) (map (on u (row_showing s)) rs))) ≡ Some s) [
        | true ↦ λ e h. ap (λ (b : Bool). levels_of (cond b (Some (row_showing s r)) (find (is_of u) (map (on u (row_showing s)) rs)))) e
        | false ↦ λ e h. ap (λ (b : Bool). levels_of (cond b (Some r) (find (is_of u) (map (on u (row_showing s)) rs)))) e ∙ set_same u rs old h
      ] refl is

  set_other : (u v : ℕ) (rows : List SourceUniverse) → (v == u) ≡ false → levels_in u (map (on v (row_showing s)) rows) ≡ levels_in u rows
  set_other u v [] other = refl
  set_other u v (r ∷ rs) other =
      elim (r.line.universe == v) as (λ b. (r.line.universe == v) ≡ b
      → levels_of (cond ((cond b (row_showing s r) r).line.universe == u) (Some (cond b (row_showing s r) r)) (find (is_of u) (map (on v (row_showing s)) rs))) ≡ levels_of (cond (r.line.universe == u) (Some r) (find (is_of u) rs))) [
        | true ↦ λ e.
            let not : (r.line.universe == u) ≡ false = not_of r.line.universe u v e other in
            ap (λ (b : Bool). levels_of (cond b (Some (row_showing s r)) (find (is_of u) (map (on v (row_showing s)) rs)))) not
            ∙ set_other u v rs other
            ∙ sym (ap (λ (b : Bool). levels_of (cond b (Some r) (find (is_of u) rs))) not)
        | false ↦ λ e. past (r.line.universe == u) r r _ _ refl (set_other u v rs other)
      ] refl

fits : (levels : List ℕ) → length levels ≡ 512 → nat_lt 512 (length levels) ≡ false
fits levels is = grind (arith, nat_tests)

no_more : (levels : List ℕ) → length levels ≡ 512 → slots_of levels ≡ levels
unfolding slots_of
no_more levels is = ap (λ (n : ℕ). levels ++ replicate (512 - n) 0) is ∙ append-nil levels

-- of the universe itself
pub set_here : (u : ℕ) (levels : List ℕ) (c : Source) (old : List ℕ) → length levels ≡ 512 → levels_on u c ≡ Some old → levels_on u (after_order (SetLevels u levels) c) ≡ Some levels
unfolding answer
set_here u levels c old long is =
    elim (find (is_of u) c.table.rows) as (λ o. levels_of o ≡ Some old → levels_in u (taken c.first c.sender.priority (SetLevels u levels) (for_row (λ r. unless (nat_lt 512 (length levels)) fault.TooMany) o) c.table).rows ≡ Some levels) [
      | None ↦ λ h. absurd (cc)
      | Some r ↦ λ h.
          ap (λ (b : Bool). levels_in u (taken c.first c.sender.priority (SetLevels u levels) (unless b fault.TooMany) c.table).rows) (fits levels long)
          ∙ set_same (slots_of levels) u c.table.rows old is
          ∙ ap (λ (l : List ℕ). Some l) (no_more levels long)
    ] is

-- and of another one
pub set_elsewhere : (u v : ℕ) (levels : List ℕ) (c : Source) → (v == u) ≡ false → levels_on u (after_order (SetLevels v levels) c) ≡ levels_on u c
unfolding answer
set_elsewhere u v levels c other =
    elim (find (is_of v) c.table.rows) as (λ o. levels_in u (taken c.first c.sender.priority (SetLevels v levels) (for_row (λ r. unless (nat_lt 512 (length levels)) fault.TooMany) o) c.table).rows ≡ levels_in u c.table.rows) [
      | None ↦ refl
      | Some r ↦ by (nat_lt 512 (length levels))
    ]
  where
    by : (b : Bool) → levels_in u (taken c.first c.sender.priority (SetLevels v levels) (unless b fault.TooMany) c.table).rows ≡ levels_in u c.table.rows
    by true = refl
    by false = set_other (slots_of levels) u v c.table.rows other
