-- What each change of a row leaves as it was.
use Rattle.std.proofs.Common.{◌≡◌, ℕ, ◌≤◌, Bool, true, false, ◌==◌, if◌then◌else◌, List, [], ◌∷◌, map, length, length-append, refl, arith, ap, sym, ◌∙◌, Vec, Global}
use Rattle.std.proofs.lemmas.List.{length-replicate, length-map, with_items_is}
use Rattle.std.specs.Vec.{with_items}
use Rattle.sacn_console.specs.Lines.{line_sent}
use Rattle.sacn_console.specs.declared.line.State.{State}
use Rattle.sacn_source.specs.declared.source_universe.SourceUniverse.{SourceUniverse}
use Rattle.sacn_source.specs.Rows.{row_sent, row_in, row_ended, row_showing, row_prior, state_anew, slots_of, dark, new_row}
use Rattle.std.specs.List.{AllByRecursion}
use Rattle.sacn_source.specs.Table.{Table, TableOk, RowOk, universes_of}

pub sent_universe : (t : ℕ) (r : SourceUniverse) → (row_sent t r).line.universe ≡ r.line.universe
unfolding row_sent line_sent
sent_universe t r = refl

pub sent_ok : (t : ℕ) (r : SourceUniverse) → RowOk r → RowOk (row_sent t r)
unfolding row_sent line_sent
sent_ok t r ok = record { universe = ok.universe; levels = ok.levels; priority = ok.priority }

pub in_ok : (s : State) (r : SourceUniverse) → RowOk r → RowOk (row_in s r)
in_ok s r ok = record { universe = ok.universe; levels = ok.levels; priority = ok.priority }

pub slots_len : (levels : List ℕ) → length levels ≤ 512 → length (slots_of levels) ≡ 512
unfolding slots_of
slots_len levels le = rw (length-append, length-replicate) (omega (arith, le))

pub showing_ok : (levels : List ℕ) (r : SourceUniverse) → length levels ≤ 512 → RowOk r → RowOk (row_showing (slots_of levels) r)
showing_ok levels r le ok = record { universe = ok.universe; levels = slots_len levels le; priority = ok.priority }

prior_by : (p : ℕ) (r : SourceUniverse) (b : Bool) → p ≤ 200 → RowOk r → RowOk (if b then r else record { line = record { universe = r.line.universe; state = state_anew r.line.state; sequence_number = r.line.sequence_number; last = r.line.last }; levels = r.levels; priority = p })
prior_by p r true le ok = ok
prior_by p r false le ok = record { universe = ok.universe; levels = ok.levels; priority = le }

pub prior_ok : (p : ℕ) (r : SourceUniverse) → p ≤ 200 → RowOk r → RowOk (row_prior p r)
unfolding row_prior
prior_ok p r le ok = prior_by p r (r.priority == p) le ok

prior_same : (p : ℕ) (r : SourceUniverse) (b : Bool) → (let x : SourceUniverse = if b then r else record { line = record { universe = r.line.universe; state = state_anew r.line.state; sequence_number = r.line.sequence_number; last = r.line.last }; levels = r.levels; priority = p } in x.line.universe) ≡ r.line.universe
prior_same p r true = refl
prior_same p r false = refl

pub prior_universe : (p : ℕ) (r : SourceUniverse) → (row_prior p r).line.universe ≡ r.line.universe
unfolding row_prior
prior_universe p r = prior_same p r (r.priority == p)

pub dark_len : length dark ≡ 512
unfolding dark
dark_len = length-replicate {A = ℕ} 512 0

pub new_ok : (first p u : ℕ) (n : SourceUniverse) → n ≡ new_row first p u → (1 ≤ u) × (u ≤ 63999) → p ≤ 200 → RowOk n
new_ok first p u n e range le = rw e (record { universe = range; levels = dark_len; priority = le })

ended_all : (rs : List SourceUniverse) → AllByRecursion RowOk rs → AllByRecursion RowOk (map row_ended rs)
ended_all [] all = tt
ended_all (r ∷ rs) all = (in_ok _ r all.0, ended_all rs all.1)

ended_universes : (rs : List SourceUniverse) → universes_of (map row_ended rs) ≡ universes_of rs
ended_universes [] = refl
ended_universes (r ∷ rs) = ap (λ (us : List ℕ). r.line.universe ∷ us) (ended_universes rs)

pub ok_ended : (v : Table) (rows : List SourceUniverse) → TableOk v → rows ≡ map row_ended v.rows → TableOk (record v { rows = rows })
ok_ended v rows ok e = rw e (record {
  rising = rw (ended_universes v.rows) ok.rising;
  all = ended_all v.rows ok.all;
  few = rw length-map ok.few;
  room = ok.room;
})

-- what a vector holds whose rows were ended where they lie
pub ended_long : (rows : Vec SourceUniverse Global) (lent new : List SourceUniverse) → lent ≡ rows.items → new ≡ map row_ended lent → (with_items rows new).items ≡ map row_ended rows.items
ended_long rows lent new e is =
    let same : new ≡ map row_ended rows.items = is ∙ ap (map row_ended) e in
    with_items_is rows new (ap length same ∙ length-map rows.items row_ended ∙ sym rows.ok.0) ∙ same
