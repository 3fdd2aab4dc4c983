-- The universes that are not stopped rise.
use Rattle.std.proofs.Common.{ℕ, ◌<◌, true, false, not, cond, List, [], ◌∷◌, map, filter}
use Rattle.std.specs.List.{AllByRecursion}
use Rattle.sacn_packets.specs.Universe.{Rising}
use Rattle.sacn_console.specs.Lines.{is_stopped}
use Rattle.sacn_source.specs.declared.source_universe.SourceUniverse.{SourceUniverse}
use Rattle.sacn_source.specs.Table.{universes_of, standing}

kept_above : (u : ℕ) (xs : List SourceUniverse) → AllByRecursion (λ y. u < y) (universes_of xs) → AllByRecursion (λ y. u < y) (map (λ r. r.line.universe) (filter (λ r. not (is_stopped r.line.state)) xs))
kept_above u [] below = tt
kept_above u (x ∷ xs) below =
    elim (is_stopped x.line.state) as (λ b. AllByRecursion (λ y. u < y) (map (λ r. r.line.universe) (cond (not b) (x ∷ filter (λ r. not (is_stopped r.line.state)) xs) (filter (λ r. not (is_stopped r.line.state)) xs)))) [
      | true ↦ kept_above u xs below.1
      | false ↦ (below.0, kept_above u xs below.1)
    ]

pub standing_rises : (xs : List SourceUniverse) → Rising (universes_of xs) → Rising (standing xs)
unfolding standing
standing_rises [] rising = tt
standing_rises (x ∷ xs) rising =
    elim (is_stopped x.line.state) as (λ b. Rising (map (λ r. r.line.universe) (cond (not b) (x ∷ filter (λ r. not (is_stopped r.line.state)) xs) (filter (λ r. not (is_stopped r.line.state)) xs)))) [
      | true ↦ standing_rises xs rising.1
      | false ↦ (kept_above x.line.universe xs rising.0, standing_rises xs rising.1)
    ]
