use Rattle.std.proofs.Common.{◌≡◌, ◌<◌, ◌≤◌, ◌+◌, ◌^◌, ℕ, arith, rules, subst, sym, inl, inr, IfSome, IfNone}
use Rattle.sacn_slots.specs.SlotTables.{SlotSources}
use Rattle.sacn_slots.specs.SlotWakes.{IsYoung, NothingIsLost, SomethingIsLost}
use Rattle.sacn_slots.proofs.SlotWakes.{nothing, something, never, asleep, first_awake}
use Rattle.sacn_slots.proofs.table.SlotTable.wakes.Goals as goal

pub returns-in_default-clause-never : goal.returns-in_default-clause-never
returns-in_default-clause-never c =
    let s : SlotSources = record { sources = c.self.inside.sources; given = c.self.inside.given.items } in
    let young : IsYoung s.sources.table.moment s.given = subst (λ m. IsYoung m s.given) c.self.invariant.0 c.self.invariant.1 in
    subst (λ (x : SlotSources). IfNone c.wakes-sources.result ((t : ℕ) → t < 2 ^ 64 → NothingIsLost x t)) c.self.view_is
    (never s c.oldest.result c.oldest.ensures young c.wakes-sources.result (omega (arith, c.in_default.ensures)) c.wakes-sources.ensures.never)

pub returns-in_default-clause-asleep : goal.returns-in_default-clause-asleep
returns-in_default-clause-asleep c =
    let s : SlotSources = record { sources = c.self.inside.sources; given = c.self.inside.given.items } in
    let young : IsYoung s.sources.table.moment s.given = subst (λ m. IsYoung m s.given) c.self.invariant.0 c.self.invariant.1 in
    let fits : IfSome c.wakes-sources.result (λ w. w < 2 ^ 64) = search rules in
    subst (λ (x : SlotSources). IfSome c.wakes-sources.result (λ w. (t : ℕ) → t < w → NothingIsLost x t)) c.self.view_is
    (asleep s c.oldest.result c.oldest.ensures young c.wakes-sources.result (omega (arith, c.in_default.ensures)) fits c.wakes-sources.ensures.asleep)

pub returns-in-Some-sources-clause-asleep : goal.returns-in-Some-sources-clause-asleep
returns-in-Some-sources-clause-asleep c = λ t lt.
    let s : SlotSources = record { sources = c.self.inside.sources; given = c.self.inside.given.items } in
    let young : IsYoung s.sources.table.moment s.given = subst (λ m. IsYoung m s.given) c.self.invariant.0 c.self.invariant.1 in
    subst (λ (x : SlotSources). NothingIsLost x t) c.self.view_is
    (nothing s c.oldest.result c.oldest.ensures young t (c.in-Some-sources.ensures.asleep t (omega (arith, lt, c.min.ensures))) (omega (arith, lt, c.min.ensures, c.in-Some.ensures)))

pub returns-in-Some-sources-clause-awake : goal.returns-in-Some-sources-clause-awake
returns-in-Some-sources-clause-awake c =
    let s : SlotSources = record { sources = c.self.inside.sources; given = c.self.inside.given.items } in
    let young : IsYoung s.sources.table.moment s.given = subst (λ m. IsYoung m s.given) c.self.invariant.0 c.self.invariant.1 in
    subst (λ (x : SlotSources). SomethingIsLost x c.min.result) c.self.view_is
    (subst (SomethingIsLost s) (sym c.min.ensures) (first_awake s c.oldest.result c.oldest.ensures young c.in-Some-sources.source c.in-Some.given (omega (arith, c.in-Some.ensures)) (omega (arith, c.in-Some.ensures)) c.in-Some-sources.ensures.awake))

pub returns-in-None-clause-asleep : goal.returns-in-None-clause-asleep
returns-in-None-clause-asleep c = λ t lt.
    let s : SlotSources = record { sources = c.self.inside.sources; given = c.self.inside.given.items } in
    let young : IsYoung s.sources.table.moment s.given = subst (λ m. IsYoung m s.given) c.self.invariant.0 c.self.invariant.1 in
    subst (λ (x : SlotSources). NothingIsLost x t) c.self.view_is
    (nothing s c.oldest.result c.oldest.ensures young t (c.in-None.ensures.never t (omega (arith, lt, c.in-Some.ensures))) (omega (arith, lt, c.in-Some.ensures)))

pub returns-in-None-clause-awake : goal.returns-in-None-clause-awake
returns-in-None-clause-awake c =
    let s : SlotSources = record { sources = c.self.inside.sources; given = c.self.inside.given.items } in
    let young : IsYoung s.sources.table.moment s.given = subst (λ m. IsYoung m s.given) c.self.invariant.0 c.self.invariant.1 in
    subst (λ (x : SlotSources). SomethingIsLost x c.in-Some.given) c.self.view_is
    (something s c.oldest.result c.oldest.ensures young c.in-Some.given (omega (arith, c.in-Some.ensures)) (omega (arith, c.in-Some.ensures)))
