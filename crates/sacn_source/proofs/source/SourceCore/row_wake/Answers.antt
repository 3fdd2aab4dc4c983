use Rattle.std.proofs.Common.{refl}
use Rattle.sacn_source.proofs.Waking.{rows_quiet, rows_exact, rows_ahead, rows_now, none_before, none_from, some_from, found_none}
use Rattle.sacn_source.proofs.source.SourceCore.row_wake.Goals as goal

pub returns-then-rests_at-clause-quiet : goal.returns-then-rests_at-clause-quiet
returns-then-rests_at-clause-quiet c = λ t before.
    let none = found_none c.args.self.now (none_before _ c.args.self.now _ c.rests_at.result c.self.view_is c.self.invariant.1 c.rests_at.ensures c.if-rests_at.true) in
    rows_quiet c.args.self.now c.args.self.now c.least_wake.result t refl none c.least_wake.ensures.first before

pub returns-then-rests_at-clause-ahead : goal.returns-then-rests_at-clause-ahead
returns-then-rests_at-clause-ahead c = λ some.
    let none = found_none c.args.self.now (none_before _ c.args.self.now _ c.rests_at.result c.self.view_is c.self.invariant.1 c.rests_at.ensures c.if-rests_at.true) in
    rows_ahead c.args.self.now c.args.self.now c.least_wake.result refl none c.least_wake.ensures.reached

pub returns-then-rests_at-clause-exact : goal.returns-then-rests_at-clause-exact
returns-then-rests_at-clause-exact c = λ before.
    let none = found_none c.args.self.now (none_before _ c.args.self.now _ c.rests_at.result c.self.view_is c.self.invariant.1 c.rests_at.ensures c.if-rests_at.true) in
    rows_exact c.args.self.now c.args.self.now c.least_wake.result refl none c.least_wake.ensures.reached before

pub returns-in-None-clause-quiet : goal.returns-in-None-clause-quiet
returns-in-None-clause-quiet c = λ t before.
    rows_quiet _ c.args.self.now c.first_wake.result t c.self.view_is (none_from _ _ c.self.invariant.1 c.in-None.ensures) c.first_wake.ensures.first before

pub returns-in-None-clause-ahead : goal.returns-in-None-clause-ahead
returns-in-None-clause-ahead c = λ some.
    rows_ahead _ c.args.self.now c.first_wake.result c.self.view_is (none_from _ _ c.self.invariant.1 c.in-None.ensures) c.first_wake.ensures.reached

pub returns-in-None-clause-exact : goal.returns-in-None-clause-exact
returns-in-None-clause-exact c = λ before.
    rows_exact _ c.args.self.now c.first_wake.result c.self.view_is (none_from _ _ c.self.invariant.1 c.in-None.ensures) c.first_wake.ensures.reached before

pub returns-in-Some-clause-exact : goal.returns-in-Some-clause-exact
returns-in-Some-clause-exact c = λ before. rows_now _ c.args.self.now _ c.self.view_is (some_from _ _ _ c.self.invariant.1 c.in-Some.ensures.1)
