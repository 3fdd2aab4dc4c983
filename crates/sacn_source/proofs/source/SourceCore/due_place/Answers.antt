use Rattle.std.proofs.Common.{Some, None}
use Rattle.sacn_source.proofs.Waking.{looked_none, none_before, place_from}
use Rattle.sacn_source.proofs.source.SourceCore.due_place.Goals as goal

pub returns-then-rests_at-clause-found : goal.returns-then-rests_at-clause-found
returns-then-rests_at-clause-found c = none_before _ c.args.self.now _ c.rests_at.result c.self.view_is c.self.invariant.1 c.rests_at.ensures c.if-rests_at.true

pub returns-in-Some-clause-found : goal.returns-in-Some-clause-found
returns-in-Some-clause-found c = place_from _ c.args.self.now _ (Some c.in-Some.place) c.self.view_is c.self.invariant.1 c.in-Some.ensures

pub returns-in-None-clause-found : goal.returns-in-None-clause-found
returns-in-None-clause-found c = place_from _ c.args.self.now _ None c.self.view_is c.self.invariant.1 c.in-None.ensures

pub invariant_of-self : goal.invariant_of-self
invariant_of-self c = (c.self.invariant.0, looked_none _ _ _ c.self.invariant.1 c.first_wake-self-inside.ensures.first c.first_wake-self-inside.ensures.reached)
