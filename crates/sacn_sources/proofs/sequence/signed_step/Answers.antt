-- The step is the one of the definition.
use Rattle.std.proofs.Common.{◌≡◌, to_z, of_z, w8, arith, sym, subst}
use Rattle.std.proofs.lemmas.Int.{ints}
use Rattle.sacn_sources.specs.Sequence.{IsStep, step}
use Rattle.sacn_sources.proofs.Steps.{step_is}
use Rattle.sacn_sources.proofs.sequence.signed_step.Goals as goal

pub returns-clause-congruent : goal.returns-clause-congruent
returns-clause-congruent c =
    let same : to_z w8 (of_z w8 c.cast_signed.result) ≡ step c.args.a c.args.b = grind (arith, ints) in
    subst (IsStep c.args.a c.args.b) (sym same) (step_is c.args.a c.args.b c.ranges.a.fits c.ranges.b.fits)
