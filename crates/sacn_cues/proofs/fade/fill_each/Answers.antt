use Rattle.std.proofs.Common.{ℕ, ◌+◌, ◌*◌, ◌/◌, ◌<◌, length, get_or, ◌∙◌, arith}
use Rattle.sacn_cues.specs.declared.limits.TheConstants.{FULL}
use Rattle.sacn_cues.specs.Levels.{Ramp, level_in, still}
use Rattle.sacn_cues.proofs.Octets.{before_put, length_put, put_filled}
use Rattle.sacn_cues.proofs.Movers.{level_there}
use Rattle.sacn_cues.proofs.fade.fill_each.Goals as goal

pub loop-at-preserved : goal.loop-at-preserved
loop-at-preserved g c =
    let inv = c.loop-at.invariant in
    let at = c.loop-at.at in
    let inside : at < 2048 = omega (arith, c.loop-at-test.true, c.requires.fades) in
    let wide : 2 * at + 3 < length c.loop-at.octets = omega (arith, inside, inv.long) in
    let level : Ramp → ℕ = λ blank. level_in (get_or c.args.fades.now at blank) c.args.now * c.args.master / FULL in
    record {
      long = length_put c.loop-at.octets c.put_one.new.octets at (level still) wide (c.put_one.ensures still) ∙ inv.long;
      before = λ k small. before_put c.loop-at.octets c.put_one.new.octets at (level still) wide (c.put_one.ensures still) k small ∙ inv.before k small;
      filled = λ i blank lt. put_filled c.loop-at.octets c.put_one.new.octets at (level blank) wide (c.put_one.ensures blank) i _
          (λ same. level_there c.args.fades.now c.args.now c.args.master i at blank same)
          (λ apart. let earlier : i < at = omega (arith, lt, apart) in inv.filled i blank earlier);
    }
