use Rattle.std.proofs.Common.{ℕ, ◌+◌, ◌*◌, ◌/◌, ◌<◌, length, get_or, ap, ◌∙◌, arith}
use Rattle.std.proofs.lemmas.List.{length-set}
use Rattle.sacn_cues.specs.declared.limits.TheConstants.{FULL}
use Rattle.sacn_cues.specs.Levels.{Ramp, level_in, still}
use Rattle.sacn_cues.proofs.Octets.{length_put, before_put}
use Rattle.sacn_cues.proofs.Movers.{more_channels, one_filled, one_settled, level_there, level_then}
use Rattle.sacn_cues.proofs.fade.fill_all.Goals as goal

pub loop-at-preserved : goal.loop-at-preserved
loop-at-preserved g c =
    let inv = c.loop-at.invariant in
    let step = c.fill_one-kept.ensures in
    let list = c.loop-at.moving in
    let after = c.fill_one-kept.new.moving in
    let kept = c.loop-at.kept in
    let at = c.loop-at.at in
    let n = c.fill_one-kept.result in
    let inside : at < 2048 = omega (arith, c.loop-at-test.true, c.requires.fades) in
    let room : kept < length list = omega (arith, inv.room, inv.few, inside) in
    let wide : 2 * at + 3 < length c.loop-at.octets = omega (arith, inside, inv.long) in
    let level : Ramp → ℕ = λ blank. level_in (get_or c.args.fades.now at blank) c.args.now * c.args.master / FULL in
    record {
      long = length_put c.loop-at.octets c.fill_one-kept.new.octets at (level still) wide (step.octets still) ∙ inv.long;
      before = λ k small. before_put c.loop-at.octets c.fill_one-kept.new.octets at (level still) wide (step.octets still) k small ∙ inv.before k small;
      room = ap length step.list ∙ length-set list kept at ∙ inv.room;
      few = omega (arith, step.most, inv.few);
      first = more_channels list after kept n at room step.list step.least step.most inside inv.first;
      filled = λ i blank lt. one_filled list after kept n at room step.list step.least step.most c.loop-at.octets c.fill_one-kept.new.octets (level blank) wide (step.octets blank) i _
          (λ same. level_there c.args.fades.now c.args.now c.args.master i at blank same)
          (λ apart. let earlier : i < at = omega (arith, lt, apart) in inv.filled i blank earlier);
      settled = λ i lt first later blank le. one_settled list after kept n at room step.list step.least step.most c.loop-at.octets c.fill_one-kept.new.octets (level blank) wide (step.octets blank) i _
          (λ same over. level_then c.args.fades.now c.args.now c.args.master i at blank same later le (step.over blank over))
          (λ apart none. let earlier : i < at = omega (arith, lt, apart) in inv.settled i earlier none later blank le)
          first;
    }
