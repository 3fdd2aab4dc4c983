use Rattle.std.proofs.Common.{ℕ, ◌+◌, ◌*◌, ◌/◌, ◌<◌, length, get_or, refl, ap, ◌∙◌, arith}
use Rattle.std.proofs.lemmas.List.{length-set}
use Rattle.sacn_cues.specs.declared.limits.TheConstants.{FULL}
use Rattle.sacn_cues.specs.Levels.{Ramp, level_in, still}
use Rattle.sacn_cues.proofs.Octets.{length_put, before_put}
use Rattle.sacn_cues.proofs.Movers.{more_channels, one_filled, one_settled, channels_behind, absent_behind, level_there, level_then}
use Rattle.sacn_cues.proofs.fade.fill_listed.Goals as goal

pub loop-place-preserved : goal.loop-place-preserved
loop-place-preserved g c =
    let inv = c.loop-place.invariant in
    let step = c.fill_one-kept.ensures in
    let list = c.loop-place.moving in
    let after = c.fill_one-kept.new.moving in
    let kept = c.loop-place.kept in
    let place = c.loop-place.place in
    let count = c.args.count in
    let n = c.fill_one-kept.result in
    let at : ℕ = get_or list place 0 in
    let lt : place < count = c.loop-place-test.true in
    let inside : at < 2048 = inv.rest place (omega arith) lt in
    let room : kept < length list = omega (arith, c.requires.listed.0, inv.room, inv.few, lt) in
    let wide : 2 * at + 3 < length c.loop-place.octets = omega (arith, inside, inv.long) in
    let level : Ramp → ℕ = λ blank. level_in (get_or c.args.fades.now at blank) c.args.now * c.args.master / FULL in
    record {
      long = length_put c.loop-place.octets c.fill_one-kept.new.octets at (level still) wide (step.octets still) ∙ inv.long;
      before = λ k small. before_put c.loop-place.octets c.fill_one-kept.new.octets at (level still) wide (step.octets still) k small ∙ inv.before k small;
      room = ap length step.list ∙ length-set list kept at ∙ inv.room;
      few = omega (arith, step.most, inv.few);
      first = more_channels list after kept n at room step.list step.least step.most inside inv.first;
      rest = channels_behind list after kept place count at inv.few lt refl step.list inv.rest;
      filled = λ i blank within none. one_filled list after kept n at room step.list step.least step.most c.loop-place.octets c.fill_one-kept.new.octets (level blank) wide (step.octets blank) i _
          (λ same. level_there c.args.fades.now c.args.now c.args.master i at blank same)
          (λ apart. inv.filled i blank within (absent_behind list after kept place count at inv.few lt refl step.list i apart none));
      settled = λ i within first rest later blank le. one_settled list after kept n at room step.list step.least step.most c.loop-place.octets c.fill_one-kept.new.octets (level blank) wide (step.octets blank) i _
          (λ same over. level_then c.args.fades.now c.args.now c.args.master i at blank same later le (step.over blank over))
          (λ apart none. inv.settled i within none (absent_behind list after kept place count at inv.few lt refl step.list i apart rest) later blank le)
          first;
    }
