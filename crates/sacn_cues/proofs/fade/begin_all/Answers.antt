use Rattle.std.proofs.Common.{rules, ◌<◌, length, sym, ap, ◌∙◌, arith}
use Rattle.std.proofs.lemmas.List.{length-set}
use Rattle.sacn_cues.specs.Levels.{still}
use Rattle.sacn_cues.proofs.FadeStarts.{one_more_given, all_given}
use Rattle.sacn_cues.proofs.fade.begin_all.Goals as goal

pub loop-at-preserved : goal.loop-at-preserved
loop-at-preserved c =
    let lt : c.loop-at.at < length c.loop-at.fades = search rules in
    let is = c.begin_given.ensures still in
    record {
      long = c.loop-at.invariant.long ∙ sym (ap length is ∙ length-set c.loop-at.fades c.loop-at.at _);
      same = one_more_given c.args.times.up c.args.times.down c.args.now c.loop-at.at c.args.targets.now c.loop-at.fades c.begin_given.new.fades still lt c.loop-at.invariant.long is ∙ c.loop-at.invariant.same;
    }

pub returns : goal.returns
returns c =
    sym (all_given c.args.times.up c.args.times.down c.args.now c.loop-at.at c.args.targets.now c.loop-at.fades (omega (arith, c.loop-at-test.false, c.loop-at.invariant.long, c.requires)) c.loop-at.invariant.long)
    ∙ c.loop-at.invariant.same
