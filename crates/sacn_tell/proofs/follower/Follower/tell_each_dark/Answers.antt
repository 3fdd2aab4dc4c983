use Rattle.std.proofs.Common.{arith, ap, subst, sym, refl, ◌∙◌}
use Rattle.sacn_tell.specs.declared.line_writer.LineWriter.{LineWriter}
use Rattle.sacn_tell.specs.Silences.{IsNextDark, Scene}
use Rattle.sacn_tell.proofs.Turning.{none_dark, one_more_dark, still_dark}
use Rattle.sacn_tell.proofs.follower.Follower.tell_each_dark.Goals as goal

pub loop-init : goal.loop-init
loop-init g c = record {
  by = omega arith;
  listings = refl;
  options = refl;
  told = none_dark {O = g.row.O.Denot} g.O.Write.contents c.args.until c.args.self.now;
}

pub loop-preserved : goal.loop-preserved
loop-preserved g c =
    let O = g.row.O.Denot in
    let looked = c.next_dark.new.self in
    let before = c.loop.invariant in
    record {
      by = omega (arith, c.tell_dark_at.ensures.clock, ap (λ (s : Scene). s.network.monitor.moment) c.next_dark.ensures.scene, before.by, c.in-Some.ensures.past);
      listings = c.tell_dark_at.ensures.listings ∙ c.next_dark.ensures.listings ∙ before.listings;
      options = c.tell_dark_at.ensures.options ∙ ap (λ (w : LineWriter O). w.options) c.next_dark.ensures.writer ∙ before.options;
      told = one_more_dark {O = O} g.O.Write.contents c.args.until c.in-Some.at c.args.self.now looked c.tell_dark_at.new.self c.in-Some.ensures.past
          (subst (λ (s : Scene). IsNextDark c.in-Some.at s.stage) (sym c.next_dark.ensures.scene) c.in-Some.ensures.next)
          (ap (λ (w : LineWriter O). w.options) c.next_dark.ensures.writer ∙ before.options)
          (still_dark {O = O} g.O.Write.contents c.args.until c.args.self.now c.loop.self looked c.next_dark.ensures.scene c.next_dark.ensures.writer before.told)
          c.in_ok-tell_dark_at.ensures.told c.in_ok-tell_dark_at.ensures.scene;
    }
