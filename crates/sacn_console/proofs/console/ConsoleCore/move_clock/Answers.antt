use Rattle.std.proofs.Common.{arith, ap, ◌∙◌}
use Rattle.sacn_cues.specs.Playing.{Played, is_still}
use Rattle.sacn_console.proofs.WakeLists.{wakes_later, quiet_none}
use Rattle.sacn_console.proofs.WakeCores.{rests_as}
use Rattle.sacn_console.proofs.Changes.{ok_moved}
use Rattle.sacn_console.proofs.console.ConsoleCore.move_clock.Goals as goal

pub invariant_of-self-then-is_later : goal.invariant_of-self-then-is_later
invariant_of-self-then-is_later c =
    let rests = rests_as c.is_still-rests.result c.is_still-was_still.result _ _ c.if-rests-was_still.false (c.is_still-rests.ensures.still ∙ ap (λ (p : Played). is_still p) c.move_player.ensures) c.is_still-was_still.ensures.still in
    record {
      core = ok_moved _ c.args.now _ _ c.self.invariant.core c.move_player.ensures c.max-self-inside.ensures;
      wakes_ok = rw (c.start_at.ensures, c.move_player.ensures) (wakes_later c.self.inside.wakes _ _ c.args.now _ 0 _ c.self.invariant.wakes_ok (omega (arith, c.max-self-inside.ensures)) (omega (arith, c.max-self-inside.ensures)) rests (quiet_none c.self.inside.wakes _ _ _));
    }
