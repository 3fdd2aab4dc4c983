use Rattle.sacn_watch.specs.Screens.{KeepsShowing}
use Rattle.sacn_watch.proofs.sized_screen.Screen.take_keys.Given as goal

-- the keys so far
abbrev pub invariant-loop-place : goal.invariant-loop-place
invariant-loop-place g l = record { kept : KeepsShowing l.fn.self.terminal l.self.terminal }
