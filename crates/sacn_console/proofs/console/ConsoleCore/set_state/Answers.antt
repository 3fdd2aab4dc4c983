use Rattle.sacn_console.proofs.WakeLists.{wakes_ordered, place_in}
use Rattle.sacn_console.proofs.Changes.{ok_kept, state_set}
use Rattle.sacn_console.proofs.console.ConsoleCore.set_state.Goals as goal

pub invariant_of-self : goal.invariant_of-self
invariant_of-self c = record {
  core = ok_kept _ c.args.place _ c.args.state c.self.invariant.core c.index_mut-line.ensures.value;
  wakes_ok = rw (c.start_at.ensures, c.put.ensures) (wakes_ordered _ _ _ _ c.args.place _ _ c.self.invariant.wakes_ok (place_in _ _ c.args.place c.self.view_is c.requires));
}

pub returns : goal.returns
returns c = state_set _ _ c.args.place _ c.args.state c.self.view_is c.requires c.index_mut-line.ensures.value
