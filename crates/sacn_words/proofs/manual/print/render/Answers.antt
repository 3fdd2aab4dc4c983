use Rattle.sacn_words.proofs.Growing.{grows, chain, all_kept, commands_kept}
use Rattle.sacn_words.proofs.manual.print.render.Goals as goal

pub returns : goal.returns
returns c =
    let last = grows _ _ _ c.in_ok-extend_from_slice-2.ensures.items in
    let middle = grows _ _ _ c.in_ok-extend_from_slice.ensures.items in
    let after = chain _ _ _ middle (chain _ _ _ c.in_ok-push_commands.ensures.grows last) in
    record {
      own = all_kept _ _ _ _ c.in_ok-push_arguments.ensures.told after;
      commands = commands_kept _ _ _ _ c.in_ok-push_commands.ensures.told last;
    }
