use Rattle.sacn_words.proofs.Growing.{grows, chain, kept_told, all_kept}
use Rattle.sacn_words.proofs.manual.print.push_command.Goals as goal

pub returns-clause-told : goal.returns-clause-told
returns-clause-told c =
    let last = grows _ _ _ c.in_ok-extend_from_slice.ensures.items in
    record {
      told = kept_told _ _ _ _ _ _ c.in_ok-push_name.ensures.told (chain _ _ _ c.in_ok-push_arguments.ensures.grows last);
      arguments = all_kept _ _ _ _ c.in_ok-push_arguments.ensures.told last;
    }
