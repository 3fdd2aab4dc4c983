use Rattle.sacn_words.proofs.Growing.{five_grow, told_here}
use Rattle.sacn_words.proofs.manual.print.push_told.Goals as goal

pub returns : goal.returns
returns c = record {
  grows = five_grow _ _ _ _ _ _ _ _ _ _ _ c.in_ok-extend_from_slice.ensures.items c.in_ok-push_marked.ensures c.in_ok-extend_from_slice-2.ensures.items c.in_ok-push_said.ensures c.in_ok-extend_from_slice-3.ensures.items;
  told = told_here _ _ _ _ _ _ _ _ _ _ _ c.in_ok-push_marked.ensures c.in_ok-extend_from_slice-2.ensures.items c.in_ok-push_said.ensures c.in_ok-extend_from_slice-3.ensures.items;
}
