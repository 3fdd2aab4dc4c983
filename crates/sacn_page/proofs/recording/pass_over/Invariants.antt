use Rattle.sacn_page.proofs.recording.pass_over.Given as goal

abbrev pub decreases-loop-left : goal.decreases-loop-left
decreases-loop-left g l = l.left
