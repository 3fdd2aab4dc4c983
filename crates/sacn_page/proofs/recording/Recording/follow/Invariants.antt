use Rattle.sacn_page.proofs.recording.Recording.follow.Given as goal

abbrev pub decreases-loop-is_there : goal.decreases-loop-is_there
decreases-loop-is_there g l = l.left
