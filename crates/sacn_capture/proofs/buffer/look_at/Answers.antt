use Rattle.std.proofs.Common.{rules, ◌≡◌, take, ◌∙◌}
use Rattle.sacn_capture.specs.Check.{map_ok}
use Rattle.sacn_capture.specs.Frames.{seen_among}
use Rattle.sacn_capture.specs.Placement.{content_in}
use Rattle.sacn_capture.proofs.Sightings.{looked_in_front}
use Rattle.sacn_capture.proofs.buffer.look_at.Goals as goal

pub returns-else-len-buffer-clause-seen : goal.returns-else-len-buffer-clause-seen
returns-else-len-buffer-clause-seen c =
    let kept : map_ok (seen_among (take c.in-Kept.len c.args.buffer.now)) c.look.result ≡ content_in c.args.frame c.args.buffer.now = search rules in
    looked_in_front c.args.buffer.now c.in-Kept.len c.look.result c.look.ensures.within ∙ kept
