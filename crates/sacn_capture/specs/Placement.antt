-- Where a frame that was read is.
use Rattle.std.specs.Prelude.{ℕ, List, length, take, nat_le, Result, Err, if◌then◌else◌}
use Rattle.sacn_capture.specs.declared.links.Passed.{Passed}
use Rattle.sacn_capture.specs.declared.links.Passed.TheVariants.{TooLong}
use Rattle.sacn_capture.specs.declared.buffer.Frame.{Frame}
use Rattle.sacn_capture.specs.declared.buffer.Frame.TheVariants.{Kept, LeftOut}
use Rattle.sacn_capture.specs.Frames.{Sent, reading_datagram}

-- what stands in a frame, which is at the buffer's front where it was kept
abbrev pub content_in : Frame → List ℕ → Result Sent Passed
content_in (Kept link len) buffer = if nat_le len (length buffer) then reading_datagram link (take len buffer) else Err TooLong
content_in (LeftOut passed) buffer = Err passed
