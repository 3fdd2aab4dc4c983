-- What a recording tells: the calls that its frames make, and the report that accounts for them.
use Rattle.std.specs.Prelude.{◌≡◌, ◌⊎◌, ℕ, ◌-◌, ◌==◌, ◌||◌, max, nat_lt, Bool, List, [], ◌∷◌, length, Option, None, Some, unwrap_or, Result, Ok, Err, if◌then◌else◌}
use Rattle.sacn_capture.specs.declared.links.Passed.{Passed}
use Rattle.sacn_capture.specs.declared.faults.CaptureFault.{CaptureFault}
use Rattle.sacn_capture.specs.declared.frame_counts.FrameCounts.{FrameCounts}
use Rattle.sacn_capture.specs.Counting.{count_frame, none_counted, passed_by}
use Rattle.sacn_capture.specs.Files.{IsOutside}
use Rattle.sacn_capture.specs.Frames.{Sent}
use Rattle.sacn_capture.specs.Recordings.{Shown, Told}
use Rattle.sacn_monitor.specs.declared.account.Endpoint.{Endpoint}
use Rattle.sacn_monitor.specs.Books.{Book}
use Rattle.sacn_monitor.specs.Histories.{Call, Take, Tick, after_calls}
use Rattle.sacn_monitor.specs.Kinds.{more}
use Rattle.sacn_tell.specs.declared.follow.Progress.{Progress}
use Rattle.sacn_tell.specs.declared.follow.Timeline.{Timeline}
use Rattle.sacn_tell.specs.declared.report.Report.{Report}
use Rattle.sacn_tell.specs.Following.{IsTaken, IsTicked}
use Rattle.sacn_tell.specs.KeptLists.{Listed, listed_by}

-- milliseconds from the first frame with a moment, which is this one where there was none before
abbrev pub since_first : ℕ → Timeline → ℕ
since_first moment clock = moment - unwrap_or clock.first moment

-- a frame with this moment is earlier than the first one, or than the latest so far
abbrev pub is_earlier : ℕ → Timeline → Bool
is_earlier moment clock = nat_lt moment (unwrap_or clock.first moment) || nat_lt (since_first moment clock) clock.now

-- the clock at a moment: it never goes back, and a frame with an earlier moment is at the greatest so far
abbrev pub at_stamp : ℕ → Timeline → Timeline
at_stamp moment clock = record {
  first = Some (unwrap_or clock.first moment);
  now = max clock.now (since_first moment clock);
  went_back = if is_earlier moment clock then more 1 clock.went_back else clock.went_back;
}

-- the clock at a frame: one without a moment, as no frame before it has one, is where the clock stands, at the origin
abbrev pub at_moment : Option ℕ → Timeline → Timeline
at_moment None clock = clock
at_moment (Some moment) clock = at_stamp moment clock

abbrev pub sender_of : Sent → Endpoint
sender_of d = record { address = d.sender; port = d.sender_port }

-- a frame's call: a datagram to the port is taken, and any other frame moves the clock
abbrev pub call_of : ℕ → ℕ → Result Sent Passed → Call
call_of port now (Ok d) = if d.destination_port == port then Take now (sender_of d) d.payload else Tick now
call_of port now (Err passed) = Tick now

-- the datagrams to other ports, with this frame's
abbrev pub elsewhere : ℕ → Result Sent Passed → ℕ → ℕ
elsewhere port (Ok d) n = if d.destination_port == port then n else more 1 n
elsewhere port (Err passed) n = n

-- what frames make: what they were, the clock, how many datagrams are to other ports, and the calls, the latest first
pub record Heard : Type 0 where
  pub frames : FrameCounts
  pub clock : Timeline
  pub other_ports : ℕ
  pub calls : List Call

abbrev pub after_frame : ℕ → Shown → Heard → Heard
after_frame port frame h = record {
  frames = count_frame (passed_by frame.content) h.frames;
  clock = at_moment frame.moment h.clock;
  other_ports = elsewhere port frame.content h.other_ports;
  calls = call_of port (at_moment frame.moment h.clock).now frame.content ∷ h.calls;
}

-- after these frames, in order
abbrev pub after_frames : ℕ → List Shown → Heard → Heard
after_frames port [] h = h
after_frames port (frame ∷ frames) h = after_frames port frames (after_frame port frame h)

abbrev pub no_clock : Timeline
no_clock = record { first = None; now = 0; went_back = 0 }

abbrev pub heard_in : ℕ → List Shown → Heard
heard_in port frames = after_frames port frames (record { frames = none_counted; clock = no_clock; other_ports = 0; calls = [] })

-- the recording has no fault, and these are the counts that the calls of its frames give
pub record IsAccountOf (port : ℕ) (told : Told) (report : Report) : Type 0 where
  pub whole : told.fault ≡ None
  pub frames : report.frames ≡ (heard_in port told.frames).frames
  pub tally : report.tally ≡ (after_calls (heard_in port told.frames).calls).tally
  pub streams : report.streams ≡ length (after_calls (heard_in port told.frames).calls).streams
  pub pages_passed : report.pages_passed ≡ (listed_by (heard_in port told.frames).calls).passed
  pub length : report.length ≡ (heard_in port told.frames).clock.now
  pub other_ports : report.other_ports ≡ (heard_in port told.frames).other_ports
  pub went_back : report.went_back ≡ (heard_in port told.frames).clock.went_back

-- ---- how far a recording was followed

-- a follower's book after a call, where this moment was in use before it
abbrev pub Hears : ℕ → Call → Book → Book → Type 0
Hears t (Take now sender octets) old new = IsTaken (max t now) sender octets old new
Hears t (Tick now) old new = IsTicked (max t now) old new

abbrev pub progress_at_start : Progress
progress_at_start = record { timeline = no_clock; other_ports = 0; stopped = None }

-- what is kept of a recording that is followed: what its frames were, what it told, and the lists
pub record Kept : Type 0 where
  pub frames : FrameCounts
  pub book : Book
  pub listed : Listed

-- this is what was heard, and these are the counts that it gives
pub record IsHeardAs (h : Heard) (progress : Progress) (kept : Kept) : Type 0 where
  pub frames : kept.frames ≡ h.frames
  pub clock : progress.timeline ≡ h.clock
  pub other_ports : progress.other_ports ≡ h.other_ports
  pub tally : kept.book.tally ≡ (after_calls h.calls).tally
  pub streams : length kept.book.streams ≡ length (after_calls h.calls).streams
  pub listed : kept.listed ≡ listed_by h.calls

-- a recording was followed to its end, or to what is wrong with it
abbrev pub IsHeardTo : Option CaptureFault → ℕ → Told → Progress → Kept → Type 0
IsHeardTo None port told progress kept = (told.fault ≡ None) × IsHeardAs (heard_in port told.frames) progress kept
IsHeardTo (Some fault) port told progress kept = IsOutside fault.kind ⊎ (told.fault ≡ Some fault)

abbrev pub IsHeard : ℕ → Told → Progress → Kept → Type 0
IsHeard port told progress kept = IsHeardTo progress.stopped port told progress kept
