-- What a recording that is followed to a moment shows: the account of exactly its frames up to there.
use Rattle.std.specs.Prelude.{◌≡◌, ℕ, ◌≤◌, nat_le, List, [], ◌∷◌, ⊤, Option, None, Some, option_map, if◌then◌else◌}
use Rattle.sacn_capture.specs.Bookmarks.{behind}
use Rattle.sacn_capture.specs.Recordings.{Shown, Told}
use Rattle.sacn_capture.specs.Streams.{to_come}
use Rattle.sacn_monitor.specs.declared.account.Endpoint.{Endpoint}
use Rattle.sacn_monitor.specs.Histories.{Call, Take, Tick}
use Rattle.sacn_network.specs.declared.ledger.Ledger.{Ledger}
use Rattle.sacn_network.specs.Calls.{step, told_in}
use Rattle.sacn_tell.specs.declared.follow.Timeline.{Timeline}
use Rattle.sacn_tell.specs.Story.{at_moment, call_of, no_clock}
use Rattle.sacn_page.specs.declared.board.Board.{Board}
use Rattle.sacn_page.specs.declared.replay.Next.{Next}
use Rattle.sacn_page.specs.declared.replay.Next.TheVariants.{Unread, Frame, Nothing}
use Rattle.sacn_page.specs.declared.replay.Pending.{Pending}
use Rattle.sacn_page.specs.declared.replay.Replay.{Replay}
use Rattle.sacn_page.specs.declared.replay.snapshot.Snapshot.{Snapshot}
use Rattle.sacn_page.specs.Alarms.{KeptAlarms, alarms_told}

-- what is known of a network: its account, and the alarms
pub record Known : Type 0 where
  pub network : Ledger
  pub alarms : KeptAlarms

abbrev pub known_to : Board → Known
known_to b = record { network = b.network; alarms = b.alarms }

abbrev pub after_call : Call → Known → Known
after_call call k = record { network = step call k.network; alarms = alarms_told (told_in call k.network) k.alarms }

-- the clock at the frame that was taken last, and what is known then
pub record Followed : Type 0 where
  pub clock : Timeline
  pub known : Known

-- no frame was taken
abbrev pub begun : Known → Followed
begun k = record { clock = no_clock; known = k }

-- one frame more: a datagram to the port is taken at the clock, and any other frame moves it
abbrev pub after_frame : ℕ → Shown → Followed → Followed
after_frame port frame f = let clock = at_moment frame.moment f.clock in record { clock = clock; known = after_call (call_of port clock.now frame.content) f.known }

-- the frames up to a moment, in order, and then the clock at it; where no frame is left, at the last one
abbrev pub followed_to : ℕ → ℕ → List Shown → Followed → Known
followed_to moment port [] f = after_call (Tick f.clock.now) f.known
followed_to moment port (frame ∷ frames) f =
    if nat_le (at_moment frame.moment f.clock).now moment then followed_to moment port frames (after_frame port frame f) else after_call (Tick moment) f.known

-- ---- from where a replay stands

-- the call of a frame that was read: a datagram of these octets, where it has a sender
abbrev pub call_by : Option Endpoint → ℕ → List ℕ → Call
call_by None now octets = Tick now
call_by (Some sender) now octets = Take now sender octets

abbrev pub after_pending : Pending → List ℕ → Followed → Followed
after_pending p octets f = record { clock = p.clock; known = after_call (call_by p.sender p.clock.now octets) f.known }

-- this frame was read behind one at this clock, with the octets of its datagram
pub record IsPending (port : ℕ) (clock : Timeline) (frame : Shown) (p : Pending) (octets : List ℕ) : Type 0 where
  pub clock_is : p.clock ≡ at_moment frame.moment clock
  pub call : call_by p.sender p.clock.now octets ≡ call_of port p.clock.now frame.content

-- by what comes next, and the frames behind it
abbrev pub shown_from : ℕ → ℕ → Next → List ℕ → List Shown → Followed → Known
shown_from moment port Unread octets frames f = followed_to moment port frames f
shown_from moment port (Frame p) octets frames f =
    if nat_le p.clock.now moment then followed_to moment port frames (after_pending p octets f) else after_call (Tick moment) f.known
shown_from moment port (Nothing fault) octets frames f = after_call (Tick f.clock.now) f.known

-- and by what is to come of the recording, where its reader tells that
abbrev pub shown_by : ℕ → ℕ → Next → List ℕ → Option Told → Followed → Option Known
shown_by moment port next octets behind f = option_map (λ told. shown_from moment port next octets told.frames f) behind

-- what a replay shows once it is followed to a moment
abbrev pub will_show : {R : Type 0} → (R → Option (List ℕ)) → ℕ → Replay R → Option Known
will_show remaining moment r = shown_by moment r.port r.next r.octets.items (to_come remaining r.capture) (record { clock = r.clock; known = known_to r.board })

-- what was to be shown still is, where that is known
abbrev pub StaysShown : Option Known → Option Known → Type 0
StaysShown None new = ⊤
StaysShown (Some k) new = new ≡ Some k

-- what a replay of a snapshot shows once it is followed to a moment, where these octets stand behind the snapshot
abbrev pub snapshot_shows : ℕ → ℕ → Option (List ℕ) → Snapshot → Option Known
snapshot_shows moment port left s = shown_by moment port s.next s.octets.items (behind s.bookmark left) (record { clock = s.clock; known = known_to s.board })

-- a replay is on the way to a moment, and each one from the moment on that it has come to will show what it was to show
pub record IsOnTheWay {R : Type 0} (remaining : R → Option (List ℕ)) (until : ℕ) (old new : Replay R) : Type 0 where
  pub onwards : old.shown ≤ new.shown
  pub within : new.shown ≤ until
  pub shows : (later : ℕ) → new.shown ≤ later → StaysShown (will_show remaining later old) (will_show remaining later new)
