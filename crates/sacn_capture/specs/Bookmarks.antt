-- A place in a recording, at which its reading goes on later.
use Rattle.std.specs.Prelude.{ℕ, List, map, Option}
use Rattle.sacn_capture.specs.declared.bookmark.Bookmark.{Bookmark}
use Rattle.sacn_capture.specs.Files.{place_at}
use Rattle.sacn_capture.specs.Pcapng.{interface_of}
use Rattle.sacn_capture.specs.Recordings.{State, Told}
use Rattle.sacn_capture.specs.Streams.{to_come_by}

-- what was said before a bookmark of what comes
abbrev pub state_at : Bookmark → State
state_at b = record { format = b.format; interfaces = map interface_of b.interfaces.items; moment = b.moment }

-- what a recording gives behind a bookmark, where these octets stand there
abbrev pub behind : Bookmark → Option (List ℕ) → Option Told
behind b left = to_come_by b.stopped (state_at b) (place_at b.at left)
