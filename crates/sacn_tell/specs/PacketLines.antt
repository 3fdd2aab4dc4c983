-- The line that tells each thing that a packet told: for people, and as an object of JSON.
use Rattle.std.specs.Prelude.{ℕ, List, ◌++◌, codes}
use Rattle.sacn_packets.specs.declared.root.fault.PacketFault.{PacketFault}
use Rattle.sacn_packets.specs.PacketFaults.{fault_number}
use Rattle.sacn_monitor.specs.declared.account.Endpoint.{Endpoint}
use Rattle.sacn_monitor.specs.declared.news.Change.{Change}
use Rattle.sacn_monitor.specs.declared.news.StreamEvent.{StreamEvent}
use Rattle.sacn_monitor.specs.declared.stream.Stream.{Stream}
use Rattle.sacn_tell.specs.declared.options.Form.{Form}
use Rattle.sacn_tell.specs.declared.options.Form.TheVariants.{Text, Json}
use Rattle.sacn_tell.specs.Members.{number_member, object_front, sender_members, stream_members, word_member}
use Rattle.sacn_tell.specs.Refusals.{fault_name}
use Rattle.sacn_tell.specs.Sentences.{event_key, event_words, line_front, loss_words, moved_words, omission_words, priority_words, refused_words, skipped_words, stream_front, untracked_words}

-- what a packet says of its source
abbrev pub event_line : Form → ℕ → Stream → StreamEvent → List ℕ
event_line Text now s event = stream_front now s ++ event_words event s
event_line Json now s event = object_front now (event_key event) ++ (stream_members s ++ (sender_members s.account.sender ++ (number_member (codes "priority") s.account.priority ++ codes "}")))

-- it sends from elsewhere than before
abbrev pub moved_line : Form → ℕ → Stream → List ℕ
moved_line Text now s = stream_front now s ++ moved_words s.account.sender
moved_line Json now s = object_front now (codes "moved") ++ (stream_members s ++ (sender_members s.account.sender ++ codes "}"))

-- it has another name than before
abbrev pub renamed_line : Form → ℕ → Stream → List ℕ
renamed_line Text now s = stream_front now s ++ codes "has this name now"
renamed_line Json now s = object_front now (codes "renamed") ++ (stream_members s ++ codes "}")

-- it sends at another priority than before (E1.31, 6.2.3)
abbrev pub priority_line : Form → ℕ → Stream → Change → List ℕ
priority_line Text now s change = stream_front now s ++ priority_words change
priority_line Json now s change = object_front now (codes "priority") ++ (stream_members s ++ (number_member (codes "from") change.from ++ (number_member (codes "to") change.to ++ codes "}")))

-- it begins its sequence numbers anew
abbrev pub anew_line : Form → ℕ → Stream → List ℕ
anew_line Text now s = stream_front now s ++ codes "begins its numbers anew"
anew_line Json now s = object_front now (codes "began_anew") ++ (stream_members s ++ codes "}")

-- it leaves out this number at each turn
abbrev pub omission_line : Form → ℕ → Stream → ℕ → List ℕ
omission_line Text now s number = stream_front now s ++ omission_words number
omission_line Json now s number = object_front now (codes "leaves_out") ++ (stream_members s ++ (number_member (codes "number") number ++ codes "}"))

-- so many of its sequence numbers were skipped
abbrev pub skipped_line : Form → ℕ → Stream → ℕ → List ℕ
skipped_line Text now s skipped = stream_front now s ++ skipped_words skipped
skipped_line Json now s skipped = object_front now (codes "skipped") ++ (stream_members s ++ (number_member (codes "count") skipped ++ codes "}"))

-- its last packet: when and from where it came, and its priority
unfoldable pub last_members : Stream → List ℕ
last_members s = number_member (codes "since") s.account.latest ++ (sender_members s.account.sender ++ number_member (codes "priority") s.account.priority)

-- it is lost (E1.31, 6.7.1): what it sent last
abbrev pub loss_line : Form → ℕ → Stream → List ℕ
loss_line Text now s = stream_front now s ++ loss_words s
loss_line Json now s = object_front now (codes "lost") ++ (stream_members s ++ (last_members s ++ codes "}"))

-- a datagram is no packet
abbrev pub refused_line : Form → ℕ → Endpoint → PacketFault → List ℕ
refused_line Text now sender fault = line_front now ++ refused_words sender fault
refused_line Json now sender fault =
    object_front now (codes "refused") ++ (sender_members sender
    ++ (number_member (codes "fault") (fault_number fault) ++ (word_member (codes "name") (fault_name fault) ++ codes "}")))

-- there is no room for the source of a packet
abbrev pub untracked_line : Form → ℕ → Endpoint → List ℕ
untracked_line Text now sender = line_front now ++ untracked_words sender
untracked_line Json now sender = object_front now (codes "untracked") ++ (sender_members sender ++ codes "}")
