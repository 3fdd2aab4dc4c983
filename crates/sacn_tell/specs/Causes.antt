-- Why a frame of a node is another one than before.
use Rattle.std.specs.Prelude.{ℕ, ◌-◌, ◌==◌, Bool, not, ◌&&◌, ◌||◌, List, [], ◌∷◌, ◌++◌, codes, decimal, slice_get, position, Option, None, Some, if◌then◌else◌}
use Rattle.std.specs.List.{list_all, list_any}
use Rattle.std.specs.Option.{option_and_then}
use Rattle.std.specs.Str.{bytes_eq}
use Rattle.sacn_node.specs.Changes.{node_shows}
use Rattle.sacn_node.specs.Cores.{Node}
use Rattle.sacn_node.specs.Setup.{port_numbers}
use Rattle.sacn_sources.specs.declared.limits.TheConstants.{NETWORK_DATA_LOSS}
use Rattle.sacn_monitor.specs.declared.news.Noted.{Noted}
use Rattle.sacn_monitor.specs.declared.news.Noted.TheVariants.{Refused, Page, Sync, Untracked, Heard}
use Rattle.sacn_monitor.specs.declared.stream.Stream.{Stream}
use Rattle.sacn_tell.specs.declared.cause.Cause.{Cause}
use Rattle.sacn_tell.specs.declared.cause.Cause.TheVariants.{Start, Packet, Ended, Unfollowed, Lost, LostOf}
use Rattle.sacn_tell.specs.Members.{name_of, source_members, stream_members, word_member}
use Rattle.sacn_tell.specs.Sentences.{source_text}

-- it is the first; a packet of a source, or the end of its stream; a packet of a source that isn't followed; or the loss of a source, where it is known of which
pub data Reason : Type 0 where
  AtStart : Reason
  OfPacket : Stream → Reason
  OfEnd : Stream → Reason
  OfOther : Reason
  OfLoss : Reason
  OfLossOf : Stream → Reason

-- with the sources themselves, in place of what refers to them
abbrev pub reason_of : Cause → Reason
reason_of Start = AtStart
reason_of (Packet s) = OfPacket s.now
reason_of (Ended s) = OfEnd s.now
reason_of Unfollowed = OfOther
reason_of Lost = OfLoss
reason_of (LostOf s) = OfLossOf s.now

-- a packet of a source that is followed is the end of its stream, where that has ended with it
abbrev pub reason_among : Option Stream → Reason
reason_among None = OfOther
reason_among (Some s) = if s.account.ended then OfEnd s else OfPacket s

-- why a datagram changed a frame, by what was noted of it
abbrev pub cause_among : List Stream → Noted → Reason
cause_among streams (Refused fault) = OfOther
cause_among streams Page = OfOther
cause_among streams Sync = OfOther
cause_among streams Untracked = OfOther
cause_among streams (Heard place news) = reason_among (slice_get streams place)

-- a port of a node shows slots of this universe
abbrev pub is_of_node : Node → ℕ → Bool
is_of_node n universe = list_any (λ port. node_shows port (universe ∷ []) n) (port_numbers n.ports)

-- at this moment a stream of a node's universes is lost: no packet of it came for so long (E1.31, 6.7.1)
abbrev pub is_lost_at : Node → ℕ → Stream → Bool
is_lost_at n at s = (not s.account.ended && (at - s.account.latest == NETWORK_DATA_LOSS)) && is_of_node n s.universe

-- each stream that is lost then is one of this source
abbrev pub are_lost_of : Node → ℕ → List ℕ → List Stream → Bool
are_lost_of n at cid ss = list_all (λ s. not (is_lost_at n at s) || bytes_eq s.cid cid) ss

abbrev pub lost_alone : Node → ℕ → List Stream → Option Stream → Reason
lost_alone n at ss None = OfLoss
lost_alone n at ss (Some s) = if are_lost_of n at s.cid ss then OfLossOf s else OfLoss

-- the loss of a source of a node's universes at this moment, which is known where it is one alone
abbrev pub loss_among : Node → ℕ → List Stream → Reason
loss_among n at ss = lost_alone n at ss (option_and_then (slice_get ss) (position (is_lost_at n at) ss))

unfoldable pub on_universe : List ℕ → ℕ → List ℕ
on_universe word universe = word ++ (codes " on universe " ++ (decimal universe ++ codes " of "))

-- what a source did on a universe
unfoldable pub by_words : List ℕ → Stream → List ℕ
by_words word s = on_universe word s.universe ++ source_text s.cid (name_of s)

unfoldable pub lost_words : Stream → List ℕ
lost_words s = codes "by the loss of " ++ source_text s.cid (name_of s)

abbrev pub cause_words : Reason → List ℕ
cause_words AtStart = codes "at the start"
cause_words (OfPacket s) = by_words (codes "by a packet") s
cause_words (OfEnd s) = by_words (codes "by the end of a stream") s
cause_words OfOther = codes "by a packet of a source that isn't followed"
cause_words OfLoss = codes "by the loss of a source"
cause_words (OfLossOf s) = lost_words s

-- the same as members of an object
unfoldable pub by_members : List ℕ → Stream → List ℕ
by_members word s = word_member (codes "cause") word ++ stream_members s

unfoldable pub lost_members : Stream → List ℕ
lost_members s = word_member (codes "cause") (codes "lost") ++ source_members s.cid (name_of s)

abbrev pub cause_members : Reason → List ℕ
cause_members AtStart = word_member (codes "cause") (codes "start")
cause_members (OfPacket s) = by_members (codes "packet") s
cause_members (OfEnd s) = by_members (codes "ended") s
cause_members OfOther = word_member (codes "cause") (codes "unfollowed")
cause_members OfLoss = word_member (codes "cause") (codes "lost")
cause_members (OfLossOf s) = lost_members s
