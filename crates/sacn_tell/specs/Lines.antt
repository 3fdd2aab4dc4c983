-- The lines of universes, lists and frames: for people, and as objects of JSON.
use Rattle.std.specs.Prelude.{ℕ, ◌==◌, nat_le, List, [], ◌++◌, codes, decimal, drop, Option, None, Some, if◌then◌else◌}
use Rattle.std.specs.Str.{bytes_eq}
use Rattle.std.specs.Option.{option_map}
use Rattle.sacn_node.specs.declared.port_frame.PortFrame.{PortFrame}
use Rattle.sacn_tell.specs.declared.listings.Listing.{Listing}
use Rattle.sacn_tell.specs.declared.options.Form.{Form}
use Rattle.sacn_tell.specs.declared.options.Form.TheVariants.{Text, Json}
use Rattle.sacn_tell.specs.Spelling.{octets_text, right}
use Rattle.sacn_tell.specs.Members.{key_text, number_member, object_front, source_members}
use Rattle.sacn_tell.specs.Sentences.{line_front, source_text, stop_words, universe_text}
use Rattle.sacn_tell.specs.Causes.{Reason, cause_members, cause_words}
use Rattle.sacn_tell.specs.Numbers.{numbers_member, ranges_text}

-- how many sources send at the top priority of a universe
unfoldable pub rivals_words : ℕ → ℕ → List ℕ
rivals_words sources priority =
    if sources == 0 then codes "no source lights it any longer"
    else (if sources == 1 then codes "one source alone sends at the top priority, " ++ decimal priority
    else decimal sources ++ (codes " sources send at the top priority, " ++ decimal priority))

abbrev pub rivals_key : ℕ → List ℕ
rivals_key sources = if nat_le 2 sources then codes "rivals" else codes "no_rivals"

abbrev pub rivals_line : Form → ℕ → ℕ → ℕ → ℕ → List ℕ
rivals_line Text now universe sources priority = line_front now ++ (universe_text universe ++ rivals_words sources priority)
rivals_line Json now universe sources priority =
    object_front now (rivals_key sources)
    ++ (number_member (codes "universe") universe ++ (number_member (codes "sources") sources ++ (number_member (codes "priority") priority ++ codes "}")))

-- this program was stopped for so many milliseconds
abbrev pub stop_line : Form → ℕ → ℕ → List ℕ
stop_line Text now millis = line_front now ++ stop_words millis
stop_line Json now millis = object_front now (codes "stopped") ++ (number_member (codes "for") millis ++ codes "}")

-- what a line says before a source's list: its first, or another than before
unfoldable pub list_words : List ℕ → List ℕ
list_words event = if bytes_eq event (codes "lists") then codes "  lists universes " else codes "  lists other universes than before: "

-- a source, its name in the latest page of its list, and the universes of that list, where one came whole
pub record KeptList : Type 0 where
  pub cid : List ℕ
  pub name : List ℕ
  pub universes : Option (List ℕ)

abbrev pub kept_list : Listing → KeptList
kept_list l = record { cid = l.cid; name = l.name.items; universes = option_map (λ v. v.items) l.universes }

-- the universes of a list, where one came whole
abbrev pub listed_ranges : Option (List ℕ) → List ℕ
listed_ranges None = []
listed_ranges (Some universes) = ranges_text universes

abbrev pub listed_member : Option (List ℕ) → List ℕ
listed_member None = []
listed_member (Some universes) = numbers_member (codes "universes") universes

abbrev pub listing_line : Form → ℕ → List ℕ → KeptList → List ℕ
listing_line Text now event l = line_front now ++ (source_text l.cid l.name ++ (list_words event ++ listed_ranges l.universes))
listing_line Json now event l = object_front now event ++ (source_members l.cid l.name ++ (listed_member l.universes ++ codes "}"))

unfoldable pub port_text : ℕ → List ℕ
port_text port = codes "port " ++ (right 9 (decimal port) ++ codes "  ")

-- the digits of the slots of a frame, which stand behind its start code
abbrev pub slot_digits : Option (List ℕ) → List ℕ
slot_digits None = []
slot_digits (Some frame) = octets_text (drop 1 frame)

unfoldable pub slots_member : Option (List ℕ) → List ℕ
slots_member frame = key_text (codes "slots") ++ (codes "\"" ++ (slot_digits frame ++ codes "\""))

-- why a frame of a port is another one, and as JSON its slots
abbrev pub frame_line : Form → ℕ → PortFrame → Reason → List ℕ
frame_line Text now port reason = line_front now ++ (port_text port.port ++ cause_words reason)
frame_line Json now port reason = object_front now (codes "frame") ++ (number_member (codes "port") port.port ++ (cause_members reason ++ (slots_member port.last ++ codes "}")))
