-- Deeds gathered into incidents. The incidents that are open stand in the order in which they began.
use Rattle.std.specs.Prelude.{ℕ, ◌-◌, ◌+◌, ◌^◌, nat_lt, nat_le, max, min, Bool, true, false, not, ◌&&◌, List, [], ◌∷◌, length, set, drop, slice_get, replicate, Option, None, Some, if◌then◌else◌}
use Rattle.std.specs.Str.{bytes_eq}
use Rattle.std.specs.List.{list_any}
use Rattle.sacn_monitor.specs.Kinds.{more}
use Rattle.sacn_monitor.specs.declared.limits.TheConstants.{MAX_STREAMS}
use Rattle.sacn_incidents.specs.declared.deed.Deed.{Deed}
use Rattle.sacn_incidents.specs.declared.incident.Incident.{Incident}
use Rattle.sacn_incidents.specs.declared.limits.TheConstants.{MAX_OPEN, SPAN}
use Rattle.sacn_incidents.specs.Deeds.{same_act}

-- these places and one more
abbrev pub with_place : ℕ → List Bool → List Bool
with_place place places = set places place true

-- an incident that a deed begins
unfoldable pub begun : Deed → Incident
begun d = record {
  source = d.source;
  act = d.act;
  places = with_place d.place (replicate MAX_STREAMS false);
  first = d.at;
  latest = d.at;
  times = 1;
}

-- a deed of its source and kind, within the span of its first, is a part of it
abbrev pub takes : Deed → Incident → Bool
takes d i = nat_le i.first d.at && nat_le (d.at - i.first) SPAN && bytes_eq i.source d.source && same_act i.act d.act

-- an incident with a deed more
unfoldable pub joined : Deed → Incident → Incident
joined d i = record i { places = with_place d.place i.places; latest = max i.latest d.at; times = more 1 i.times }

-- a deed is a part of the first incident that takes it, or begins one
abbrev pub with_deed : Deed → List Incident → List Incident
with_deed d [] = begun d ∷ []
with_deed d (i ∷ is) = if takes d i then joined d i ∷ is else i ∷ with_deed d is

-- a deed begins an incident for which there is no room
abbrev pub lacks_room : Deed → List Incident → Bool
lacks_room d is = not (list_any (takes d) is) && not (nat_lt (length is) MAX_OPEN)

-- then the oldest is handed out
abbrev pub given_for : Deed → List Incident → Option Incident
given_for d is = if lacks_room d is then slice_get is 0 else None

abbrev pub left_for : Deed → List Incident → List Incident
left_for d is = if lacks_room d is then drop 1 is else is

abbrev pub after_take : Deed → List Incident → List Incident
after_take d is = with_deed d (left_for d is)

-- no deed from a moment on is a part of it
abbrev pub has_passed : ℕ → Incident → Bool
has_passed now i = nat_lt SPAN (now - i.first)

-- the oldest is handed out, where that is so
abbrev pub given_by_pass : ℕ → List Incident → Option Incident
given_by_pass now [] = None
given_by_pass now (i ∷ is) = if has_passed now i then Some i else None

-- the first moment at which that is so; the last moment of all where none is open
abbrev pub next_pass : List Incident → ℕ
next_pass [] = 2 ^ 64 - 1
next_pass (i ∷ is) = min (i.first + (SPAN + 1)) (2 ^ 64 - 1)

abbrev pub after_pass : ℕ → List Incident → List Incident
after_pass now [] = []
after_pass now (i ∷ is) = if has_passed now i then is else i ∷ is
