-- Calls that gather incidents, and what they come to. A history is the list of the calls so far, the latest first.
use Rattle.std.specs.Prelude.{◌≡◌, ℕ, ◌+◌, ◌<◌, ◌^◌, nat_le, Bool, true, false, ◌&&◌, List, [], ◌∷◌, ◌++◌, length, drop, slice_get, get_or, Option, None, Some}
use Rattle.std.specs.Str.{bytes_eq}
use Rattle.std.specs.List.{All, list_any}
use Rattle.std.specs.Option.{option_map}
use Rattle.sacn_monitor.specs.declared.limits.TheConstants.{MAX_STREAMS}
use Rattle.sacn_monitor.specs.Books.{Book}
use Rattle.sacn_network.specs.declared.occurrence.What.{What}
use Rattle.sacn_incidents.specs.declared.deed.Deed.{Deed}
use Rattle.sacn_incidents.specs.declared.incident.Incident.{Incident}
use Rattle.sacn_incidents.specs.Deeds.{deed_of, same_act}
use Rattle.sacn_incidents.specs.Gathering.{after_pass, after_take, given_by_pass, given_for}

pub data Call : Type 0 where
  Take : Deed → Call
  Pass : ℕ → Call
  Finish : Call

abbrev pub step : Call → List Incident → List Incident
step (Take d) is = after_take d is
step (Pass now) is = after_pass now is
step Finish is = drop 1 is

abbrev pub given : Call → List Incident → Option Incident
given (Take d) is = given_for d is
given (Pass now) is = given_by_pass now is
given Finish is = slice_get is 0

-- what is open after a history, from none on
abbrev pub open_after : List Call → List Incident
open_after [] = []
open_after (call ∷ earlier) = step call (open_after earlier)

abbrev pub listed : Option Incident → List Incident
listed None = []
listed (Some i) = i ∷ []

-- what was handed out in it, in order
abbrev pub told_by : List Call → List Incident
told_by [] = []
told_by (call ∷ earlier) = told_by earlier ++ listed (given call (open_after earlier))

-- all of its incidents
abbrev pub incidents_of : List Call → List Incident
incidents_of calls = told_by calls ++ open_after calls

abbrev pub deeds_with : Call → List Deed → List Deed
deeds_with (Take d) ds = d ∷ ds
deeds_with (Pass now) ds = ds
deeds_with Finish ds = ds

-- the deeds that were taken
abbrev pub deeds_of : List Call → List Deed
deeds_of [] = []
deeds_of (call ∷ earlier) = deeds_with call (deeds_of earlier)

-- a deed is a part of an incident: of its source and its kind, at one of its places, between its first moment and its latest
abbrev pub is_part_of : Deed → Incident → Bool
is_part_of d i = bytes_eq i.source d.source && same_act i.act d.act && get_or i.places d.place false && nat_le i.first d.at && nat_le d.at i.latest

-- how many deeds incidents have in all
abbrev pub deeds_in : List Incident → ℕ
deeds_in [] = 0
deeds_in (i ∷ is) = i.times + deeds_in is

-- Each deed that was taken is a part of an incident, where its place is one of a monitor's.
abbrev pub NothingIsLeftOut : Type 0
NothingIsLeftOut = (calls : List Call) → All (λ d. d.place < MAX_STREAMS) (deeds_of calls) → All (λ d. list_any (is_part_of d) (incidents_of calls) ≡ true) (deeds_of calls)

-- All incidents have as many deeds as were taken.
abbrev pub NothingIsToldTwice : Type 0
NothingIsToldTwice = (calls : List Call) → length (deeds_of calls) < 2 ^ 64 → deeds_in (incidents_of calls) ≡ length (deeds_of calls)

abbrev pub IsOfStream : Book → Option Deed → Type 0
IsOfStream b None = ◌≡◌ {A = Bool} true true
IsOfStream b (Some d) = option_map (λ s. s.cid) (slice_get b.streams d.place) ≡ Some d.source

-- A deed is of the stream at its place, and its source is that stream's.
abbrev pub DeedsAreOfStreams : Type 0
DeedsAreOfStreams = (at : ℕ) (what : What) (b : Book) → IsOfStream b (deed_of at what b)
