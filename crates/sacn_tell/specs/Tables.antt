-- The tables at the end: of the sources, of the universes, of the lists and of the refusals, and all counts.
use Rattle.std.specs.Prelude.{ℕ, ◌==◌, nat_lt, Bool, not, is_some, List, [], ◌∷◌, ◌++◌, filter, get_or, map, take, slice_index, Option, None, Some, Vec, if◌then◌else◌}
use Rattle.std.specs.List.{flat_map, list_any}
use Rattle.std.specs.declared.alloc.Global.{Global}
use Rattle.sacn_packets.specs.declared.root.fault.PacketFault.{PacketFault}
use Rattle.sacn_packets.specs.PacketFaults.{fault_number}
use Rattle.sacn_capture.specs.declared.frame_counts.FrameCounts.{FrameCounts}
use Rattle.sacn_monitor.specs.declared.stream.Stream.{Stream}
use Rattle.sacn_monitor.specs.declared.tally.Tally.{Tally}
use Rattle.sacn_tell.specs.declared.listings.Listing.{Listing}
use Rattle.sacn_tell.specs.declared.options.Form.{Form}
use Rattle.sacn_tell.specs.declared.options.Form.TheVariants.{Text, Json}
use Rattle.sacn_tell.specs.declared.report.Report.{Report}
use Rattle.sacn_tell.specs.declared.tables.TheConstants.{FAULTS, LIST_HEAD, REFUSED_HEAD, STREAM_HEAD, UNIVERSE_HEAD}
use Rattle.sacn_tell.specs.Amounts.{counts_of}
use Rattle.sacn_tell.specs.Lists.{silent, unlisted}
use Rattle.sacn_tell.specs.Rows.{list_row, refused_row, universe_row}
use Rattle.sacn_tell.specs.StreamRows.{stream_row}
use Rattle.sacn_tell.specs.Tellings.{with_line_end, where_so}
use Rattle.sacn_tell.specs.Totals.{counts_row, has_unread, unread_text}
use Rattle.sacn_tell.specs.Choice.{is_wanted}
use Rattle.sacn_tell.specs.Twice.{twice_told}

-- a table's head, for people
abbrev pub head_told : Form → List ℕ → List ℕ
head_told Text head = with_line_end head
head_told Json head = []

abbrev pub head_where : Bool → Form → List ℕ → List ℕ
head_where has_rows form head = if has_rows then head_told form head else []

-- a row for each source on a universe that is asked for
abbrev pub stream_told : Form → List ℕ → ℕ → Stream → List ℕ
stream_told form wanted moment s = where_so (is_wanted wanted s.universe) (stream_row form moment s)

abbrev pub streams_told : Form → List ℕ → ℕ → List Stream → List ℕ
streams_told form wanted moment streams = head_told form STREAM_HEAD.now ++ flat_map (stream_told form wanted moment) streams

-- each once, in the order of their first places
abbrev pub each_once : List ℕ → List ℕ
each_once [] = []
each_once (u ∷ us) = u ∷ filter (λ v. not (u == v)) (each_once us)

-- a row for each universe that was heard and is asked for
abbrev pub universe_told : Form → List ℕ → ℕ → List Stream → ℕ → List ℕ
universe_told form wanted moment streams u = where_so (is_wanted wanted u) (universe_row form u (counts_of u moment streams))

-- that of a source at a place, where no source before is on it
abbrev pub universe_at : List Stream → ℕ → ℕ
universe_at streams place = get_or (map (λ s. s.universe) streams) place 0

abbrev pub is_told : List Stream → ℕ → Bool
is_told streams place = list_any (λ s. s.universe == universe_at streams place) (take place streams)

abbrev pub place_told : Form → List ℕ → ℕ → List Stream → ℕ → List ℕ
place_told form wanted moment streams place = if is_told streams place then [] else universe_told form wanted moment streams (universe_at streams place)

abbrev pub universes_told : Form → List ℕ → ℕ → List Stream → List ℕ
universes_told form wanted moment streams = head_told form UNIVERSE_HEAD.now ++ flat_map (universe_told form wanted moment streams) (each_once (map (λ s. s.universe) streams))

-- a row for each source of which a list came whole
abbrev pub row_of : Form → List Stream → Listing → Option (Vec ℕ Global) → List ℕ
row_of form streams l None = []
row_of form streams l (Some universes) = with_line_end (list_row form l universes.items (silent streams l.cid universes.items) (unlisted streams l.cid universes.items))

abbrev pub list_told : Form → List Stream → Listing → List ℕ
list_told form streams l = row_of form streams l l.universes

abbrev pub lists_told : Form → List Stream → List Listing → List ℕ
lists_told form streams listings = head_where (list_any (λ l. is_some l.universes) listings) form LIST_HEAD.now ++ flat_map (list_told form streams) listings

-- a row for each fault for which datagrams were refused
abbrev pub refused_for : Tally → PacketFault → ℕ
refused_for tally fault = slice_index tally.refused (fault_number fault)

abbrev pub refused_told : Form → PacketFault → ℕ → List ℕ
refused_told form fault count = where_so (nat_lt 0 count) (refused_row form fault count)

abbrev pub has_refusals : Tally → List PacketFault → Bool
has_refusals tally faults = list_any (λ fault. nat_lt 0 (refused_for tally fault)) faults

abbrev pub faults_told : Form → Tally → List PacketFault → List ℕ
faults_told form tally faults = head_where (has_refusals tally faults) form REFUSED_HEAD.now ++ flat_map (λ fault. refused_told form fault (refused_for tally fault)) faults

abbrev pub refusals_told : Form → Tally → List ℕ
refusals_told form tally = faults_told form tally FAULTS

-- what of a recording couldn't be read, for people; nothing where all could
abbrev pub unread_rows : FrameCounts → List ℕ
unread_rows frames = where_so (has_unread frames) (unread_text frames)

abbrev pub unread_told : Form → FrameCounts → List ℕ
unread_told Text frames = unread_rows frames
unread_told Json frames = []

-- all of them, behind what couldn't be read and what came twice
abbrev pub tables_told : Form → List ℕ → List Stream → List Listing → Report → List ℕ
tables_told form wanted streams listings report =
    unread_told form report.frames ++ (twice_told form wanted streams ++ (streams_told form wanted report.length streams
    ++ (universes_told form wanted report.length streams ++ (lists_told form streams listings
    ++ (refusals_told form report.tally ++ with_line_end (counts_row form report))))))
