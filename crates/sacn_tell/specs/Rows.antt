-- The rows of universes, lists and refusals: for people, and as objects of JSON.
use Rattle.std.specs.Prelude.{ℕ, List, ◌++◌, codes, decimal}
use Rattle.sacn_packets.specs.declared.root.fault.PacketFault.{PacketFault}
use Rattle.sacn_packets.specs.PacketFaults.{fault_number}
use Rattle.sacn_tell.specs.declared.table_rows.UniverseCounts.{UniverseCounts}
use Rattle.sacn_tell.specs.declared.listings.Listing.{Listing}
use Rattle.sacn_tell.specs.declared.options.Form.{Form}
use Rattle.sacn_tell.specs.declared.options.Form.TheVariants.{Text, Json}
use Rattle.sacn_tell.specs.Spelling.{flush_left, right}
use Rattle.sacn_tell.specs.Members.{number_member, row_front, source_members, word_member}
use Rattle.sacn_tell.specs.Sentences.{source_text}
use Rattle.sacn_tell.specs.Numbers.{numbers_member, ranges_text}
use Rattle.sacn_tell.specs.Refusals.{fault_name}

-- a number in nine places, behind a space
unfoldable pub column : ℕ → List ℕ
column n = codes " " ++ right 9 (decimal n)

-- a universe, the sources that were heard there and those that send
unfoldable pub universe_columns : ℕ → UniverseCounts → List ℕ
universe_columns universe c = right 8 (decimal universe) ++ (codes " " ++ (right 8 (decimal c.sources) ++ (codes " " ++ right 8 (decimal c.sending))))

unfoldable pub universe_text : ℕ → UniverseCounts → List ℕ
universe_text universe c = universe_columns universe c ++ (column c.taken ++ (column c.skipped ++ column c.discarded))

-- the same as members of an object, and the counts of its packets
unfoldable pub universe_members : ℕ → UniverseCounts → List ℕ
universe_members universe c = number_member (codes "universe") universe ++ (number_member (codes "sources") c.sources ++ number_member (codes "sending") c.sending)

unfoldable pub packets_members : UniverseCounts → List ℕ
packets_members c = number_member (codes "taken") c.taken ++ (number_member (codes "skipped") c.skipped ++ number_member (codes "discarded") c.discarded)

unfoldable pub universe_json : ℕ → UniverseCounts → List ℕ
universe_json universe c = row_front (codes "universe") ++ (universe_members universe c ++ (packets_members c ++ codes "}"))

abbrev pub universe_row : Form → ℕ → UniverseCounts → List ℕ
universe_row Text universe c = universe_text universe c
universe_row Json universe c = universe_json universe c

-- how a source's list differs from what was heard of it
unfoldable pub silent_text : List ℕ → List ℕ
silent_text numbers = codes "; listed and silent: " ++ ranges_text numbers

unfoldable pub unlisted_text : List ℕ → List ℕ
unlisted_text numbers = codes "; heard and unlisted: " ++ ranges_text numbers

abbrev pub list_row : Form → Listing → List ℕ → List ℕ → List ℕ → List ℕ
list_row Text l listed silent unlisted = source_text l.cid l.name.items ++ (codes "  lists " ++ (ranges_text listed ++ (silent_text silent ++ unlisted_text unlisted)))
list_row Json l listed silent unlisted =
    row_front (codes "list") ++ (source_members l.cid l.name.items
    ++ (numbers_member (codes "universes") listed ++ (numbers_member (codes "silent") silent ++ (numbers_member (codes "unlisted") unlisted ++ codes "}"))))

-- how many datagrams were refused for a fault
abbrev pub refused_row : Form → PacketFault → ℕ → List ℕ
refused_row Text fault count = flush_left 30 (fault_name fault) ++ (codes " " ++ decimal count)
refused_row Json fault count =
    row_front (codes "refused") ++ (number_member (codes "fault") (fault_number fault)
    ++ (word_member (codes "name") (fault_name fault) ++ (number_member (codes "count") count ++ codes "}")))
