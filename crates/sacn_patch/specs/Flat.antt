-- A patch in one row.
use Rattle.std.specs.Prelude.{◌≡◌, ℕ, suc, zero, ◌+◌, ◌-◌, ◌<◌, ◌≤◌, Bool, ◌&&◌, ◌==◌, nat_le, List, length, get_or, set, slice_index_or, if◌then◌else◌}
use Rattle.std.specs.BTreeMap as tree
use Rattle.std.specs.BTreeMap.{BTreeMap}
use Rattle.sacn_patch.specs.Patch.{Place, place_cmp}
use Rattle.sacn_patch.specs.declared.part.Part.{Part}
use Rattle.sacn_patch.specs.declared.flat.Mark.{Mark}
use Rattle.sacn_patch.specs.Parts.{octet_place}

abbrev pub Row : Type 0
Row = List (Place × Part)

-- the entries of an ordered tree
abbrev pub IsRowOfTree : Row → Type 0
IsRowOfTree row = (m : BTreeMap Place Part) × (m.entries ≡ row) × tree.IsOrdered place_cmp m

-- the universes before a place are lower
abbrev pub AllBelow : ℕ → Row → ℕ → Type 0
AllBelow universe row place = (i : ℕ) (d : Place × Part) → i < place → i < length row → (slice_index_or row i d).0.0 < universe

-- those from a place on are not
abbrev pub AllFrom : ℕ → Row → ℕ → Type 0
AllFrom universe row place = (i : ℕ) (d : Place × Part) → place ≤ i → i < length row → universe ≤ (slice_index_or row i d).0.0

-- the universe begins at a place, or would stand there
abbrev pub IsStart : ℕ → Row → ℕ → Type 0
IsStart universe row place = AllBelow universe row place × AllFrom universe row place × (place ≤ length row)

-- each universe from 0 on begins where its number says
abbrev pub AreStarts : Row → List ℕ → Type 0
AreStarts row starts = (universe : ℕ) → universe < length starts → IsStart universe row (get_or starts universe 0)

-- the mark of an entry alone
abbrev pub mark_of : Place × Part → Mark
mark_of e = record { slot = e.0.1; run = 1; step = 0; octet = octet_place e.1 }

-- the entry at a place shows that octet on that slot
abbrev pub Shows : Row → ℕ → ℕ → ℕ → Type 0
Shows row place slot octet = (place < length row) × ((d : Place × Part) → ((slice_index_or row place d).0.1 ≡ slot) × (octet_place (slice_index_or row place d).1 ≡ octet))

-- so many entries from a place on show, on slots one after another, octets that stand a step apart
abbrev pub AreInStep : Row → ℕ → ℕ → ℕ → ℕ → ℕ → Type 0
AreInStep row step zero place slot octet = Unit {0}
AreInStep row step (suc run) place slot octet = Shows row place slot octet × AreInStep row step run (place + 1) (slot + 1) (octet + step)

-- the mark tells what the entry at a place shows, and how those behind it go on
abbrev pub IsMark : Row → ℕ → Mark → Type 0
IsMark row place mark = (1 ≤ mark.run) × AreInStep row mark.step mark.run place mark.slot mark.octet

-- each entry has its mark
abbrev pub AreMarks : Row → List Mark → Type 0
AreMarks row marks = (length marks ≡ length row) × ((place : ℕ) (d : Mark) → place < length row → IsMark row place (slice_index_or marks place d))

-- the entry of the mark stands on a slot, and shows one of so many octets
abbrev pub IsThere : ℕ → Mark → Type 0
IsThere octets mark = (1 ≤ mark.slot) × (mark.slot ≤ 512) × (mark.octet < octets)

-- that of each mark does
abbrev pub AreThere : ℕ → List Mark → Type 0
AreThere octets marks = (place : ℕ) (d : Mark) → place < length marks → IsThere octets (slice_index_or marks place d)

-- the slots with that octet on one of them, or none where the number is none of a slot
abbrev pub with_octet : List ℕ → ℕ → ℕ → List ℕ → List ℕ
with_octet octets slot octet slots = if (nat_le 1 slot && nat_le slot 512) then set slots (slot - 1) (get_or octets octet 0) else slots

-- the slots with so many octets, a step apart, on slots one after another
abbrev pub with_run : List ℕ → ℕ → ℕ → ℕ → ℕ → List ℕ → List ℕ
with_run octets step zero slot octet slots = slots
with_run octets step (suc run) slot octet slots = with_run octets step run (slot + 1) (octet + step) (with_octet octets slot octet slots)

-- a slot of the universe
abbrev pub is_within : ℕ → Place → Bool
is_within universe place = place.0 == universe && (nat_le 1 place.1 && nat_le place.1 512)
