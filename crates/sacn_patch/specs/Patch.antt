-- A patch: a finite map from places to the parts of channels that they show (profile).
use Rattle.std.specs.Prelude.{◌≡◌, ◌≤◌, ℕ, ◌+◌, Bool, ◌||◌, ◌&&◌, nat_lt, List, map, Option, Some, None, is_some, if◌then◌else◌}
use Rattle.std.specs.List.{range_with_len}
use Rattle.std.specs.Ordering.{nat_cmp, ordering_then}
use Rattle.std.specs.declared.cmp.Ordering.{Ordering}
use Rattle.std.specs.FinMap.{FinMap, get, insert}
use Rattle.std.specs.FinMap as finmap
use Rattle.std.specs.Coded.{Coded, coded×, coded_ℕ}
use Rattle.sacn_patch.specs.declared.limits.TheConstants.{MAX_CHANNELS}
use Rattle.sacn_packets.specs.declared.universe.TheConstants.{MAX_UNIVERSE, SLOTS}
use Rattle.sacn_patch.specs.declared.part.Part.{Part}
use Rattle.sacn_patch.specs.declared.fault.PatchFault.{PatchFault}
use Rattle.sacn_patch.specs.declared.fault.PatchFault.TheVariants.{ChannelRange, SlotRange, SlotTaken}
use Rattle.sacn_patch.specs.Parts.{part_of_level, high_part, low_part, part_code}

-- a universe, and a slot of it
abbrev pub Place : Type 0
Place = ℕ × ℕ

-- by universe, then by slot
abbrev pub place_cmp : Place → Place → Ordering
place_cmp x y = ordering_then (nat_cmp x.0 y.0) (nat_cmp x.1 y.1)

-- what the places show
abbrev pub Patched : Type 0
Patched = FinMap place_cmp Part

-- ---- what a slot shows

-- the octet of its channel's level, 0 where nothing is patched
abbrev pub slot_level : (ℕ → ℕ) → Option Part → ℕ
slot_level level None = 0
slot_level level (Some part) = part_of_level (level part.channel) part

-- the slots of a universe, under these levels of the channels
unfoldable pub universe_frame : (ℕ → ℕ) → Patched → ℕ → List ℕ
universe_frame level patch universe = map (λ i. slot_level level (get patch (universe, i + 1))) (range_with_len 0 SLOTS)

-- P holds of each channel that a slot of the universe shows
abbrev pub EachShown : Patched → ℕ → (ℕ → Type 0) → Type 0
EachShown patch universe P = (slot : ℕ) (part : Part) → 1 ≤ slot → slot ≤ SLOTS → get patch (universe, slot) ≡ Some part → P part.channel

-- ---- what a call of `add` does

abbrev pub is_outside : ℕ → ℕ → ℕ → Bool
is_outside low high n = nat_lt n low || nat_lt high n

-- a wide channel needs the next slot too
abbrev pub has_bad_place : ℕ → ℕ → Bool → Bool
has_bad_place universe slot wide = is_outside 1 MAX_UNIVERSE universe || (is_outside 1 SLOTS slot || (wide && nat_lt SLOTS (slot + 1)))

abbrev pub is_taken : Patched → ℕ → ℕ → Bool → Bool
is_taken patch universe slot wide = is_some (get patch (universe, slot)) || (wide && is_some (get patch (universe, slot + 1)))

-- the first check that fails
abbrev pub refusal : Patched → ℕ → ℕ → ℕ → Bool → Option PatchFault
refusal patch channel universe slot wide =
    if is_outside 1 MAX_CHANNELS channel then Some ChannelRange
    else (if has_bad_place universe slot wide then Some SlotRange
    else (if is_taken patch universe slot wide then Some SlotTaken else None))

-- the patch with the slot, and with the next one where the channel is wide
abbrev pub with_slot : Patched → ℕ → ℕ → ℕ → Bool → Patched
with_slot patch channel universe slot wide =
    if wide then insert (insert patch (universe, slot) (high_part channel)) (universe, slot + 1) (low_part channel)
    else insert patch (universe, slot) (high_part channel)

-- ---- codes

abbrev pub patch_code : Coded Patched
patch_code = finmap.code (coded× coded_ℕ coded_ℕ) part_code
