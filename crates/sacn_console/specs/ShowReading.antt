-- A show file: its faults by phases, and its value (profile).
use Rattle.std.specs.Prelude.{◌≡◌, ◌⊎◌, ◌&&◌, ◌==◌, ℕ, nat_le, Bool, not, false, List, [], ◌∷◌, length, Option, None, Some, if◌then◌else◌, codes, option_and_then, ok_or, Result, Ok, Err}
use Rattle.std.specs.List.{list_any}
use Rattle.std.specs.FinMap.{empty}
use Rattle.toml.specs.Data.{Data, Members, get_member, as_str, as_bool}
use Rattle.uuid.specs.Text.{parsed}
use Rattle.sacn_packets.specs.Naming.{is_nameable}
use Rattle.sacn_packets.specs.declared.universe.TheConstants.{MAX_PRIORITY}
use Rattle.sacn_patch.specs.Patch.{Patched, with_slot, refusal}
use Rattle.sacn_patch.specs.declared.fault.PatchFault.{PatchFault}
use Rattle.sacn_patch.specs.declared.fault.PatchFault.TheVariants as patch
use Rattle.sacn_packets.specs.declared.universe.TheConstants.{MAX_UNIVERSE}
use Rattle.sacn_cues.specs.Adding.{cue_refusal, with_cue}
use Rattle.sacn_cues.specs.Cues.{Cues, KeptCue}
use Rattle.sacn_cues.specs.declared.fault.CueFault.{CueFault}
use Rattle.sacn_cues.specs.declared.fault.CueFault.TheVariants as cue
use Rattle.sacn_packets.specs.Results.{◌>>=◌}
use Rattle.sacn_files.specs.Keys.{KeyTable, has_known_keys, has_keys, rows_are_known, rows_have_keys}
use Rattle.sacn_files.specs.Values.{rows_at, has_rows, number_in, number_at, array_values, array_at, members_or_none, value_or}
use Rattle.sacn_files.specs.Rows.{each}
use Rattle.sacn_files.specs.Lines.{before}
use Rattle.sacn_files.specs.Numbers.{has_repeat, in_order}
use Rattle.sacn_files.specs.Document.{version_in}
use Rattle.sacn_files.specs.declared.limits.TheConstants.{DEFAULT_UDP_PORT, MIN_UDP_PORT, MAX_UDP_PORT}
use Rattle.sacn_files.specs.declared.faults.FileFault.{FileFault}
use Rattle.sacn_files.specs.declared.faults.FileFault.TheVariants as file
use Rattle.sacn_console.specs.Shows.{ShowContent}
use Rattle.sacn_console.specs.declared.limits.TheConstants.{CONSOLE_UNIVERSES, MAX_DESTINATIONS, DEFAULT_PRIORITY, NEWEST_SHOW}
use Rattle.sacn_console.specs.declared.show.fault.ShowFault.{ShowFault}
use Rattle.sacn_console.specs.declared.show.fault.ShowFault.TheVariants.{OutOfMemory, Toml, MissingKey, UnknownKey, KeyValue, Version, Cue, Patch}
use Rattle.sacn_console.specs.declared.show.patches.PatchRow.{PatchRow}

-- a value that has to be there, of its kind and in its range
abbrev pub required : {X : Type 0} → Option X → Result X ShowFault
required o = ok_or o KeyValue

-- a call gives what stands for this value, or this fault, unless a request for memory was refused
abbrev pub GivesAs : {X Y : Type 0} → (X → Y) → Result X ShowFault → Result Y ShowFault → Type 0
GivesAs value (Ok x) wanted = wanted ≡ Ok (value x)
GivesAs value (Err fault) wanted = (fault ≡ OutOfMemory) ⊎ (wanted ≡ Err fault)

-- who sends: the values that stand alone
pub record Identity : Type 0 where
  pub cid : List ℕ
  pub name : List ℕ
  pub priority : ℕ

-- the keys of each table: those that it must have, and those that it may have
abbrev pub show_keys : KeyTable
show_keys =
    record {
      required = codes "version" ∷ codes "cid" ∷ codes "name" ∷ codes "universes" ∷ [];
      optional = codes "priority" ∷ codes "send_to" ∷ codes "cue" ∷ codes "patch" ∷ [];
    }

abbrev pub cue_keys : ℕ → KeyTable
cue_keys version =
    record {
      required = if version == 1 then codes "number" ∷ codes "fade" ∷ codes "levels" ∷ [] else codes "number" ∷ codes "up" ∷ codes "down" ∷ codes "levels" ∷ [];
      optional = [];
    }

abbrev pub patch_keys : KeyTable
patch_keys = record { required = codes "channel" ∷ codes "universe" ∷ codes "slot" ∷ []; optional = codes "wide" ∷ [] }

-- the tables of `cue` and of `patch`
abbrev pub cue_rows : Members → List Data
cue_rows ms = rows_at (codes "cue") ms

abbrev pub patch_rows : Members → List Data
patch_rows ms = rows_at (codes "patch") ms

-- no table has another key
abbrev pub keys_are_known : ℕ → Members → Bool
keys_are_known version ms = has_known_keys show_keys ms && (rows_are_known (cue_keys version) (cue_rows ms) && rows_are_known patch_keys (patch_rows ms))

-- each required key of a cue, and of an entry of the patch, is there
unfoldable pub rows_are_whole : ℕ → Members → Bool
rows_are_whole version ms = rows_have_keys (cue_keys version) (cue_rows ms) && rows_have_keys patch_keys (patch_rows ms)

-- each required key is there
abbrev pub keys_are_there : ℕ → Members → Bool
keys_are_there version ms = has_keys show_keys ms && rows_are_whole version ms

-- a name: at most 63 octets, none of them NUL
abbrev pub name_in : Data → Option (List ℕ)
name_in d = option_and_then (λ s. if is_nameable s then Some s else None) (as_str d)

abbrev pub cid_in : Data → Option (List ℕ)
cid_in d = option_and_then parsed (as_str d)

abbrev pub priority_of : Members → Option ℕ
priority_of ms = value_or DEFAULT_PRIORITY (number_in 0 MAX_PRIORITY) (get_member (codes "priority") ms)

abbrev pub identity_in : Members → Result Identity ShowFault
identity_in ms = do
  cid ← required (option_and_then cid_in (get_member (codes "cid") ms))
  name ← required (option_and_then name_in (get_member (codes "name") ms))
  priority ← required (priority_of ms)
  Ok (record { cid = cid; name = name; priority = priority })

-- at most CONSOLE_UNIVERSES different numbers, in ascending order
abbrev pub different : List ℕ → Option (List ℕ)
different us = if has_repeat us then None else Some (in_order (λ n. n) us)

abbrev pub universes_in : List Data → Option (List ℕ)
universes_in ds = if nat_le (length ds) CONSOLE_UNIVERSES then option_and_then different (each (number_in 1 MAX_UNIVERSE) ds) else None

abbrev pub universes_of : Members → Option (List ℕ)
universes_of ms = option_and_then (λ d. option_and_then universes_in (array_values d)) (get_member (codes "universes") ms)

-- at most MAX_DESTINATIONS ports, in the file's order
abbrev pub send_to_in : List Data → Option (List ℕ)
send_to_in ds = if nat_le (length ds) MAX_DESTINATIONS then each (number_in MIN_UDP_PORT MAX_UDP_PORT) ds else None

abbrev pub send_to_of : Members → Option (List ℕ)
send_to_of ms = value_or (DEFAULT_UDP_PORT ∷ []) (λ d. option_and_then send_to_in (array_values d)) (get_member (codes "send_to") ms)

-- a channel and its level
abbrev pub pair_in : List Data → Option (ℕ × ℕ)
pair_in (c ∷ l ∷ []) = option_and_then (λ channel. option_and_then (λ level. Some (channel, level)) (number_in 0 65535 l)) (number_in 0 65535 c)
pair_in _ = None

abbrev pub level_in : Data → Option (ℕ × ℕ)
level_in d = option_and_then pair_in (array_values d)

abbrev pub levels_at : Data → Option (List (ℕ × ℕ))
levels_at d = option_and_then (λ ds. each level_in ds) (array_at (codes "levels") d)

-- the up and the down time
abbrev pub times_in : ℕ → Data → Option (ℕ × ℕ)
times_in version d =
    if version == 1 then option_and_then (λ t. Some (t, t)) (number_at 0 4294967295 (codes "fade") d)
    else option_and_then (λ up. option_and_then (λ down. Some (up, down)) (number_at 0 4294967295 (codes "down") d)) (number_at 0 4294967295 (codes "up") d)

abbrev pub cue_in : ℕ → Data → Result KeptCue ShowFault
cue_in version d = do
  number ← required (number_at 0 65535 (codes "number") d)
  times ← required (times_in version d)
  levels ← required (levels_at d)
  Ok (record { number = number; up = times.0; down = times.1; levels = levels })

abbrev pub cues_in : ℕ → List Data → Result (List KeptCue) ShowFault
cues_in version [] = Ok []
cues_in version (d ∷ ds) = before (cue_in version d) (cues_in version ds)

abbrev pub wide_of : Data → Option Bool
wide_of d = value_or false as_bool (get_member (codes "wide") (members_or_none d))

abbrev pub patch_in : Data → Option PatchRow
patch_in d =
    option_and_then (λ c. option_and_then (λ u. option_and_then (λ s. option_and_then
    (λ w. Some (record { channel = c; universe = u; slot = s; wide = w }))
    (wide_of d)) (number_at 0 65535 (codes "slot") d)) (number_at 0 65535 (codes "universe") d)) (number_at 0 65535 (codes "channel") d)

abbrev pub patches_in : List Data → Option (List PatchRow)
patches_in ds = each patch_in ds

-- what a file says, value by value
pub record Draft : Type 0 where
  pub identity : Identity
  pub universes : List ℕ
  pub send_to : List ℕ
  pub cues : List KeptCue
  pub patch : List PatchRow

abbrev pub draft_in : ℕ → Members → Result Draft ShowFault
draft_in version ms = do
  identity ← identity_in ms
  universes ← required (universes_of ms)
  send_to ← required (send_to_of ms)
  cues ← cues_in version (cue_rows ms)
  patch ← required (patches_in (patch_rows ms))
  Ok (record { identity = identity; universes = universes; send_to = send_to; cues = cues; patch = patch })

-- each cue added to those before it
abbrev pub unless_cue : Option CueFault → Result Cues ShowFault → Result Cues ShowFault
unless_cue None later = later
unless_cue (Some fault) later = Err Cue

abbrev pub cues_added : Cues → List KeptCue → Result Cues ShowFault
cues_added done [] = Ok done
cues_added done (c ∷ cs) = unless_cue (cue_refusal done c) (cues_added (with_cue done c) cs)

-- each row of the patch, whose universe is one of the show's, added to those before it
abbrev pub unless_patch : Option PatchFault → Result Patched ShowFault → Result Patched ShowFault
unless_patch None later = later
unless_patch (Some fault) later = Err Patch

abbrev pub patches_added : List ℕ → Patched → List PatchRow → Result Patched ShowFault
patches_added us done [] = Ok done
patches_added us done (r ∷ rs) =
    if list_any (λ u. u == r.universe) us then unless_patch (refusal done r.channel r.universe r.slot r.wide) (patches_added us (with_slot done r.channel r.universe r.slot r.wide) rs) else Err Patch

-- the last phase: the cues, and then the patch
abbrev pub last_phase : Draft → Result ShowContent ShowFault
last_phase draft = do
  cues ← cues_added empty draft.cues
  patch ← patches_added draft.universes empty draft.patch
  Ok (record { cid = draft.identity.cid; name = draft.identity.name; priority = draft.identity.priority; universes = draft.universes; send_to = draft.send_to; cues = cues; patch = patch })

-- the values, and then the last phase
abbrev pub value_phase : ℕ → Members → Result ShowContent ShowFault
value_phase version ms = if has_rows (codes "cue") ms && has_rows (codes "patch") ms then draft_in version ms >>= last_phase else Err KeyValue

-- the same fault of a show
abbrev pub show_fault_of : FileFault → ShowFault
show_fault_of file.OutOfMemory = OutOfMemory
show_fault_of file.Toml = Toml
show_fault_of file.MissingKey = MissingKey
show_fault_of file.UnknownKey = UnknownKey
show_fault_of file.KeyValue = KeyValue
show_fault_of file.Version = Version

-- a list's fault, as the show's
abbrev pub show_fault_of_cue : CueFault → ShowFault
show_fault_of_cue cue.OutOfMemory = OutOfMemory
show_fault_of_cue cue.NumberTaken = Cue
show_fault_of_cue cue.ChannelRange = Cue
show_fault_of_cue cue.FadeRange = Cue
show_fault_of_cue cue.Full = Cue

-- a patch's fault, as the show's
abbrev pub show_fault_of_patch : PatchFault → ShowFault
show_fault_of_patch patch.OutOfMemory = OutOfMemory
show_fault_of_patch patch.ChannelRange = Patch
show_fault_of_patch patch.SlotRange = Patch
show_fault_of_patch patch.SlotTaken = Patch

-- the phases after the version
abbrev pub after_version : Result ℕ FileFault → Members → Result ShowContent ShowFault
after_version (Err fault) ms = Err (show_fault_of fault)
after_version (Ok version) ms =
    if not (keys_are_known version ms) then Err UnknownKey
    else if not (keys_are_there version ms) then Err MissingKey
    else value_phase version ms

-- a show's value, or the fault of the first phase that fails
abbrev pub show_in : Members → Result ShowContent ShowFault
show_in ms = after_version (version_in NEWEST_SHOW (get_member (codes "version") ms)) ms

-- where the text is a document
abbrev pub show_or_toml : Option Members → Result ShowContent ShowFault
show_or_toml None = Err Toml
show_or_toml (Some ms) = show_in ms
