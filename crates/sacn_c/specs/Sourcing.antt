-- What C asks of a source to which it hands levels, and what it is told.
use Rattle.std.specs.Prelude.{◌≡◌, ℕ, nat_lt, List, Option, Some, None, Result, Ok, Err, if◌then◌else◌}
use Rattle.std.specs.Str.{IsUtf8}
use Rattle.sacn_packets.specs.Naming.{name_from}
use Rattle.sacn_console.specs.Core.{universe_of}
use Rattle.sacn_console.specs.Lines.{Datagram}
use Rattle.sacn_source.specs.Source.{new_source}
use Rattle.sacn_source.specs.SourceFaults.{source_fault_number}
use Rattle.sacn_source.specs.declared.fault.SourceFault.{SourceFault}
use Rattle.sacn_source.specs.declared.fault.SourceFault.TheVariants.{BadPriority, OutOfMemory}
use Rattle.sacn_c.specs.declared.held_value.Held.{Held}
use Rattle.sacn_c.specs.declared.held_value.Held.TheVariants as held
use Rattle.sacn_c.specs.declared.status.TheConstants.{DONE, NAME}

abbrev pub order_status : Result (Unit {0}) SourceFault → ℕ
order_status (Ok done) = DONE
order_status (Err fault) = source_fault_number fault

-- a name's field, if there is one: this is the new source of a sender of this name
abbrev pub SourceOf : List ℕ → Option (List ℕ) → ℕ → ℕ → ℕ → Option Held → Type 0
SourceOf cid None priority room first made = ⊥
SourceOf cid (Some name) priority room first made =
    made ≡ Some (held.Source (new_source (record { cid = cid; name = name; priority = priority }) room first))

-- why none is made: the name, then the priority, then want of memory
abbrev pub unnamed_or : ℕ → Option (List ℕ) → ℕ
unnamed_or priority None = NAME
unnamed_or priority (Some name) = if nat_lt 200 priority then source_fault_number BadPriority else source_fault_number OutOfMemory

-- the same of a name's octets, which may be no text
abbrev pub SourceStatus : List ℕ → ℕ → ℕ → Type 0
SourceStatus name priority status = (IsUtf8 name → status ≡ unnamed_or priority (name_from name)) × (¬ (IsUtf8 name) → status ≡ NAME)

abbrev pub universe_or_zero : Option ℕ → ℕ
universe_or_zero None = 0
universe_or_zero (Some universe) = universe

-- the universe of the datagram that is due: 0 of a page, and where none is
abbrev pub due_universe : Option Datagram → ℕ
due_universe None = 0
due_universe (Some datagram) = universe_or_zero (universe_of datagram)
