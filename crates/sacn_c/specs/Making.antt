-- What a call makes that is to make something, and why it makes nothing.
use Rattle.std.specs.Prelude.{◌≡◌, ◌⊎◌, ◌==◌, ◌||◌, ℕ, nat_lt, not, length, if◌then◌else◌, List, [], Result, Ok, Err}
use Rattle.std.specs.List.{list_all}
use Rattle.std.specs.Str.{IsUtf8}
use Rattle.toml.specs.Parse.{parse_document}
use Rattle.sacn_files.specs.Numbers.{has_repeat}
use Rattle.sacn_node.specs.declared.limits.TheConstants.{MAX_PORTS}
use Rattle.sacn_node.specs.Setup.{Setup}
use Rattle.sacn_node.specs.SetupReading.{setup_or_toml}
use Rattle.sacn_node.specs.SetupFaults.{setup_fault_number}
use Rattle.sacn_node.specs.WholeUniverses.{is_universe}
use Rattle.sacn_node.specs.Cores.{new_node}
use Rattle.sacn_node.specs.declared.setup.fault.SetupFault.{SetupFault}
use Rattle.sacn_node.specs.declared.setup.fault.SetupFault.TheVariants as setup
use Rattle.sacn_console.specs.Shows.{ShowContent}
use Rattle.sacn_console.specs.ShowReading.{show_or_toml}
use Rattle.sacn_console.specs.ConsoleFaults.{show_fault_number}
use Rattle.sacn_console.specs.Due.{life_of}
use Rattle.sacn_console.specs.Runs.{core_by}
use Rattle.sacn_console.specs.declared.show.fault.ShowFault.{ShowFault}
use Rattle.sacn_console.specs.declared.show.fault.ShowFault.TheVariants as show
use Rattle.sacn_c.specs.declared.held_value.Held.{Held}
use Rattle.sacn_c.specs.declared.held_value.Held.TheVariants as held
use Rattle.sacn_c.specs.declared.status.TheConstants.{DONE, LENGTH, RANGE, OUT_OF_MEMORY}

-- there is a setup: this is the new node of its ports, and this its UDP port
abbrev pub NodeOf : Result Setup SetupFault → Held → ℕ → Type 0
NodeOf (Ok s) made port = (made ≡ held.Node (new_node s.ports)) × (port ≡ s.udp_port)
NodeOf (Err fault) made port = ⊥

abbrev pub setup_status : Result Setup SetupFault → ℕ
setup_status (Ok s) = DONE
setup_status (Err fault) = setup_fault_number fault

-- the status of a setup's octets: where they are text its first fault, want of memory apart, and else Toml
abbrev pub SetupStatus : List ℕ → ℕ → Type 0
SetupStatus octets status =
    (IsUtf8 octets → (status ≡ setup_fault_number setup.OutOfMemory) ⊎ (status ≡ setup_status (setup_or_toml (parse_document octets))))
    × (¬ (IsUtf8 octets) → status ≡ setup_fault_number setup.Toml)

-- the status of universes of which a node is to be made: how many they are, then which
abbrev pub universes_status : List ℕ → ℕ
universes_status us =
    if (length us == 0) || nat_lt MAX_PORTS (length us) then LENGTH
    else if not (list_all is_universe us) || has_repeat us then RANGE
    else DONE

-- why no node of universes is made: what they are, or want of memory
abbrev pub IsWant : List ℕ → ℕ → Type 0
IsWant us status = (status ≡ OUT_OF_MEMORY) ⊎ (status ≡ universes_status us)

-- there is a show: this is the console of it, of which nothing was asked yet, and whose first packets have this number
abbrev pub ConsoleOf : Result ShowContent ShowFault → ℕ → Held → Type 0
ConsoleOf (Ok s) first made = made ≡ held.Console (core_by (life_of s first) 0 [])
ConsoleOf (Err fault) first made = ⊥

abbrev pub show_status : Result ShowContent ShowFault → ℕ
show_status (Ok s) = DONE
show_status (Err fault) = show_fault_number fault

-- the same of a show's octets
abbrev pub ShowStatus : List ℕ → ℕ → Type 0
ShowStatus octets status =
    (IsUtf8 octets → (status ≡ show_fault_number show.OutOfMemory) ⊎ (status ≡ show_status (show_or_toml (parse_document octets))))
    × (¬ (IsUtf8 octets) → status ≡ show_fault_number show.Toml)
