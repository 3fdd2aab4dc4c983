-- Why a text is refused.
use Rattle.std.proofs.Common.{◌≡◌, ◌≤◌, lit≤, inl, ℕ, List}
use Rattle.std.specs.Str.{IsUtf8}
use Rattle.sacn_node.specs.SetupFaults.{setup_fault_number}
use Rattle.sacn_node.specs.declared.setup.fault.SetupFault.{SetupFault}
use Rattle.sacn_node.specs.declared.setup.fault.SetupFault.TheVariants as setup
use Rattle.sacn_console.specs.ConsoleFaults.{show_fault_number}
use Rattle.sacn_console.specs.declared.show.fault.ShowFault.{ShowFault}
use Rattle.sacn_console.specs.declared.show.fault.ShowFault.TheVariants as show
use Rattle.sacn_c.specs.Making.{SetupStatus, ShowStatus}

pub setup_lacks : (octets : List ℕ) (status : ℕ) → IsUtf8 octets → status ≡ setup_fault_number setup.OutOfMemory → SetupStatus octets status
setup_lacks octets status text is = (λ _. inl is, λ none. absurd (none text))

pub show_lacks : (octets : List ℕ) (status : ℕ) → IsUtf8 octets → status ≡ show_fault_number show.OutOfMemory → ShowStatus octets status
show_lacks octets status text is = (λ _. inl is, λ none. absurd (none text))

pub setup_counts : (fault : SetupFault) → 1 ≤ setup_fault_number fault
setup_counts setup.OutOfMemory = lit≤ tt
setup_counts setup.Toml = lit≤ tt
setup_counts setup.MissingKey = lit≤ tt
setup_counts setup.UnknownKey = lit≤ tt
setup_counts setup.KeyValue = lit≤ tt
setup_counts setup.Version = lit≤ tt
setup_counts setup.PortTaken = lit≤ tt
setup_counts setup.Limit = lit≤ tt
setup_counts setup.RangeEnd = lit≤ tt
setup_counts setup.Overlap = lit≤ tt

pub show_counts : (fault : ShowFault) → 1 ≤ show_fault_number fault
show_counts show.OutOfMemory = lit≤ tt
show_counts show.Toml = lit≤ tt
show_counts show.MissingKey = lit≤ tt
show_counts show.UnknownKey = lit≤ tt
show_counts show.KeyValue = lit≤ tt
show_counts show.Version = lit≤ tt
show_counts show.Cue = lit≤ tt
show_counts show.Patch = lit≤ tt
