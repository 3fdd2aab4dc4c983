-- How C is told the faults of a setup or a show.
use Rattle.std.specs.Prelude.{ℕ, nat_lt, if◌then◌else◌}
use Rattle.sacn_c.specs.declared.faults.TheConstants.{MAX_TEXT_OCTETS}
use Rattle.sacn_c.specs.declared.status.TheConstants.{DONE, LENGTH}

-- the status, by the octets of the text, of the room and of the lines, want of memory apart
abbrev pub faults_status : ℕ → ℕ → ℕ → ℕ
faults_status text room lines =
    if nat_lt MAX_TEXT_OCTETS text then LENGTH
    else if nat_lt room lines then LENGTH
    else DONE
