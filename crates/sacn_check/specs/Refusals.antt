-- Why a reader refuses a text, and what is told first.
use Rattle.std.specs.Prelude.{ℕ, List, [], ◌∷◌, Option, None, Some, Result, Ok, Err}
use Rattle.toml.specs.Parse.{parse_document}
use Rattle.sacn_console.specs.ShowReading.{show_or_toml}
use Rattle.sacn_console.specs.Scripts.{script_in}
use Rattle.sacn_node.specs.SetupReading.{setup_or_toml}
use Rattle.sacn_schedule.specs.WorldFile.{world_or_toml}
use Rattle.sacn_schedule.specs.Schedules.{schedule_in}
use Rattle.sacn_check.specs.declared.kinds.FileKind.{FileKind}
use Rattle.sacn_check.specs.declared.kinds.FileKind.TheVariants as kind
use Rattle.sacn_check.specs.declared.refusal.Refusal.{Refusal}
use Rattle.sacn_check.specs.declared.refusal.Refusal.TheVariants.{Show, Setup, World, Text}
use Rattle.sacn_check.specs.declared.finding.Finding.{Finding}

-- the fault that a reading ends with, if it does
abbrev pub refusal_by : {X F : Type 0} → (F → Refusal) → Result X F → Option Refusal
refusal_by name (Ok x) = None
refusal_by name (Err fault) = Some (name fault)

-- why a text isn't a file of this kind, by the definition of the kind's reader
abbrev pub refusal : FileKind → List ℕ → Option Refusal
refusal kind.Show text = refusal_by Show (show_or_toml (parse_document text))
refusal kind.Setup text = refusal_by Setup (setup_or_toml (parse_document text))
refusal kind.World text = refusal_by World (world_or_toml (parse_document text))
refusal kind.Script text = refusal_by Text (script_in text)
refusal kind.Schedule text = refusal_by Text (schedule_in text)

-- what is told first, if anything is
abbrev pub first_refusal : List Finding → Option Refusal
first_refusal [] = None
first_refusal (f ∷ fs) = Some f.refusal
