-- The first two phases of reading a file (profile): the document, and its version.
use Rattle.std.specs.Prelude.{String, ◌≡◌, ◌⊎◌, ◌&&◌, ℕ, pos, negsuc, nat_le, List, Option, None, Some, Result, Ok, Err, if◌then◌else◌}
use Rattle.toml.specs.Data.{Data, integer}
use Rattle.toml.specs.Parse.{parse_document}
use Rattle.toml.specs.View.{table_view}
use Rattle.std.specs.declared.alloc.Global.{Global}
use Rattle.std.specs.BTreeMap.{BTreeMap}
use Rattle.toml.specs.declared.value.Value.{Value}
use Rattle.sacn_files.specs.declared.faults.FileFault.{FileFault}
use Rattle.sacn_files.specs.declared.faults.FileFault.TheVariants.{OutOfMemory, Toml, MissingKey, KeyValue, Version}

-- the text's document, or why there is none
abbrev pub ReadsDocument : List ℕ → Result (BTreeMap (String Global) Value) FileFault → Type 0
ReadsDocument text (Ok t) = parse_document text ≡ Some (table_view t)
ReadsDocument text (Err fault) = (fault ≡ OutOfMemory) ⊎ ((fault ≡ Toml) × (parse_document text ≡ None))

-- the version: a whole number from 1 to the newest; booleans and floats are no whole numbers
abbrev pub version_in : ℕ → Option Data → Result ℕ FileFault
version_in newest None = Err MissingKey
version_in newest (Some (integer (pos n))) = if nat_le 1 n && nat_le n newest then Ok n else Err Version
version_in newest (Some (integer (negsuc n))) = Err Version
version_in newest (Some d) = Err KeyValue

-- a call gives this value or this fault, unless a growth was refused
abbrev pub Gives : {X F : Type 0} → F → Result X F → Result X F → Type 0
Gives memory (Ok x) wanted = wanted ≡ Ok x
Gives memory (Err fault) wanted = (fault ≡ memory) ⊎ (wanted ≡ Err fault)
