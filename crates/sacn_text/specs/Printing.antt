-- What a writer has once something was printed to it.
use Rattle.std.specs.Prelude.{List, ℕ, Option, IsSome, Bool}
use Rattle.std.specs.Io.KnownBytes.{Appends}
use Rattle.sacn_text.specs.declared.marked_writer.MarkedWriter.{MarkedWriter}

-- its writer has failed: the latest write gave an error, or took nothing
abbrev pub has_failed : {W : Type 0} → MarkedWriter W → Bool
has_failed out = out.failed

-- a writer that always tells what it has now has these after what it had
abbrev pub Has : {W : Type 0} → (W → Option (List ℕ)) → W → W → List ℕ → Type 0
Has {W} contents old new more = ((w : W) → IsSome (contents w)) → Appends (contents old) (contents new) more
