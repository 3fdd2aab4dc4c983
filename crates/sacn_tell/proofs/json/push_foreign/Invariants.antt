use Rattle.std.proofs.Common.{◌≡◌, ◌++◌, string_bytes}
use Rattle.std.specs.Str.Chunks.{utf8_chunks_rest}
use Rattle.sacn_tell.specs.Foreign.{foreign_text}
use Rattle.sacn_tell.proofs.json.push_foreign.Given as goal

-- what is written, and then the octets that are left, is all
abbrev pub invariant-loop-chunk : goal.invariant-loop-chunk
invariant-loop-chunk l = string_bytes l.text ++ foreign_text (utf8_chunks_rest l.chunk-iterator) ≡ string_bytes l.fn.text ++ foreign_text l.octets
