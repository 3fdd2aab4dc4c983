use Rattle.std.proofs.Common.{◌≡◌, ◌++◌, string_bytes}
use Rattle.std.specs.Slice.Iter.{chunks_rest, chunks_size}
use Rattle.sacn_tell.specs.Spelling.{octets_text}
use Rattle.sacn_tell.proofs.spelling.push_digits.Given as goal

-- what is written, and then the octets that are left, is all
abbrev pub invariant-loop-piece : goal.invariant-loop-piece
invariant-loop-piece l = record {
  pieces : chunks_size l.piece-iterator ≡ 512;
  text : string_bytes l.text ++ octets_text (chunks_rest l.piece-iterator) ≡ string_bytes l.fn.text ++ octets_text l.octets;
}
