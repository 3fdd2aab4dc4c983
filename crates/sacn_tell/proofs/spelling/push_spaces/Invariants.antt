use Rattle.std.proofs.Common.{◌≡◌, ◌++◌, replicate, string_bytes}
use Rattle.sacn_tell.proofs.spelling.push_spaces.Given as goal

-- the spaces so far are written
abbrev pub invariant-loop-space : goal.invariant-loop-space
invariant-loop-space l = string_bytes l.text ≡ string_bytes l.fn.text ++ replicate l._space 32
