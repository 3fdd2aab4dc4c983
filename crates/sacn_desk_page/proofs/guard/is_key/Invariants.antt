use Rattle.std.proofs.Common.{◌≡◌, ◌&&◌, drop}
use Rattle.std.specs.Str.{bytes_eq}
use Rattle.sacn_desk_page.proofs.guard.is_key.Given as goal

-- the letters so far are equal, and those that are left are, where all are
abbrev pub invariant-loop-place : goal.invariant-loop-place
invariant-loop-place l = (l.is_same && bytes_eq (drop l.place l.key) (drop l.place l.word)) ≡ bytes_eq l.key l.word
