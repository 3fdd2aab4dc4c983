-- Breaches of several streams as one.
use Rattle.std.specs.Prelude.{ℕ, ◌+◌, ◌-◌, ◌^◌, min, max, ◌==◌, List, [], ◌∷◌, if◌then◌else◌}
use Rattle.std.specs.Str.{bytes_eq}
use Rattle.sacn_audit.specs.declared.rule.Rule.{Rule}
use Rattle.sacn_audit.specs.declared.breach.Breach.{Breach}
use Rattle.sacn_audit.specs.declared.stream_register.AuditedStream.{AuditedStream}
use Rattle.sacn_audit.specs.Breaches.{breach_of}

-- how often a source broke a rule on a stream: never, where that is another one's
abbrev pub times_in : List ℕ → Rule → AuditedStream → ℕ
times_in cid rule s = if bytes_eq s.cid cid then (breach_of rule s.audit.breaches).times else 0

-- how often it broke it on all of these streams
abbrev pub times_on : List ℕ → Rule → List AuditedStream → ℕ
times_on cid rule [] = 0
times_on cid rule (s ∷ ss) = times_in cid rule s + times_on cid rule ss

-- both, where each is none or has its own moments
abbrev pub joined : Breach → Breach → Breach
joined total more =
    if more.times == 0 then total
    else if total.times == 0 then more
    else record { times = min (total.times + more.times) (2 ^ 64 - 1); first = min total.first more.first; latest = max total.latest more.latest }
