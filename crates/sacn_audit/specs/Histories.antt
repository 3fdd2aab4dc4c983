-- What an audit keeps over any packets of its stream: a list, the latest first.
use Rattle.std.specs.Prelude.{◌≡◌, Bool, false, List, [], ◌∷◌, Option, Some, None}
use Rattle.sacn_audit.specs.declared.rule.Rule.{Rule}
use Rattle.sacn_audit.specs.declared.breach.Breach.{Breach}
use Rattle.sacn_audit.specs.declared.audit.StreamAudit.{StreamAudit}
use Rattle.sacn_audit.specs.Arrivals.{Arrival, IsInOrder, in_turn}
use Rattle.sacn_audit.specs.Rules.{breaks, is_short_end, moments_where}
use Rattle.sacn_audit.specs.Breaches.{breach_by, breach_of, no_breach}
use Rattle.sacn_audit.specs.Audits.{after_packet, first_audit, is_short}

-- what the contracts of the calls say: the first packet begins the audit, and each other one is heard
abbrev pub audit_with : Arrival → Option StreamAudit → StreamAudit
audit_with x None = first_audit x.moment x.delivery x.packet
audit_with x (Some a) = after_packet x.moment x.delivery x.packet a

abbrev pub audit_by : List Arrival → Option StreamAudit
audit_by [] = None
audit_by (x ∷ earlier) = Some (audit_with x (audit_by earlier))

-- what it says of a rule, and of an end; of no packets there is none
abbrev pub breach_in : Rule → Option StreamAudit → Breach
breach_in rule None = no_breach
breach_in rule (Some a) = breach_of rule a.breaches

abbrev pub is_short_in : Option StreamAudit → Bool
is_short_in None = false
is_short_in (Some a) = is_short a.ends

-- For any packets the audit says of each rule how many of them broke it, the first and the latest moment of these.
abbrev pub BreachesAreOfTheirPackets : Type 0
BreachesAreOfTheirPackets = (xs : List Arrival) (rule : Rule) → breach_in rule (audit_by xs) ≡ breach_by (moments_where (breaks rule) (in_turn xs))

-- It says that the stream has a short end where its packets have one.
abbrev pub ShortEndsAreOfTheirPackets : Type 0
ShortEndsAreOfTheirPackets = (xs : List Arrival) → is_short_in (audit_by xs) ≡ is_short_end xs

-- Packets of which none is before an earlier one are in turn as they are.
abbrev pub OrderIsKept : Type 0
OrderIsKept = (xs : List Arrival) → IsInOrder xs → in_turn xs ≡ xs
