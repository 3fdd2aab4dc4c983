-- What is said of hosts that don't answer, and when.
use Rattle.std.specs.Prelude.{◌≤◌, ℕ, ◌+◌, Option, None, Some, ⊤}
use Rattle.sacn_desk.specs.declared.limits.TheConstants.{SILENT_FOR, ABSENT_EACH}
use Rattle.sacn_desk.specs.declared.absences.News.{News}
use Rattle.sacn_desk.specs.declared.absences.News.TheVariants.{NoAnswer, Answer}
use Rattle.sacn_desk.specs.declared.absences.Presence.{Presence}
use Rattle.sacn_desk.specs.declared.absences.Presence.TheVariants.{Answers, Silent, Absent, Back}

-- it was silent for so long, or a minute ago it was said that it doesn't answer
abbrev pub IsMissed : ℕ → Presence → Type 0
IsMissed now Answers = ⊥
IsMissed now (Silent since) = since + SILENT_FOR ≤ now
IsMissed now (Absent said) = said + ABSENT_EACH ≤ now
IsMissed now (Back said) = ⊥

-- it was said that it doesn't answer, and it does
abbrev pub IsBack : Presence → Type 0
IsBack Answers = ⊥
IsBack (Silent since) = ⊥
IsBack (Absent said) = ⊥
IsBack (Back said) = ⊤

-- what is said at a reading has its reason
abbrev pub HasReason : ℕ → Presence → Option News → Type 0
HasReason now p None = ⊤
HasReason now p (Some NoAnswer) = IsMissed now p
HasReason now p (Some Answer) = IsBack p
