-- What is said of a destination's failures.
use Rattle.std.specs.Prelude.{◌≡◌, ◌≤◌, ℕ, ◌+◌, Option, None, Some, ⊤}
use Rattle.sacn_machine.specs.declared.limits.TheConstants.{SAID_EACH}
use Rattle.sacn_desk.specs.declared.notices.Said.{Said}
use Rattle.sacn_desk.specs.declared.notices.Said.TheVariants.{Nothing, Failed, Again}

-- how many failures are said
abbrev pub said_failures : Said → ℕ
said_failures Nothing = 0
said_failures (Failed n) = n
said_failures Again = 0

abbrev pub IsPast : ℕ → Option ℕ → Type 0
IsPast now None = ⊤
IsPast now (Some said) = said + SAID_EACH ≤ now

-- failures are said no sooner than a second after they were said before, and the moment is kept
abbrev pub IsSeldom : ℕ → Said → Option ℕ → Option ℕ → Type 0
IsSeldom now Nothing before after = after ≡ before
IsSeldom now (Failed n) before after = IsPast now before × (after ≡ Some now)
IsSeldom now Again before after = after ≡ before
