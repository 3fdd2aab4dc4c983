-- What a node with room for it holds of a source on a universe, as the rows of its table say it.
use Rattle.std.specs.Prelude.{ℕ, ◌+◌, ◌-◌, ◌^◌, min, nat_lt, Bool, true, false, not, ◌||◌, ◌==◌, Option, Some, None, if◌then◌else◌}
use Rattle.sacn_sources.specs.declared.limits.TheConstants.{NETWORK_DATA_LOSS}
use Rattle.sacn_sources.specs.declared.kind.Kind.{Kind}
use Rattle.sacn_sources.specs.declared.kind.Kind.TheVariants.{Termination, Preview, Live, Other}
use Rattle.sacn_monitor.specs.declared.holding.Holding.{Holding}
use Rattle.sacn_monitor.specs.declared.holding.Holding.TheVariants.{Nothing, Ended, Levels}

-- what was renewed at a moment isn't lost at t
abbrev pub lasts : ℕ → ℕ → Bool
lasts t renewed = nat_lt (t - renewed) NETWORK_DATA_LOSS

-- at t something is held: levels, or that the stream has ended
abbrev pub is_held : ℕ → Holding → Bool
is_held t Nothing = false
is_held t (Ended renewed) = lasts t renewed
is_held t (Levels renewed priority) = lasts t renewed

-- after a packet that is taken at t: levels for the stage are held from then on, and an end ends what is held
abbrev pub held_after : ℕ → Kind → ℕ → Holding → Holding
held_after t Live priority h = Levels t priority
held_after t Termination priority h = if is_held t h then Ended t else Nothing
held_after t Preview priority h = h
held_after t Other priority h = h

-- a packet of this kind would be held at t where nothing is: a node takes it whatever its number
abbrev pub begins_holding : ℕ → Kind → Holding → Bool
begins_holding t Live h = not (is_held t h)
begins_holding t Termination h = false
begins_holding t Preview h = false
begins_holding t Other h = false

-- the priority at which it lights the universe at t, if it does
abbrev pub light_at : ℕ → Holding → Option ℕ
light_at t Nothing = None
light_at t (Ended renewed) = None
light_at t (Levels renewed priority) = if lasts t renewed then Some priority else None

-- the moment at which levels that are held at t are lost where none follow; the last moment of all where none are held
abbrev pub light_end : ℕ → Holding → ℕ
light_end t Nothing = 2 ^ 64 - 1
light_end t (Ended renewed) = 2 ^ 64 - 1
light_end t (Levels renewed priority) = if lasts t renewed then min (renewed + NETWORK_DATA_LOSS) (2 ^ 64 - 1) else 2 ^ 64 - 1

abbrev pub same_light : Option ℕ → Option ℕ → Bool
same_light None None = true
same_light (Some a) (Some b) = a == b
same_light None (Some b) = false
same_light (Some a) None = false

-- its light is another one after a packet at t than before, or went out since the packet before
abbrev pub is_relit : ℕ → ℕ → Holding → Holding → Bool
is_relit latest t before after = not (same_light (light_at latest before) (light_at t before)) || not (same_light (light_at t before) (light_at t after))
