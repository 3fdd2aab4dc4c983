-- How many packets were taken of each kind.
use Rattle.std.specs.Prelude.{ℕ, ◌+◌, ◌-◌, ◌^◌, min}
use Rattle.sacn_sources.specs.declared.kind.Kind.{Kind}
use Rattle.sacn_sources.specs.declared.kind.Kind.TheVariants.{Termination, Preview, Live, Other}
use Rattle.sacn_monitor.specs.declared.kinds.Kinds.{Kinds}

-- so many more, at most what 64 bits hold
abbrev pub more : ℕ → ℕ → ℕ
more k n = min (n + k) (2 ^ 64 - 1)

abbrev pub no_packets : Kinds
no_packets = record { live = 0; previews = 0; terminations = 0; others = 0 }

-- one packet more of a kind
abbrev pub with_one_more : Kind → Kinds → Kinds
with_one_more Live kinds = record kinds { live = more 1 kinds.live }
with_one_more Preview kinds = record kinds { previews = more 1 kinds.previews }
with_one_more Termination kinds = record kinds { terminations = more 1 kinds.terminations }
with_one_more Other kinds = record kinds { others = more 1 kinds.others }

-- all of them, at most what 64 bits hold
abbrev pub total : Kinds → ℕ
total kinds = min (kinds.live + kinds.previews + kinds.terminations + kinds.others) (2 ^ 64 - 1)
