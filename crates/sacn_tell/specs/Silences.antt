-- What ends by silence, each thing at its own moment, and what is told of it.
use Rattle.std.specs.Prelude.{◌≡◌, ◌≤◌, ◌<◌, ℕ, ⊤, IfSome, ◌-◌, ◌^◌, Option, None, Some, List, [], ◌∷◌, ◌++◌}
use Rattle.sacn_network.specs.declared.ledger.Ledger.{Ledger}
use Rattle.sacn_network.specs.Networks.{LeavesNone, tick_told, ticked}
use Rattle.sacn_node.specs.Cores.{core_lost}
use Rattle.sacn_tell.specs.declared.follower.Follower.{Follower}
use Rattle.sacn_tell.specs.declared.options.Form.{Form}
use Rattle.sacn_tell.specs.Causes.{OfLoss, Reason, loss_among}
use Rattle.sacn_tell.specs.LineWriting.{told_lines}
use Rattle.sacn_tell.specs.Shows.{Staged, after_loss, loss_shown, staged}
use Rattle.sacn_tell.specs.Tellings.{Tells}

-- what a network carries, and the node
pub record Scene : Type 0 where
  pub network : Ledger
  pub stage : Option Staged

abbrev pub scene_of : {O : Type 0} → Follower O → Scene
scene_of f = record { network = f.network; stage = staged f.stage }

-- ---- the node's part goes dark: it loses a source

-- it loses one at this moment, and none before
abbrev pub IsNextDark : ℕ → Option Staged → Type 0
IsNextDark at None = ⊥
IsNextDark at (Some s) = (1 ≤ core_lost at s.node.core) × ((m : ℕ) → m < at → core_lost m s.node.core ≡ 0)

-- it has lost none by t that it holds; the last moment of all never comes
abbrev pub IsLit : ℕ → Option Staged → Type 0
IsLit t stage = (m : ℕ) → m ≤ t → m < 2 ^ 64 - 1 → IfSome stage (λ s. core_lost m s.node.core ≡ 0)

-- why the node's frames change then, by the streams of a network
abbrev pub dark_reason : ℕ → Ledger → Option Staged → Reason
dark_reason at network None = OfLoss
dark_reason at network (Some s) = loss_among s.node at network.monitor.streams

-- the losses of the network up to such a moment, and then the node's frames
abbrev pub dark_told : ℕ → Scene → Form → List ℕ → List ℕ
dark_told at s form wanted = told_lines form wanted (tick_told at s.network) ++ loss_shown form at (dark_reason at (ticked at s.network) s.stage) s.stage

abbrev pub after_dark : ℕ → Scene → Scene
after_dark at s = record { network = ticked at s.network; stage = after_loss at s.stage }

-- one such moment after the other, the latest first
abbrev pub after_darks : List ℕ → Scene → Scene
after_darks [] s = s
after_darks (at ∷ earlier) s = after_dark at (after_darks earlier s)

abbrev pub darks_told : List ℕ → Scene → Form → List ℕ → List ℕ
darks_told [] s form wanted = []
darks_told (at ∷ earlier) s form wanted = darks_told earlier s form wanted ++ dark_told at (after_darks earlier s) form wanted

-- they are the node's next ones up to t
abbrev pub AreDark : ℕ → List ℕ → Scene → Type 0
AreDark t [] s = ⊤
AreDark t (at ∷ earlier) s = AreDark t earlier s × (at ≤ t) × IsNextDark at (after_darks earlier s).stage

-- ---- what a call tells

-- what the node lost up to t, each time behind the losses of the network up to then, and nothing else
pub record TellsDark {O : Type 0} (contents : O → Option (List ℕ)) (t : ℕ) (old new : Follower O) : Type 0 where
  pub darks : List ℕ
  pub are : AreDark t darks (scene_of old)
  pub told : Tells contents old.writer.teller new.writer.teller (darks_told darks (scene_of old) old.writer.teller.form old.writer.options.universes.now)
  pub scene : scene_of new ≡ after_darks darks (scene_of old)

-- what ended by t, and nothing else
abbrev pub silence_told : ℕ → List ℕ → Scene → Form → List ℕ → List ℕ
silence_told t darks s form wanted = darks_told darks s form wanted ++ told_lines form wanted (tick_told t (after_darks darks s).network)

pub record TellsSilence {O : Type 0} (contents : O → Option (List ℕ)) (t : ℕ) (old new : Follower O) : Type 0 where
  pub darks : List ℕ
  pub are : AreDark t darks (scene_of old)
  pub told : Tells contents old.writer.teller new.writer.teller (silence_told t darks (scene_of old) old.writer.teller.form old.writer.options.universes.now)
  pub network : new.network ≡ ticked t (after_darks darks (scene_of old)).network
  pub stage : staged new.stage ≡ (after_darks darks (scene_of old)).stage

-- no loss of the network that comes by t is still to be told, and the node has lost no source by then that it holds
abbrev pub IsQuiet : {O : Type 0} → ℕ → Follower O → Type 0
IsQuiet t f = LeavesNone t f.network × IsLit t (staged f.stage)
