-- What a terminal knows of a network.
use Rattle.std.specs.Prelude.{◌≡◌, ℕ, ◌+◌, ◌-◌, ◌^◌, min, List, length, ◌==◌, if◌then◌else◌}
use Rattle.sacn_monitor.specs.Histories.{Call, moment_in_use}
use Rattle.sacn_monitor.specs.Books.{next_loss}
use Rattle.sacn_tell.specs.Following.{Follows}
use Rattle.sacn_watch.specs.Views.{shown_of, IsShownBy}
use Rattle.sacn_watch.specs.declared.terminal.Terminal.{Terminal}
use Rattle.sacn_watch.specs.declared.terminal.TheConstants.{MIN_WAIT, SECOND}

-- a terminal whose accounts are what these calls leave, the latest first, and the losses that were told meanwhile; its table of sources is that of the
-- universe that was chosen last, by the packets among these calls that came since, with choices and looks at some moments between them
pub record IsShowing (calls : List Call) {O : Type 0} (terminal : Terminal O) : Type 0 where
  pub book : Follows calls terminal.view.network.monitor
  pub moment : terminal.view.network.monitor.moment ≡ moment_in_use calls
  pub shown : IsShownBy calls (shown_of terminal.view)

-- keys were pressed: it shows what it may show after the same calls
abbrev pub KeepsShowing : {O : Type 0} → Terminal O → Terminal O → Type 0
KeepsShowing old new = (calls : List Call) → IsShowing calls old → IsShowing calls new

-- when a terminal has something to show, where nothing comes: what came since it was drawn; else its rates, a second after it was drawn, or a
-- source that is lost; nothing before there is a source
abbrev pub wake_of : {O : Type 0} → Terminal O → ℕ
wake_of terminal =
    if terminal.is_stale then terminal.next
    else if length terminal.view.network.monitor.streams == 0 then 2 ^ 64 - 1
    else min (min (terminal.next + (SECOND - MIN_WAIT)) (2 ^ 64 - 1)) (next_loss terminal.view.network.monitor.streams)
