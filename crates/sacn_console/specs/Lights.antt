-- What a console shows: the frames of its universes, and what a command does to its player (profile).
use Rattle.std.specs.Prelude.{ℕ, List, Option, Some, None, Result, Ok, Err}
use Rattle.sacn_patch.specs.Patch.{Patched, universe_frame}
use Rattle.sacn_cues.specs.Playing.{Played, moved, after, level_mastered}
use Rattle.sacn_cues.specs.Playing as play
use Rattle.sacn_cues.specs.declared.fault.PlayFault.{PlayFault}
use Rattle.sacn_cues.specs.declared.fault.PlayFault.TheVariants as played
use Rattle.sacn_console.specs.declared.command.Command.{Command}
use Rattle.sacn_console.specs.declared.command.Command.TheVariants.{Go, GoTo, SetLevel, Master, EndUniverse, StartUniverse}
use Rattle.sacn_console.specs.declared.command.ConsoleFault.{ConsoleFault}
use Rattle.sacn_console.specs.declared.command.ConsoleFault.TheVariants as fault

-- a patch, and the player whose levels it shows
pub record Lights : Type 0 where
  pub patch : Patched
  pub player : Played

abbrev pub lights_at : ℕ → Lights → Lights
lights_at t l = record { patch = l.patch; player = moved t l.player }

-- the frame of universe u at the player's moment: the levels after the master, patched
unfoldable pub frame_now : Lights → ℕ → List ℕ
frame_now l u = universe_frame (level_mastered l.player) l.patch u

-- the frame of universe u at t
unfoldable pub frame : Lights → ℕ → ℕ → List ℕ
frame l u t = frame_now (lights_at t l) u

-- the player's command, where it is one
abbrev pub player_command : Command → Option play.Command
player_command Go = Some play.Go
player_command (GoTo n) = Some (play.GoTo n)
player_command (SetLevel c l) = Some (play.Set c l)
player_command (Master m) = Some (play.Master m)
player_command (EndUniverse u) = None
player_command (StartUniverse u) = None

abbrev pub lights_by_command : ℕ → Option play.Command → Lights → Lights
lights_by_command t None l = l
lights_by_command t (Some k) l = record { patch = l.patch; player = after t k l.player }

abbrev pub console_fault : PlayFault → ConsoleFault
console_fault played.NoCue = fault.NoCue
console_fault played.ChannelRange = fault.ChannelRange

abbrev pub play_answer : Option PlayFault → Result (Unit {0}) ConsoleFault
play_answer None = Ok tt
play_answer (Some f) = Err (console_fault f)

-- the player's answer, as the console's
abbrev pub console_answer : Result (Unit {0}) PlayFault → Result (Unit {0}) ConsoleFault
console_answer (Ok x) = Ok x
console_answer (Err f) = Err (console_fault f)
