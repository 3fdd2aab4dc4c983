-- What going to a cue gives, kept for each cue of a list.
use Rattle.std.specs.Prelude.{◌≡◌, ℕ, ◌-◌, ◌==◌, List, [], ◌∷◌, length, get_or, true, refl, ⊤, Option, Some, None, if◌then◌else◌}
use Rattle.std.specs.FinMap.{get}
use Rattle.std.specs.Coded.{Coded, code_by, coded×, coded_ℕ, coded_list, coded_option}
use Rattle.sacn_patch.specs.declared.limits.TheConstants.{MAX_CHANNELS}
use Rattle.sacn_cues.specs.Channels.{is_channel}
use Rattle.sacn_cues.specs.Cues.{KeptCue, Cues, level_tracked}
use Rattle.sacn_cues.specs.Targets.{Targets}

-- the number of a cue, its times, and the levels that going to it gives
pub record Tracked : Type 0 where
  pub number : ℕ
  pub up : ℕ
  pub down : ℕ
  pub targets : Targets

-- the first of a number
abbrev pub track_at : ℕ → List Tracked → Option Tracked
track_at number [] = None
track_at number (track ∷ tracks) = if track.number == number then Some track else track_at number tracks

-- each channel's target is the level that it has there
abbrev pub AreTargets : (ℕ → Option ℕ) → Targets → Type 0
AreTargets level targets = (length targets ≡ MAX_CHANNELS) × ((channel : ℕ) → is_channel channel ≡ true → get_or targets (channel - 1) None ≡ level channel)

-- what is kept under a number is what going to the cue of that number gives, and nothing where there is none
abbrev pub IsTrack : Cues → ℕ → Option Tracked → Option KeptCue → Type 0
IsTrack cues number None None = ⊤
IsTrack cues number None (Some cue) = ⊥
IsTrack cues number (Some track) None = ⊥
IsTrack cues number (Some track) (Some cue) = (track.up ≡ cue.up) × (track.down ≡ cue.down) × AreTargets (level_tracked number cues) track.targets

abbrev pub AreTracks : Cues → List Tracked → Type 0
AreTracks cues tracks = (number : ℕ) → IsTrack cues number (track_at number tracks) (get cues number)

-- of a cue, with these targets
abbrev pub tracked : ℕ × KeptCue → Targets → Tracked
tracked e targets = record { number = e.0; up = e.1.up; down = e.1.down; targets = targets }

-- ---- code

abbrev pub tracked_code : Coded Tracked
tracked_code = code_by (ℕ × (ℕ × (ℕ × Targets))) (coded× coded_ℕ (coded× coded_ℕ (coded× coded_ℕ (coded_list (coded_option coded_ℕ))))) (λ t. (t.number, (t.up, (t.down, t.targets)))) (λ p. record { number = p.0; up = p.1.0; down = p.1.1.0; targets = p.1.1.1 }) (λ _. refl)
