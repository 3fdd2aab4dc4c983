-- What a list of things told leaves of the alarms.
use Rattle.std.proofs.Common.{◌≡◌, List, [], ◌∷◌, ap, ◌∙◌}
use Rattle.sacn_network.specs.Telling.{AreTold, Told}
use Rattle.sacn_page.specs.Alarms.{KeptAlarms, alarms_after, alarms_told}

-- they were told them one after the other
pub told_fold : (told : List Told) (old new : KeptAlarms) → AreTold (λ (before : KeptAlarms) (one : Told) (after : KeptAlarms). after ≡ alarms_after one before) told old new → new ≡ alarms_told told old
unfolding AreTold
told_fold [] old new is = is
told_fold (one ∷ more) old new (mid, first, rest) = told_fold more mid new rest ∙ ap (alarms_told more) first
