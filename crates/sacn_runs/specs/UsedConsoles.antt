-- What a console hands over in its loop, where its core was used before.
use Rattle.std.specs.Prelude.{◌≡◌, ℕ, ◌+◌, List, [], ◌∷◌, ◌++◌}
use Rattle.sacn_console.specs.Core.{Core, after_command, after_poll}
use Rattle.sacn_console.specs.Due.{Life}
use Rattle.sacn_console.specs.Runs.{Call, Order, Poll, core_by, answers_by_list}
use Rattle.sacn_edge.specs.ConsoleSends.{Script, console_sends, refused_by}
use Rattle.sacn_edge.specs.SendsByList.{run_calls, given_in, refused_in}

-- the core after some calls
abbrev pub used : Core → List Call → Core
used c [] = c
used c (Order now k ∷ calls) = used (after_command now k c) calls
used c (Poll now ∷ calls) = used (after_poll now c) calls

-- After any calls on a core from the start of a life, what the list of what was done says of these calls and of a loop's turns
-- is what it says of the calls, and then what the loop hands over and refuses
abbrev pub SendsGoOnByTheList : Type 0
SendsGoOnByTheList = (life : Life) (before : List Call) (script : Script) (readings : List ℕ) →
    let first = used (core_by life 0 []) before in
    let earlier = answers_by_list life 0 [] before in
    let all = answers_by_list life 0 [] (before ++ run_calls script readings) in
    (given_in life.sender all ≡ given_in life.sender earlier ++ console_sends first script readings)
    × (refused_in all ≡ refused_in earlier + refused_by first script readings)
