use Rattle.std.proofs.Common.{List, [], map, string_bytes, ℕ, ap, sym, ◌∙◌}
use Rattle.sacn_cues.specs.Playing.{new_player}
use Rattle.sacn_console.specs.Shows.{ShowContent}
use Rattle.sacn_console.specs.Runs.{line_by}
use Rattle.sacn_console.specs.Wakes.{Waking, awake}
use Rattle.sacn_console.specs.declared.sender.Sender.{Sender}
use Rattle.sacn_console.proofs.Openings.{begun_sound, begun_core}
use Rattle.sacn_console.proofs.console.ConsoleCore.new.Goals as goal

abbrev named : Sender → List ℕ → Sender
named s name = record { cid = s.cid; name = name; priority = s.priority }

pub invariant_of-result : goal.invariant_of-result
invariant_of-result c =
    begun_sound _ c.args.first _ _ _ _ _ _ c.show.invariant.1 (ap (named c.show.inside.sender) c.show.invariant.0) (c.in_ok-lines.ensures ∙ ap (map (line_by c.args.first [])) c.as_slice.ensures.value) (c.in_ok-wakes.ensures ∙ ap (λ (us : List ℕ). let w : Waking = record { each = map awake us; least = 0; from = 0 } in w) c.as_slice-2.ensures.value) c.new-2.ensures (c.in_ok-player.ensures.made ∙ ap (λ (s : ShowContent). new_player s.cues) (sym c.show.view_is))

pub returns-clause-made : goal.returns-clause-made
returns-clause-made c =
    rw (← c.show.view_is) (begun_core (record { cid = c.show.inside.sender.cid; name = string_bytes c.show.inside.name; priority = c.show.inside.sender.priority; universes = c.show.inside.universes.items; send_to = c.show.inside.send_to.items; cues = c.show.inside.cues; patch = c.show.inside.patch }) c.args.first _ _ _ _ _ (ap (named c.show.inside.sender) c.show.invariant.0) (c.in_ok-lines.ensures ∙ ap (map (line_by c.args.first [])) c.as_slice.ensures.value) c.new-2.ensures c.in_ok-patch.ensures.flat (c.in_ok-player.ensures.made ∙ ap (λ (s : ShowContent). new_player s.cues) (sym c.show.view_is)))
