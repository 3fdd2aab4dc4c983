use Rattle.std.proofs.Common.{ℕ, List, ◌++◌, sym, ap, ◌∙◌}
use Rattle.std.proofs.lemmas.List.{append-nil}
use Rattle.std.specs.FinMap.{entries}
use Rattle.sacn_cues.specs.Cues.{Cues, KeptCue}
use Rattle.sacn_cues.specs.Targets.{Targets}
use Rattle.sacn_cues.proofs.Trees.{entries_are}
use Rattle.sacn_cues.proofs.Tracks.{tracks_from, are_tracks}
use Rattle.sacn_cues.proofs.list.CueList.tracks_over.Goals as goal

pub returns : goal.returns
returns c = are_tracks c.args.self.now c.loop-number.tracks.items
    (sym (append-nil c.loop-number.tracks.items)
    ∙ ap (λ (es : List (ℕ × KeptCue)). c.loop-number.tracks.items ++ tracks_from c.loop-number.targets es) (sym c.in-None.ensures.steps.0)
    ∙ c.loop-number.invariant.told
    ∙ ap (λ (es : List (ℕ × KeptCue)). tracks_from c.args.targets.now es) (c.into_iter-number-iterator.ensures.into_iter_gives ∙ c.iter-number-items.ensures.rest ∙ sym (entries_are c.self.inside.cues c.iter-number-items.ensures.ordered) ∙ ap (λ (m : Cues). entries m) c.self.view_is)
    ∙ ap (λ (ts : Targets). tracks_from ts (entries c.args.self.now)) c.requires)
