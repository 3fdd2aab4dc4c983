use Rattle.std.proofs.Common.{◌≡◌, ℕ, max, fold, ◌∙◌, sym, rules}
use Rattle.std.proofs.lemmas.List.Folds.{fold-map}
use Rattle.sacn_sources.specs.declared.slots.merge.Layer.{Layer}
use Rattle.sacn_sources.specs.Layers.{shown_of}
use Rattle.sacn_sources.specs.Merge.{Shown}
use Rattle.sacn_sources.proofs.slots.merge.top_priority.Goals as goal

pub returns : goal.returns
returns c =
    let layers = c.args.layers.now in
    let greatest : c.fold.result ≡ fold (λ (top : ℕ) (layer : Layer). max top layer.priority) 0 layers = search rules in
    greatest ∙ sym (fold-map (λ (top : ℕ) (m : Shown). max top m.priority) shown_of 0 layers)
