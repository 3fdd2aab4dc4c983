use Rattle.std.proofs.Common.{◌≡◌, ◌+◌, ℕ, List, get_or, sym, ap, ◌∙◌, arith}
use Rattle.sacn_network.proofs.Listing.{no_word}
use Rattle.sacn_network.proofs.universe_set.UniverseSet.add_word.Goals as goal

pub returns-then-index-eq0 : goal.returns-then-index-eq0
returns-then-index-eq0 c so_far =
    let words = c.self.inside.words.items in
    let none : c.index.result.now ≡ 0 = omega (arith, c.if-index-eq0.true) in
    let empty : get_or c.args.self.now c.args.place 0 ≡ 0 =
    ap (λ (ws : List ℕ). get_or ws c.args.place 0) (sym c.self.view_is) ∙ ap (λ (d : ℕ). get_or words c.args.place d) (sym none) ∙ sym c.index.ensures ∙ none in
    no_word c.args.self.now c.args.place (c.args.place + 1) c.args.universes.now.items (omega arith) empty so_far
