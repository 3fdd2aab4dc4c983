use Rattle.std.proofs.Common.{◌≡◌, ℕ, List, length, get_or, sym, ap, ◌∙◌, arith}
use Rattle.std.proofs.lemmas.List.{with_items_is}
use Rattle.sacn_patch.specs.Parts.{octet_place}
use Rattle.sacn_cues.specs.Playing.{level_shown}
use Rattle.sacn_cues.proofs.player.Player.reckon_plain.Goals as goal

pub invariant_of-self : goal.invariant_of-self
unfolding level_shown
invariant_of-self c =
    let width : length c.fill_plain.new.octets ≡ length c.self.inside.shown.octets.items = c.fill_plain.ensures.length ∙ sym c.self.invariant.1.0 in
    let items = with_items_is c.self.inside.shown.octets c.fill_plain.new.octets (omega (arith, width, c.self.inside.shown.octets.ok)) in (
      c.self.invariant.0,
      (
        ap length items ∙ c.fill_plain.ensures.length,
        rw items c.fill_plain.ensures.before,
        λ told part. ap (λ (octets : List ℕ). get_or octets (octet_place part) 0) items ∙ c.fill_plain.ensures.levels part,
        c.self.invariant.1.3,
        λ count told. absurd (cc told),
      ),
    )
