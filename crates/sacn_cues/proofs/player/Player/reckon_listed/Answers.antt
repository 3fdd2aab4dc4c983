use Rattle.std.proofs.Common.{◌≡◌, ℕ, List, length, get_or, subst, sym, ap, ◌∙◌, arith}
use Rattle.std.proofs.lemmas.List.{with_items_is}
use Rattle.sacn_patch.specs.Parts.{octet_place}
use Rattle.sacn_cues.specs.LevelOctets.{IsKept}
use Rattle.sacn_cues.specs.Playing.{level_shown}
use Rattle.sacn_cues.proofs.player.Player.reckon_listed.Goals as goal

pub invariant_of-self : goal.invariant_of-self
unfolding level_shown
invariant_of-self c =
    let width : length c.fill_octets-listed.new.octets ≡ length c.self.inside.shown.octets.items = c.fill_octets-listed.ensures.length ∙ sym c.self.invariant.1.0 in
    let items = with_items_is c.self.inside.shown.octets c.fill_octets-listed.new.octets (omega (arith, width, c.self.inside.shown.octets.ok)) in
    let many : length c.fill_octets-listed.new.moving ≡ length c.self.inside.shown.moving.items = c.fill_octets-listed.ensures.room ∙ sym c.self.invariant.1.3 in
    let list = with_items_is c.self.inside.shown.moving c.fill_octets-listed.new.moving (omega (arith, many, c.self.inside.shown.moving.ok)) in (
      c.self.invariant.0,
      (
        ap length items ∙ c.fill_octets-listed.ensures.length,
        rw items c.fill_octets-listed.ensures.before,
        λ told part. ap (λ (octets : List ℕ). get_or octets (octet_place part) 0) items ∙ c.fill_octets-listed.ensures.levels part,
        ap length list ∙ c.fill_octets-listed.ensures.room,
        rw (items, list) (λ count told. subst (λ (n : ℕ). IsKept c.fill_octets-listed.new.octets c.fill_octets-listed.new.moving n c.self.inside.fades.fades c.self.inside.master c.self.inside.moment) (sym (c.worth_keeping-self-inside.ensures count told)) c.fill_octets-listed.ensures.listed),
      ),
    )
