use Rattle.std.proofs.Common.{◌≡◌, ℕ, List, length, drop, ap, arith}
use Rattle.std.proofs.lemmas.List.{length-take, length-drop}
use Rattle.sacn_packets.proofs.framing.layers.name_field_in.Goals as goal

pub unwrap-requires : goal.unwrap-requires
unwrap-requires c =
    let long : length c.name_in.result.now ≡ 64 = omega (arith, ap (λ (xs : List ℕ). length xs) c.name_in.ensures, length-take 64 (drop 44 c.args.octets.now), length-drop 44 c.args.octets.now, c.requires) in
    c.try_from.ensures.0 long
