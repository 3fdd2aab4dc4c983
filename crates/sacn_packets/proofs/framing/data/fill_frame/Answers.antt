use Rattle.std.proofs.Common.{◌≡◌, ℕ, refl, ◌+◌, ◌-◌, length, arith}
use Rattle.std.proofs.lemmas.List.{drop-replicate}
use Rattle.sacn_packets.proofs.framing.data.fill_frame.Goals as goal

pub returns : goal.returns
returns c =
    let len : 1 + length c.args.slots.now - 1 ≡ length c.args.slots.now = omega arith in
    rw (c.copy_from_slice.ensures.after, len, drop-replicate {X = ℕ} (length c.args.slots.now) 512 0) refl
