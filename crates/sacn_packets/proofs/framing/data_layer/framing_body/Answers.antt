use Rattle.std.proofs.Common.{ℕ, List, length, sym, arith, rules}
use Rattle.std.specs.Prelude.{slice_index}
use Rattle.std.proofs.lemmas.Bool.{le-leb, eq-eqb}
use Rattle.std.proofs.lemmas.List.{take_rest}
use Rattle.sacn_packets.specs.Octets.{number16_at, number32_at, flags_of, length_of}
use Rattle.sacn_packets.proofs.CheckLists.{checked_is}
use Rattle.sacn_packets.specs.FramingReading.{IsHead, framing_checks, framing_at}
use Rattle.sacn_packets.proofs.framing.data_layer.framing_body.Goals as goal

pub returns : goal.returns
returns c =
    let octets : List ℕ = c.args.octets.now in
    let head : IsHead octets = search rules in
    rw (take_rest octets 77) (sym (checked_is (framing_checks octets) (framing_at octets).body (
      le-leb 2 (length octets) (omega (arith, head.long)),
      (
        eq-eqb (flags_of octets 0) 7 head.flags,
        (
          eq-eqb (length_of octets 0) (length octets) head.len,
          (
            le-leb 77 (length octets) head.long,
            (
              eq-eqb (number32_at octets 2) 2 head.vector,
              (
                le-leb (slice_index octets 70) 200 (omega arith),
                (
                  le-leb 1 (number16_at octets 75) (omega arith),
                  (
                    le-leb (number16_at octets 75) 63999 (omega arith),
                    tt,
                  ),
                ),
              ),
            ),
          ),
        ),
      ),
    )))
