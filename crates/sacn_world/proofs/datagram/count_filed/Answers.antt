use Rattle.std.proofs.Common.{arith, ap, sym, ◌∙◌, ◌≡◌, ◌+◌, ◌-◌, take, length, count_by}
use Rattle.std.proofs.lemmas.List.Sums.{count_by-le-length}
use Rattle.sacn_world.specs.Wire.{is_filed}
use Rattle.sacn_world.proofs.Ran.{read_at}
use Rattle.sacn_world.proofs.Filing.{last_filed}
use Rattle.sacn_world.proofs.datagram.count_filed.Goals as goal

pub overflow_add-result : goal.overflow_add-result
overflow_add-result c =
    let fs = c.args.sent.now in
    let k = length fs - 1 - c.loop-later.later in
    let e = read_at fs k c.index-sent-sent.result (omega arith) c.index-sent-sent.is in
    let f = last_filed fs c.requires.filed c.args.source.now c.args.universe k c.index-sent-sent.result c.in-Some.place e (sym c.in-Some.ensures) in
    let n : k + 1 ≡ length fs - c.loop-later.later = omega arith in
    let whole = ap (λ m. count_by (is_filed c.args.source.now c.args.universe) (take m fs)) n ∙ c.loop-later.invariant in
    let least = count_by-le-length (is_filed c.args.source.now c.args.universe) fs in
    omega (arith, f, whole, least)

pub returns-in-Some : goal.returns-in-Some
returns-in-Some c =
    let fs = c.args.sent.now in
    let k = length fs - 1 - c.loop-later.later in
    let e = read_at fs k c.index-sent-sent.result (omega arith) c.index-sent-sent.is in
    let f = last_filed fs c.requires.filed c.args.source.now c.args.universe k c.index-sent-sent.result c.in-Some.place e (sym c.in-Some.ensures) in
    let n : k + 1 ≡ length fs - c.loop-later.later = omega arith in
    sym f ∙ ap (λ m. count_by (is_filed c.args.source.now c.args.universe) (take m fs)) n ∙ c.loop-later.invariant
