use Rattle.std.proofs.Common.{◌-◌, get_or, ap, sym, ◌∙◌, arith, ℕ}
use Rattle.std.proofs.lemmas.List.{length-map}
use Rattle.std.specs.List.{position}
use Rattle.sacn_monitor.specs.Streams.{is_of}
use Rattle.sacn_monitor.specs.Chains.{chain_of}
use Rattle.sacn_monitor.proofs.Chaining.{walk_begins, walk_goes_on, walk_falls, walk_ends, walk_finds}
use Rattle.sacn_monitor.proofs.register.Register.place_of.Goals as goal

pub loop-mark-init : goal.loop-mark-init
loop-mark-init c =
    let r = c.self.inside in
    walk_begins r.latest.items r.before.items r.streams.items c.self.invariant.2 c.args.universe c.args.cid.now c.index-mark.result.now
    (c.index-mark.ensures ∙ ap (λ (k : ℕ). get_or r.latest.items k c.index-mark.result.now) c.chain_by.ensures.chain)

pub index-requires : goal.index-requires
index-requires c = omega (arith, c.loop-mark.invariant.within)

pub returns-then-is_of : goal.returns-then-is_of
returns-then-is_of c =
    let r = c.self.inside in
    sym (walk_finds c.args.universe c.args.cid.now (c.from-place.result - 1) c.index.result.now r.streams.items c.self.invariant.3 (omega (arith, c.loop-mark.invariant.within)) c.index.ensures (sym c.is_of.ensures ∙ c.if-is_of.true)) ∙ ap (position (is_of c.args.universe c.args.cid.now)) c.self.view_is

pub index-mark-requires-in-loop-mark : goal.index-mark-requires-in-loop-mark
index-mark-requires-in-loop-mark c =
    let r = c.self.inside in
    omega (arith, c.loop-mark.invariant.within, c.self.invariant.2.counted, length-map r.streams.items chain_of)

pub loop-mark-smaller : goal.loop-mark-smaller
loop-mark-smaller c =
    let r = c.self.inside in
    walk_falls r.latest.items r.before.items r.streams.items c.self.invariant.2 c.args.universe c.args.cid.now c.loop-mark.mark (c.from-place.result - 1) c.index-mark-in-loop-mark.result.now c.loop-mark.invariant (omega arith) (omega arith) c.index-mark-in-loop-mark.ensures

pub loop-mark-preserved : goal.loop-mark-preserved
loop-mark-preserved c =
    let r = c.self.inside in
    walk_goes_on r.latest.items r.before.items r.streams.items c.self.invariant.2 c.args.universe c.args.cid.now c.loop-mark.mark (c.from-place.result - 1) c.index-mark-in-loop-mark.result.now c.index.result.now c.loop-mark.invariant (omega arith) (omega arith) c.index.ensures (sym c.is_of.ensures ∙ c.if-is_of.false) c.index-mark-in-loop-mark.ensures

pub returns : goal.returns
returns c =
    sym (walk_ends c.args.universe c.args.cid.now c.loop-mark.mark c.self.inside.streams.items c.loop-mark.invariant (omega arith)) ∙ ap (position (is_of c.args.universe c.args.cid.now)) c.self.view_is
