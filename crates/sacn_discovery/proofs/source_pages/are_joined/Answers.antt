use Rattle.std.proofs.Common.{◌≡◌, ◌∙◌, sym, ap, length, take, drop, ◌-◌, arith}
use Rattle.std.proofs.lemmas.List.{length-drop, take_all}
use Rattle.sacn_discovery.proofs.PagesKnown.{part_more}
use Rattle.sacn_discovery.proofs.source_pages.are_joined.Goals as goal

pub loop-i-preserved : goal.loop-i-preserved
loop-i-preserved c =
    let same = c.as_slice.ensures.value in
    let len : c.len-at.result ≡ length c.in-Some.numbers.items = c.len-at.ensures ∙ sym c.as_slice.ensures.len ∙ ap length same in
    let whole : take (length c.args.known.now - c.loop-i.at) (drop c.loop-i.at c.args.known.now) ≡ drop c.loop-i.at c.args.known.now = take_all (length c.args.known.now - c.loop-i.at) (drop c.loop-i.at c.args.known.now) (omega (arith, length-drop c.loop-i.at c.args.known.now)) in
    let starts = rw (same, whole) at c.starts_with.ensures.value in
    let is = c.if-not-starts_with.false in
    (omega (arith, c.loop-i.invariant.0, c.len-at.ensures, c.as_slice.ensures.len, c.starts_with.ensures.bound is, length-drop c.loop-i.at c.args.known.now), λ rest. part_more c.args.pages.now c.loop-i.i c.args.known.now c.loop-i.at c.in-Some.numbers c.index-pages-i.result c.starts_with.result _ (omega arith) (sym c.index-pages-i.is ∙ c.in-Some.is) starts is c.loop-i.invariant.1 (rw len at rest))
