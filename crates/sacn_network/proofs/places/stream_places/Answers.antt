use Rattle.std.proofs.Common.{◌<◌, ℕ, List, [], None, length, get_or, set, option_and_then, ap, sym, ◌∙◌, arith, inl, inr}
use Rattle.std.proofs.lemmas.Bool.{cases_eq, cases_lt}
use Rattle.std.proofs.lemmas.List.{length-set, get_or_default, get_or-set_same, get_or-set_other}
use Rattle.std.proofs.lemmas.Option.{slice_get-get_or, slice_get_past}
use Rattle.sacn_monitor.specs.Books.{place_of}
use Rattle.sacn_network.proofs.places.stream_places.Goals as goal

pub loop-at-preserved : goal.loop-at-preserved
loop-at-preserved c =
    let at = c.loop-at.at in
    let cids = c.args.cids.now in
    let ss = c.args.monitor.now.streams in
    let places = c.loop-at.places in
    let place = c.place_of.result in
    let within : at < length places = omega (arith, c.loop-at.invariant.whole, c.requires, c.loop-at-test.true) in
    let of : List ℕ → _ = λ cid. place_of c.args.universe cid ss in
    record {
      within = omega (arith, c.loop-at-test.true);
      whole = length-set places at place ∙ c.loop-at.invariant.whole;
      so_far = λ k lt. elim (cases_eq k at) [
        | inl here ↦
            ap (λ q. get_or (set places at place) q None) here
            ∙ get_or-set_same places at place None within
            ∙ c.place_of.ensures
            ∙ ap of (get_or_default cids at _ [] c.loop-at-test.true)
            ∙ ap (λ q. of (get_or cids q [])) (sym here)
        | inr differs ↦ get_or-set_other places at k place None differs ∙ c.loop-at.invariant.so_far k (omega arith)
      ];
      rest = λ k le. get_or-set_other places at k place None (λ e. omega arith) ∙ c.loop-at.invariant.rest k (omega arith);
    }

pub returns : goal.returns
returns c = λ k.
    let cids = c.args.cids.now in
    let of : List ℕ → _ = λ cid. place_of c.args.universe cid c.args.monitor.now.streams in
    elim (cases_lt k (length cids)) [
      | inl below ↦ c.loop-at.invariant.so_far k (omega (arith, c.loop-at-test.false)) ∙ ap (option_and_then of) (sym (slice_get-get_or cids k [] below))
      | inr past ↦ c.loop-at.invariant.rest k (omega (arith, c.loop-at.invariant.within)) ∙ ap (option_and_then of) (sym (slice_get_past cids k (omega arith)))
    ]
