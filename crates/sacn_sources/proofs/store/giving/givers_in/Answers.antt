use Rattle.std.proofs.Common.{◌≡◌, ℕ, ◌+◌, ◌-◌, ◌==◌, ◌&&◌, None, List, [], length, map, drop, get_or, unwrap_or, refl, sym, ap, ◌∙◌, arith}
use Rattle.std.proofs.lemmas.List.{length-map, get_or-map, get_or-replicate, at_drop_all}
use Rattle.std.proofs.lemmas.List.FromFn.{fill_by_all}
use Rattle.slab.specs.Slab.{get}
use Rattle.sacn_sources.specs.Merge.{top_priority}
use Rattle.sacn_sources.specs.Givers.{first_giver, giver_in, giver_of, givers_of}
use Rattle.sacn_sources.specs.Rows.{layers}
use Rattle.sacn_sources.specs.Storage.{rows_in}
use Rattle.sacn_sources.proofs.Giving.{gives_there, giver_before, giver_without, nobody_gives, passes, top_is}
use Rattle.sacn_sources.proofs.Searches.{blank}
use Rattle.sacn_sources.proofs.store.giving.givers_in.Goals as goal

pub loop-at-init : goal.loop-at-init
loop-at-init c =
    let es = c.args.entries.now in
    let fr = c.args.frames.now in
    let top = c.top_priority-top.result in
    record {
      whole = refl;
      so_far = λ k lt.
          let merged = get_or c.args.slots.now k 0 in
          ap (giver_in (map (λ e. e.cid) es)) (get_or-replicate 512 k None None lt)
          ∙ nobody_gives fr top k merged
          ∙ sym (at_drop_all (λ l. first_giver top k merged (rows_in fr l)) es (length es) (omega arith));
    }

pub loop-at-preserved-then-shows_at : goal.loop-at-preserved-then-shows_at
loop-at-preserved-then-shows_at c =
    let es = c.args.entries.now in
    let fr = c.args.frames.now in
    let top = c.top_priority-top.result in
    let i = c.loop-at.at - 1 in
    let e = get_or es i blank in
    let more : c.loop-at.at ≡ i + 1 = omega (arith, c.loop-at-test.true) in
    record {
      whole = c.give.array_long;
      so_far = λ k lt.
          let merged = get_or c.args.slots.now k 0 in
          let own = get_or c.index.result.now k 0 in
          let is : (own == merged) ≡ passes fr top k merged e =
          ap (λ o. get_or (unwrap_or o []) k 0 == merged) (sym c.index.ensures)
          ∙ ap (λ b. b && (get_or (unwrap_or (get fr e.key) []) k 0 == merged)) (sym c.if-shows_at.true ∙ c.shows_at.ensures)
          ∙ sym (gives_there fr top k merged e) in
          ap (giver_in (map (λ e. e.cid) es)) (c.give.ensures k (omega (arith, lt, c.give.array_long)))
          ∙ giver_before fr top k merged es i blank (omega (arith, c.loop-at.auto.at, c.loop-at-test.true)) (get_or c.loop-at.places k None) (c.loop-at.invariant.so_far k lt ∙ ap (λ j. first_giver top k merged (rows_in fr (drop j es))) more) (own == merged) is;
    }

pub loop-at-preserved : goal.loop-at-preserved
loop-at-preserved c =
    let es = c.args.entries.now in
    let fr = c.args.frames.now in
    let top = c.top_priority-top.result in
    let i = c.loop-at.at - 1 in
    let e = get_or es i blank in
    let more : c.loop-at.at ≡ i + 1 = omega (arith, c.loop-at-test.true) in
    record {
      whole = c.loop-at.invariant.whole;
      so_far = λ k lt.
          let merged = get_or c.args.slots.now k 0 in
          giver_without fr top k merged es i blank (omega (arith, c.loop-at.auto.at, c.loop-at-test.true)) (get_or c.loop-at.places k None) (c.loop-at.invariant.so_far k lt ∙ ap (λ j. first_giver top k merged (rows_in fr (drop j es))) more)
          (gives_there fr top k merged e ∙ ap (λ b. b && (get_or (unwrap_or (get fr e.key) []) k 0 == merged)) (sym c.shows_at.ensures ∙ c.if-shows_at.false));
    }

pub returns : goal.returns
unfolding givers_of
returns c =
    let es = c.args.entries.now in
    let fr = c.args.frames.now in
    let rows = rows_in fr es in
    let places = c.loop-at.places in
    let cids = map (λ e. e.cid) es in
    let followed : ℕ = top_priority (layers rows) in
    let top : c.top_priority-top.result ≡ followed = c.top_priority-top.ensures ∙ top_is fr 0 es in
    let all : c.loop-at.at ≡ 0 = omega (arith, c.loop-at-test.false) in
    ap (λ l. map (giver_in l) places) c.cids_of.ensures
    ∙ fill_by_all (giver_of rows) (map (giver_in cids) places) 512 None (length-map places (giver_in cids) ∙ c.loop-at.invariant.whole)
    (λ k lt. get_or-map (giver_in cids) places k None None (omega (arith, lt, c.loop-at.invariant.whole))
    ∙ c.loop-at.invariant.so_far k lt
    ∙ ap (λ at. first_giver c.top_priority-top.result k (get_or c.args.slots.now k 0) (rows_in fr (drop at es))) all
    ∙ ap (λ t. first_giver t k (get_or c.args.slots.now k 0) rows) top
    ∙ ap (λ (l : List ℕ). first_giver followed k (get_or l k 0) rows) c.requires.merged)
