use Rattle.std.proofs.Common.{◌≡◌, ℕ, ◌<◌, ◌==◌, ◌&&◌, not, Bool, cond, Option, None, Some, length, get_or, refl, sym, ap, ◌∙◌, arith}
use Rattle.std.proofs.lemmas.List.{set-get_or}
use Rattle.sacn_sources.specs.Givers.{given_to}
use Rattle.sacn_sources.proofs.Giving.{one_more, others_stay}
use Rattle.sacn_sources.proofs.store.giving.give.Goals as goal
use Rattle.sacn_sources.proofs.store.giving.give.Goals.{then-level-at, else-level-at}

pub loop-slot-init : goal.loop-slot-init
loop-slot-init c = record { whole = c.told-places; so_far = λ k lt. absurd (omega arith); rest = λ k le. refl }

pub loop-slot-preserved : goal.loop-slot-preserved
loop-slot-preserved c =
    let first = c.args.places.now in
    let places = c.loop-slot.places in
    let slot = c.loop-slot.slot in
    let told = c.loop-slot.invariant in
    let to : ℕ → Option ℕ = λ k. given_to c.args.place (get_or c.args.slots.now k 0) (get_or c.args.levels.now k 0) (get_or first k None) in
    let own = get_or c.args.levels.now slot 0 in
    let merged = get_or c.args.slots.now slot 0 in
    let read : not (merged == 0) && (own == merged) ≡ not (merged == 0) && (c.at.result == merged) = ap (λ l. not (merged == 0) && (l == merged)) (sym c.at.ensures) in
    let of : Bool → Option ℕ = λ b. cond b (Some c.args.place) (get_or first slot None) in
    let within : slot < length places = omega (arith, told.whole, c.loop-slot-test.true) in
    elim c.if-level-at.branch [
      | then-level-at w ↦ record {
        whole = c.if-level-at.array_long;
        so_far = one_more first places c.if-level-at.places to slot (Some c.args.place) w.places-is within (sym (ap of (read ∙ w.if-level-at.true))) told.so_far;
        rest = others_stay first places c.if-level-at.places to slot (Some c.args.place) w.places-is told.rest;
      }
      | else-level-at w ↦
          let same = w.places-is ∙ sym (set-get_or places slot None) in
          record {
            whole = c.if-level-at.array_long;
            so_far = one_more first places c.if-level-at.places to slot (get_or places slot None) same within (told.rest slot (omega arith) ∙ sym (ap of (read ∙ w.if-level-at.false))) told.so_far;
            rest = others_stay first places c.if-level-at.places to slot (get_or places slot None) same told.rest;
          }
    ]

pub returns : goal.returns
returns c = λ k lt. c.loop-slot.invariant.so_far k (omega (arith, lt, c.loop-slot.invariant.whole, c.loop-slot-test.false))
