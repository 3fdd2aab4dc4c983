-- The layers that the plain table hands to the merge, and the live sources that it loses.
use Rattle.std.proofs.Common.{◌≡◌, ℕ, ◌-◌, ◌≤◌, Bool, true, not, ◌&&◌, ◌||◌, List, [], ◌∷◌, length, leb, nat_lt, Option, Some, None, is_some, refl, sym, ap, ◌∙◌, arith}
use Rattle.std.specs.List.{filter_map, cons_option, list_any}
use Rattle.std.proofs.lemmas.Bool.Decides.{nat_tests}
use Rattle.sacn_sources.specs.Merge.{Shown}
use Rattle.sacn_sources.specs.declared.plain.entries.PlainEntry.{PlainEntry}
use Rattle.sacn_sources.specs.Rows.{layers}
use Rattle.sacn_sources.specs.LatestMerge.{loses_live}
use Rattle.sacn_sources.specs.PlainStorage.{plain_row, plain_rows}

abbrev pub plain_shows : PlainEntry → Option Shown
plain_shows e = (plain_row e).shown

pub plain_shown : (es : List PlainEntry) → layers (plain_rows es) ≡ filter_map plain_shows es
plain_shown [] = refl
plain_shown (e ∷ es) = ap (cons_option (plain_shows e)) (plain_shown es)

pub plain_none : (es : List PlainEntry) → length es ≤ 0 → filter_map plain_shows es ≡ []
plain_none [] none = refl
plain_none (e ∷ es) none = absurd (omega arith)

pub plain_live : (e : PlainEntry) (priority : ℕ) → e.priority ≡ Some priority → plain_shows e ≡ Some (record { priority = priority; levels = e.levels })
plain_live e priority live = rw live refl

pub plain_ended : (e : PlainEntry) → e.priority ≡ None → plain_shows e ≡ None
plain_ended e ended = rw ended refl

-- ---- what is lost

abbrev pub lost_entry : ℕ → PlainEntry → Bool
lost_entry t e = leb 2500 (t - e.moment) && is_some e.priority

lost_test : (age : ℕ) → not (nat_lt age 2500) ≡ leb 2500 age
lost_test age = grind (arith, nat_tests)

live_test : (e : PlainEntry) (o : Option ℕ) → e.priority ≡ o → is_some (plain_row e).shown ≡ is_some o
live_test e None is = rw is refl
live_test e (Some p) is = rw is refl

pub loses_is : (t : ℕ) (es : List PlainEntry) → loses_live t (plain_rows es) ≡ list_any (lost_entry t) es
loses_is t [] = refl
loses_is t (e ∷ es) =
    ap (λ b. (b && is_some (plain_row e).shown) || loses_live t (plain_rows es)) (lost_test (t - e.moment))
    ∙ ap (λ b. (leb 2500 (t - e.moment) && b) || loses_live t (plain_rows es)) (live_test e e.priority refl)
    ∙ ap (λ b. lost_entry t e || b) (loses_is t es)

pub entry_is_lost : (t n : ℕ) (live : Bool) (e : PlainEntry) → n ≡ t - e.moment → 2500 ≤ n → live ≡ is_some e.priority → live ≡ true → lost_entry t e ≡ true
entry_is_lost t n live e same long is there =
    let lost : leb 2500 n ≡ true = grind (arith, nat_tests) in
    ap (λ k. leb 2500 k && is_some e.priority) (sym same) ∙ ap (λ b. b && is_some e.priority) lost ∙ sym is ∙ there
