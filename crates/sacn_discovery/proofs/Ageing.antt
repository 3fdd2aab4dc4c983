-- A moment before which no latest page came.
use Rattle.std.proofs.Common.{◌≡◌, ℕ, ◌-◌, ◌<◌, ◌≤◌, Bool, true, cond, List, [], ◌∷◌, filter, refl, sym, ap, subst, ◌∙◌, arith}
use Rattle.std.specs.BTreeMap.{insert_entry}
use Rattle.std.specs.FinMap.{entries, entries-from_sorted}
use Rattle.std.specs.Map.{set_value, values_of}
use Rattle.std.proofs.lemmas.Bool.{lt-ltb}
use Rattle.std.proofs.lemmas.List.Elements.{All-head, All-tail}
use Rattle.std.proofs.lemmas.Map.Views.{All-values-insert_entry, All-values-set_value}
use Rattle.sacn_discovery.specs.declared.limits.TheConstants.{FORGOTTEN_AFTER}
use Rattle.sacn_discovery.specs.Collection.{Known, is_fresh}
use Rattle.sacn_discovery.specs.Storage.{sources_of, AreStored, AreSince}
use Rattle.sacn_discovery.proofs.Stores.{cid_cmp, Entries}

abbrev pub IsSince : ℕ → Known → Type 0
IsSince earliest known = earliest ≤ known.moment

all_fresh : (t earliest : ℕ) (es : Entries) → t - earliest < FORGOTTEN_AFTER → AreSince earliest es → filter (λ e. is_fresh t e.1) es ≡ es
all_fresh t earliest [] young since = refl
all_fresh t earliest (e ∷ es) young since =
    let here : earliest ≤ e.1.moment = All-head (IsSince earliest) e.1 (values_of es) since in
    let rest : Entries = filter (λ (x : List ℕ × Known). is_fresh t x.1) es in
    ap (λ b. cond b (e ∷ rest) rest) (lt-ltb (t - e.1.moment) FORGOTTEN_AFTER (omega (arith, here, young)))
    ∙ ap (λ (l : Entries). e ∷ l) (all_fresh t earliest es young (All-tail (IsSince earliest) e.1 (values_of es) since))

-- while that moment isn't too old, no source is
pub none_old : (es : Entries) (t earliest : ℕ) → AreStored es → t - earliest < FORGOTTEN_AFTER → AreSince earliest es → entries (sources_of es) ≡ filter (λ e. is_fresh t e.1) (entries (sources_of es))
none_old es t earliest sorted young since =
    let is : entries (sources_of es) ≡ es = entries-from_sorted cid_cmp es sorted in
    is ∙ sym (all_fresh t earliest es young since) ∙ ap (λ (l : Entries). filter (λ e. is_fresh t e.1) l) (sym is)

pub since_written : (earliest moment : ℕ) (test : List ℕ → Bool) (es es2 : Entries) (v : Known) → es2 ≡ set_value test es v → v.moment ≡ moment → earliest ≤ moment → AreSince earliest es → AreSince earliest es2
since_written earliest moment test es es2 v is at le since = subst (AreSince earliest) (sym is) (All-values-set_value test (IsSince earliest) es v since (omega (arith, at, le)))

pub since_inserted : (earliest moment : ℕ) (es es2 : Entries) (k : List ℕ) (v : Known) → es2 ≡ insert_entry cid_cmp es k v → v.moment ≡ moment → earliest ≤ moment → AreSince earliest es → AreSince earliest es2
since_inserted earliest moment es es2 k v is at le since = subst (AreSince earliest) (sym is) (All-values-insert_entry cid_cmp k v (IsSince earliest) es since (omega (arith, at, le)))
