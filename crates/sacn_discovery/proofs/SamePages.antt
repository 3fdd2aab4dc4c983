-- A page that is kept, and came again.
use Rattle.std.proofs.Common.{◌≡◌, ◌==◌, ℕ, ◌<◌, T, Bool, true, false, cond, List, length, get_or, set, Option, Some, None, refl, sym, ap, subst, ◌∙◌, Vec, Global}
use Rattle.std.specs.Cmp.{eq_by_cmp_equiv}
use Rattle.std.specs.Cmp.Lexicographic.{nat_list_cmp_total}
use Rattle.std.specs.FinMap.{get, get-insert}
use Rattle.std.specs.Option.{option_map}
use Rattle.std.proofs.lemmas.List.{get_or-map, set-get_or}
use Rattle.std.proofs.Math.Dec.{eqb_refl}
use Rattle.sacn_packets.specs.Page.{Page}
use Rattle.sacn_discovery.specs.Collection.{Known, State, after_acceptance, ascending, goes_on, joined, known_list, list_for, list_in, one_more, with_page}
use Rattle.sacn_discovery.specs.SourceViews.{pages_of}
use Rattle.sacn_discovery.specs.Storage.{HoldsPage}
use Rattle.sacn_discovery.proofs.Loops.{Pages}
use Rattle.sacn_discovery.proofs.Stores.{page_added}

abbrev shown : Option (Vec ℕ Global) → Option (List ℕ)
shown page = option_map (λ numbers. numbers.items) page

pub page_at : (pages : Pages) (i : ℕ) (more : Vec ℕ Global) (numbers : List ℕ) (d : Option (Vec ℕ Global)) → i < length pages → get_or pages i d ≡ Some more → more.items ≡ numbers → set (pages_of pages) i (Some numbers) ≡ pages_of pages
page_at pages i more numbers d lt here is =
    let read : get_or (pages_of pages) i (shown d) ≡ Some numbers = get_or-map shown pages i d (shown d) lt ∙ ap shown here ∙ ap (λ (l : List ℕ). Some l) is in
    ap (λ (o : Option (List ℕ)). set (pages_of pages) i o) (sym read) ∙ set-get_or (pages_of pages) i (shown d)

is_true : (b : Bool) → T b → b ≡ true
is_true true t = refl
is_true false t = absurd t

pub holds_goes_on : (p : Page) (o : Option Known) → HoldsPage p o → goes_on p.last o ≡ true
holds_goes_on p None h = absurd h
holds_goes_on p (Some known) h = ap (λ (n : ℕ). n == p.last) h.0 ∙ is_true (p.last == p.last) (eqb_refl p.last)

pub renewed : (t : ℕ) (p : Page) (h v : Known) (o : Option Known) → Some h ≡ o → HoldsPage p o → v ≡ record h { moment = t } → v ≡ one_more t p.page p.numbers h
renewed t p h v o there holds is =
    let here : HoldsPage p (Some h) = subst (HoldsPage p) (sym there) holds in
    is ∙ ap (λ (ps : List (Option (List ℕ))). let k : Known = record { last = h.last; pages = ps; moment = t } in k) (sym here.1)

kept_list : (t : ℕ) (p : Page) (o : Option Known) → HoldsPage p o → list_in (with_page t p.page p.last p.numbers o) ≡ list_for o
kept_list t p None h = absurd h
kept_list t p (Some known) h =
    ap (λ (k : Known). list_in k) (sym (page_added t p.page p.last p.numbers known (Some known) refl (holds_goes_on p (Some known) h)))
    ∙ ap (λ (ps : List (Option (List ℕ))). option_map ascending (joined ps)) h.1

-- the list of its source is the same
pub same_list : (p : Page) (s new : State) → HoldsPage p (get s.sources p.cid) → new ≡ after_acceptance p s → known_list new p.cid ≡ known_list s p.cid
same_list p s new holds is =
    let now : Known = with_page s.moment p.page p.last p.numbers (get s.sources p.cid) in
    ap (λ (t : State). known_list t p.cid) is
    ∙ ap list_for (get-insert nat_list_cmp_total s.sources p.cid now p.cid ∙ ap (λ b. cond b (Some now) (get s.sources p.cid)) ((eq_by_cmp_equiv nat_list_cmp_total).refl p.cid))
    ∙ kept_list s.moment p (get s.sources p.cid) holds
