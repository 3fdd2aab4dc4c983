-- The lines of a turn, port by port.
use Rattle.std.proofs.Common.{◌≡◌, ℕ, zero, suc, ◌+◌, ◌<◌, false, List, [], ◌∷◌, ◌++◌, take, drop, length, get_or, inl, inr, refl, sym, ap, subst, ◌∙◌, arith, append_assoc, if◌then◌else◌}
use Rattle.std.proofs.lemmas.List.{take_more}
use Rattle.sacn_node.specs.declared.port_frame.PortFrame.{PortFrame}
use Rattle.sacn_node.specs.Showings.{IsNewsOf, news_in}
use Rattle.sacn_node.proofs.StableFrames.{neither}
use Rattle.sacn_edge.specs.Additions.{Adds}
use Rattle.sacn_edge.specs.PortLines.{FailsAmong, frame_text, port_text, ports_text}

pub append_nil : {X : Type 0} (xs : List X) → xs ++ [] ≡ xs
append_nil [] = refl
append_nil (x ∷ xs) = ap (λ t. x ∷ t) (append_nil xs)

pub Adds-nil : (a : List ℕ → Type 0) → Adds a a []
Adds-nil a = λ ys told. (ys, told, sym (append_nil ys))

pub ports_text-append : (m : ℕ) (ps qs : List PortFrame) → ports_text m (ps ++ qs) ≡ ports_text m ps ++ ports_text m qs
ports_text-append m [] qs = refl
ports_text-append m (p ∷ ps) qs = ap (λ x. port_text m p ++ x) (ports_text-append m ps qs) ∙ sym (append_assoc (port_text m p) (ports_text m ps) (ports_text m qs))

-- the text of one port more
pub ports_text-more : (m : ℕ) (ps : List PortFrame) (i : ℕ) (d : PortFrame) → i < length ps → ports_text m (take (i + 1) ps) ≡ ports_text m (take i ps) ++ port_text m (get_or ps i d)
ports_text-more m ps i d lt =
    ap (ports_text m) (take_more ps i d lt)
    ∙ ports_text-append m (take i ps) (get_or ps i d ∷ [])
    ∙ ap (λ x. ports_text m (take i ps) ++ x) (append_nil (port_text m (get_or ps i d)))

-- the ports up to one, that one, and the rest
pub split_at : {X : Type 0} (xs : List X) (i : ℕ) (d : X) → i < length xs → xs ≡ take i xs ++ get_or xs i d ∷ drop (i + 1) xs
split_at [] i d lt = absurd (omega arith)
split_at (x ∷ xs) zero d lt = refl
split_at (x ∷ xs) (suc i) d lt =
    let next : suc i + 1 ≡ suc (i + 1) = omega arith in
    rw next (ap (λ l. x ∷ l) (split_at xs i d (omega arith)))

-- ---- what is new of some ports

none_in : (m : ℕ) (ps : List PortFrame) → news_in ps ≡ false → ports_text m ps ≡ []
none_in m [] none = refl
none_in m (p ∷ ps) none =
    let parts = neither p.is_new (news_in ps) none in
    ap (λ is_new. (if is_new then frame_text p.port m p.last else []) ++ ports_text m ps) parts.0 ∙ none_in m ps parts.1

-- their text is that of the ports
pub news_text : (m : ℕ) (news ps : List PortFrame) → IsNewsOf news ps → ports_text m news ≡ ports_text m ps
news_text m news ps (inl all) = ap (ports_text m) all
news_text m news ps (inr none) = ap (ports_text m) none.0 ∙ sym (none_in m ps none.1)

not_empty : {X : Type 0} (xs : List X) (y : X) (zs : List X) → [] ≡ xs ++ y ∷ zs → ⊥
not_empty [] y zs is = absurd (cc)
not_empty (x ∷ xs) y zs is = absurd (cc)

-- and where it fails among them, it does among the ports
pub news_fail : (m : ℕ) (news ps : List PortFrame) (old new : List ℕ → Type 0) → IsNewsOf news ps → FailsAmong m news old new → FailsAmong m ps old new
news_fail m news ps old new (inl all) fails = subst (λ ps. FailsAmong m ps old new) all fails
news_fail m news ps old new (inr none) fails = absurd (not_empty fails.0 fails.1 fails.2 (sym none.0 ∙ fails.4))
