-- What goes out of a room.
use Rattle.std.proofs.Common.{◌≡◌, ◌++◌, ◌∷◌, [], ℕ, List, Bool, true, false, length, take, drop, refl, sym, ◌∙◌, ap, append_assoc, append-nil, take-append-drop, if◌then◌else◌}
use Rattle.sacn_machine.specs.Rooms.{Waiting, Event, Comes, Goes, Tells, after, waiting_after, gone, gone_in, kept, kept_in, has_room, is_told, after_loss, NothingIsCut}

-- one event cuts nothing
pub one_keeps : (e : Event) (w : Waiting) → gone_in e w ++ (after e w).octets ≡ w.octets ++ kept_in e w
one_keeps (Comes line) w =
    elim (has_room (length line) w) as (λ b. (if b then (record { octets = w.octets ++ line; lost = w.lost }) else after_loss w).octets ≡ w.octets ++ (if b then line else [])) [ true ↦ refl | false ↦ sym (append-nil w.octets) ]
one_keeps (Goes n) w = take-append-drop n w.octets ∙ sym (append-nil w.octets)
one_keeps Tells w =
    elim (is_told w) as (λ b. (if b then (record { octets = w.octets; lost = 0 }) else w).octets ≡ w.octets ++ []) [ true ↦ sym (append-nil w.octets) | false ↦ sym (append-nil w.octets) ]

-- three lists joined
pub joined : (g1 g2 o o' k1 k2 o2 : List ℕ) → g1 ++ o2 ≡ o ++ k1 → g2 ++ o' ≡ o2 ++ k2 → (g1 ++ g2) ++ o' ≡ o ++ (k1 ++ k2)
joined g1 g2 o o' k1 k2 o2 e f =
    append_assoc g1 g2 o' ∙ ap (λ x. g1 ++ x) f ∙ sym (append_assoc g1 o2 k2) ∙ ap (λ x. x ++ k2) e ∙ append_assoc o k1 k2

pub all_keep : NothingIsCut
all_keep [] w = sym (append-nil w.octets)
all_keep (e ∷ es) w = joined (gone_in e w) (gone es (after e w)) w.octets (waiting_after es (after e w)).octets (kept_in e w) (kept es (after e w)) (after e w).octets (one_keeps e w) (all_keep es (after e w))
