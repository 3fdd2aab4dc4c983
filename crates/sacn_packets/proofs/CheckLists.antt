-- An ordered list of checks answers the value exactly where all of them pass.
use Rattle.std.proofs.Common.{◌≡◌, Bool, true, false, cond, List, [], ◌∷◌, Result, Ok, Err, refl, inl, inr, ◌⊎◌}
use Rattle.sacn_packets.specs.declared.root.fault.PacketFault.{PacketFault}
use Rattle.sacn_packets.specs.Check.{Check, checked}
use Rattle.sacn_packets.specs.Results.{◌>>=◌}

abbrev pub AllPassed : List Check → Type 0
AllPassed [] = Unit {0}
AllPassed (c ∷ checks) = (c.passes ≡ true) × AllPassed checks

pub chosen : {A : Type 0} (b : Bool) (fault : PacketFault) (x : Result A PacketFault) (y : A) → cond b x (Err fault) ≡ Ok y → (b ≡ true) × (x ≡ Ok y)
chosen true fault x y e = (refl, e)
chosen false fault x y e = absurd cc

pub all_passed : {A : Type 0} (checks : List Check) (x y : A) → checked checks x ≡ Ok y → AllPassed checks × (x ≡ y)
all_passed [] x y e = (tt, cc)
all_passed (c ∷ checks) x y e =
    let here = chosen c.passes c.fault (checked checks x) y e in
    let later = all_passed checks x y here.1 in
    ((here.0, later.0), later.1)

pub checked_is : {A : Type 0} (checks : List Check) (x : A) → AllPassed checks → checked checks x ≡ Ok x
checked_is [] x h = refl
checked_is (c ∷ checks) x h = rw (h.0) (checked_is checks x h.1)

-- the value of a step that did not fail
pub bind_ok : {A B : Type 0} (r : Result A PacketFault) (next : A → Result B PacketFault) (y : B) → (r >>= next) ≡ Ok y → (x : A) × (r ≡ Ok x) × (next x ≡ Ok y)
bind_ok (Ok x) next y e = (x, refl, e)
bind_ok (Err fault) next y e = absurd cc

abbrev done : {A : Type 0} → A → Result A PacketFault
done x = Ok x

pub ok_is : {A : Type 0} (x y : A) → done x ≡ done y → x ≡ y
ok_is x y e = cc

pub either : {A : Type 0} (b : Bool) (x y z : A) → cond b x y ≡ z → ((b ≡ true) × (x ≡ z)) ⊎ ((b ≡ false) × (y ≡ z))
either true x y z e = inl (refl, e)
either false x y z e = inr (refl, e)
