-- A follower's book is the monitor's after the datagrams that it was handed, with moments in between.
use Rattle.std.proofs.Common.{◌≡◌, ℕ, ◌≤◌, inl, inr, max, List, [], ◌∷◌, ◌++◌, length, refl, sym, ap, subst, ◌∙◌, arith}
use Rattle.sacn_monitor.specs.declared.account.Endpoint.{Endpoint}
use Rattle.sacn_monitor.specs.declared.limits.TheConstants.{MAX_STREAMS}
use Rattle.sacn_monitor.specs.Books.{Book, after_take, after_tick}
use Rattle.sacn_monitor.specs.Histories.{Call, Take, Tick, moment_in_use, after_calls, arrivals, arrival_at, account_by, account_in, AccountsAreOfTheirPackets}
use Rattle.sacn_tell.specs.Following.{AreBy, after_ticks, Follows, AccountsAreOfWhatWasHanded}

-- ---- the calls of a monitor that make a follower's book

abbrev with_ticks : List ℕ → List Call → List Call
with_ticks [] calls = calls
with_ticks (m ∷ ms) calls = Tick m ∷ with_ticks ms calls

ticked_book : (ms : List ℕ) (calls : List Call) → after_calls (with_ticks ms calls) ≡ after_ticks ms (after_calls calls)
ticked_book [] calls = refl
ticked_book (m ∷ ms) calls = ap (after_tick m) (ticked_book ms calls)

ticked_moment : (t : ℕ) (ms : List ℕ) (calls : List Call) → AreBy t ms → moment_in_use calls ≤ t → moment_in_use (with_ticks ms calls) ≤ t
ticked_moment t [] calls by within = within
ticked_moment t (m ∷ ms) calls by within =
    let rest : moment_in_use (with_ticks ms calls) ≤ t = ticked_moment t ms calls by.1 within in
    omega (arith, by.0, rest)

ticked_arrivals : (universe : ℕ) (cid : List ℕ) (ms : List ℕ) (calls : List Call) → arrivals universe cid (with_ticks ms calls) ≡ arrivals universe cid calls
ticked_arrivals universe cid [] calls = refl
ticked_arrivals universe cid (m ∷ ms) calls = ticked_arrivals universe cid ms calls

-- calls of a monitor that leave this book, and in which the same packets came at the same moments
abbrev MadeBy : List Call → Book → Type 0
MadeBy handed b = (calls : List Call) × (b ≡ after_calls calls) × (moment_in_use calls ≤ moment_in_use handed)
    × ((universe : ℕ) (cid : List ℕ) → arrivals universe cid calls ≡ arrivals universe cid handed)

arrives : (universe : ℕ) (cid : List ℕ) (t now u : ℕ) (sender : Endpoint) (octets : List ℕ) → u ≡ t →
    arrival_at universe cid u (Take t sender octets) ≡ arrival_at universe cid t (Take now sender octets)
arrives universe cid t now u sender octets same = ap (λ v. arrival_at universe cid v (Take t sender octets)) same

made : (handed : List Call) (b : Book) → Follows handed b → MadeBy handed b
made [] b begun = ([], begun, omega arith, λ universe cid. refl)
made (Tick now ∷ earlier) b (old, follows, (ms, by, ticked)) =
    let before = made earlier old follows in
    let t : ℕ = max (moment_in_use earlier) now in (
      with_ticks ms before.0,
      ticked ∙ ap (after_ticks ms) before.1 ∙ sym (ticked_book ms before.0),
      ticked_moment (max (moment_in_use earlier) now) ms before.0 by (omega (arith, before.2)),
      λ universe cid. ticked_arrivals universe cid ms before.0 ∙ before.3 universe cid,
    )
made (Take now sender octets ∷ earlier) b (old, follows, (mid, (ms, by, ticked), taken)) =
    let before = made earlier old follows in
    let ticks : moment_in_use (with_ticks ms before.0) ≤ max (moment_in_use earlier) now
    = ticked_moment (max (moment_in_use earlier) now) ms before.0 by (omega (arith, before.2)) in
    let same : max (moment_in_use (with_ticks ms before.0)) (max (moment_in_use earlier) now) ≡ max (moment_in_use earlier) now = omega (arith, ticks) in
    let book : mid ≡ after_calls (with_ticks ms before.0) = ticked ∙ ap (after_ticks ms) before.1 ∙ sym (ticked_book ms before.0) in (
      Take (max (moment_in_use earlier) now) sender octets ∷ with_ticks ms before.0,
      taken ∙ ap (after_take (max (moment_in_use earlier) now) sender octets) book,
      omega (arith, same),
      λ universe cid.
          ap (λ x. x ++ arrivals universe cid (with_ticks ms before.0)) (arrives universe cid (max (moment_in_use earlier) now) now (max (moment_in_use (with_ticks ms before.0)) (max (moment_in_use earlier) now)) sender octets same)
          ∙ ap (λ xs. arrival_at universe cid (max (moment_in_use earlier) now) (Take now sender octets) ++ xs) (ticked_arrivals universe cid ms before.0 ∙ before.3 universe cid),
    )

pub accounts_are_of_what_was_handed : AccountsAreOfTheirPackets → AccountsAreOfWhatWasHanded
accounts_are_of_what_was_handed law handed b follows universe cid =
    let by = made handed b follows in
    elim (law by.0 universe cid) [
      | inl is ↦ inl (ap (λ x. account_in universe cid x.streams) by.1 ∙ is ∙ ap account_by (by.3 universe cid))
      | inr none ↦ inr (ap (λ x. account_in universe cid x.streams) by.1 ∙ none.0, subst (λ x. MAX_STREAMS ≤ length x.streams) (sym by.1) none.1)
    ]
