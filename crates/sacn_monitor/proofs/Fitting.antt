-- A name as it is kept, and what is read from it.
use Rattle.std.proofs.Common.{◌≡◌, ℕ, zero, suc, ◌+◌, ◌-◌, ◌<◌, Bool, true, false, not, nat_le, cond, ◌==◌, List, [], ◌∷◌, ◌++◌, length, take, get_or, replicate, refl, sym, ap, subst, ◌∙◌, arith}
use Rattle.std.specs.List.{All, before_first, position_or_len}
use Rattle.sacn_packets.specs.Data.{Data}
use Rattle.sacn_packets.specs.Naming.{padded}
use Rattle.sacn_monitor.specs.declared.account.Account.{Account}
use Rattle.sacn_monitor.specs.declared.account.Endpoint.{Endpoint}
use Rattle.sacn_monitor.specs.declared.stream.Stream.{Stream}
use Rattle.sacn_monitor.specs.Kinds.{more}
use Rattle.sacn_monitor.specs.Accounts.{fitted, name_of, IsFitted, first_account, after_taken, after_discarded, after_late, after_packet, is_discarded, is_found}
use Rattle.sacn_monitor.specs.Numberings.{ahead_of, digit}

abbrev is_nul : ℕ → Bool
is_nul octet = octet == 0

-- ---- what is fitted is read as it was

take_more : (n x : ℕ) (xs : List ℕ) → take (1 + n) (x ∷ xs) ≡ x ∷ take n xs
take_more n x xs = let one : 1 + n ≡ suc n = omega arith in rw one refl

-- with NULs behind it, as without, what stands before the first NUL is read again
read_by : (test : Bool) (x n : ℕ) (xs : List ℕ) → is_nul x ≡ test → before_first is_nul (before_first is_nul xs ++ replicate n 0) ≡ before_first is_nul xs → before_first is_nul (take (cond (not test) (1 + position_or_len is_nul xs) 0) (x ∷ xs) ++ replicate n 0) ≡ take (cond (not test) (1 + position_or_len is_nul xs) 0) (x ∷ xs)
read_by true x zero xs e rest = refl
read_by true x (suc n) xs e rest = refl
read_by false x n xs e rest =
    let text : List ℕ = before_first is_nul xs in
    let all : List ℕ = text ++ replicate n 0 in
    ap (λ (ys : List ℕ). before_first is_nul (ys ++ replicate n 0)) (take_more (position_or_len is_nul xs) x xs)
    ∙ ap (λ (b : Bool). take (cond (not b) (1 + position_or_len is_nul all) 0) (x ∷ all)) e
    ∙ take_more (position_or_len is_nul all) x all
    ∙ ap (λ (ys : List ℕ). x ∷ ys) rest
    ∙ sym (take_more (position_or_len is_nul xs) x xs)

read_again : (n : ℕ) (xs : List ℕ) → before_first is_nul (before_first is_nul xs ++ replicate n 0) ≡ before_first is_nul xs
read_again zero [] = refl
read_again (suc n) [] = refl
read_again n (x ∷ xs) = read_by (is_nul x) x n xs refl (read_again n xs)

fitted_by : (fits : Bool) (xs : List ℕ) → nat_le (length (before_first is_nul xs)) 64 ≡ fits → fitted (before_first is_nul (cond fits (padded (before_first is_nul xs)) (replicate 64 0))) ≡ cond fits (padded (before_first is_nul xs)) (replicate 64 0)
fitted_by false xs e = refl
fitted_by true xs e =
    ap fitted (read_again (64 - length (before_first is_nul xs)) xs)
    ∙ ap (λ (b : Bool). cond b (padded (before_first is_nul xs)) (replicate 64 0)) e

pub fitted_again : (d : Data) → IsFitted (name_of d)
fitted_again d = record { again = fitted_by (nat_le (length (before_first is_nul d.name)) 64) d.name refl }

-- ---- what an account keeps

pub first_fitted : (t : ℕ) (sender : Endpoint) (d : Data) → IsFitted (first_account t sender d).name
unfolding first_account
first_fitted t sender d = fitted_again d

taken_fitted : (t : ℕ) (sender : Endpoint) (d : Data) (a : Account) → IsFitted (after_taken t sender d a).name
unfolding after_taken
taken_fitted t sender d a = fitted_again d

found_fitted : (found : Bool) (skipped missing : ℕ) (a : Account) → IsFitted a.name → IsFitted (cond found (record a { skipped = skipped; missing = missing }) a).name
found_fitted true skipped missing a known = known
found_fitted false skipped missing a known = known

late_fitted : (arrived : ℕ) (a : Account) → IsFitted a.name → IsFitted (after_late arrived a).name
late_fitted arrived a known =
    let late : Account = record a { late = more 1 a.late } in
    found_fitted (is_found arrived late) (late.skipped - 1) (late.missing - digit (ahead_of arrived late.sequence_number)) late known

discarded_fitted : (repeated : Bool) (arrived : ℕ) (a : Account) → IsFitted a.name → IsFitted (cond repeated (record a { repeats = more 1 a.repeats }) (after_late arrived a)).name
discarded_fitted true arrived a known = known
discarded_fitted false arrived a known = late_fitted arrived a known

heard_by : (discarded : Bool) (t : ℕ) (sender : Endpoint) (d : Data) (a : Account) → IsFitted a.name → IsFitted (cond discarded (after_discarded d.number a) (after_taken t sender d a)).name
heard_by true t sender d a known = discarded_fitted (d.number == a.sequence_number) d.number a known
heard_by false t sender d a known = taken_fitted t sender d a

pub heard_fitted : (t : ℕ) (sender : Endpoint) (d : Data) (a : Account) → IsFitted a.name → IsFitted (after_packet t sender d a).name
heard_fitted t sender d a known = heard_by (is_discarded t d a) t sender d a known

-- ---- what a register keeps

abbrev pub HasFitted : Stream → Type 0
HasFitted s = IsFitted s.account.name

pub fitted_at : (at : ℕ) (s : Stream) (ss : List Stream) → at < length ss → s ≡ get_or ss at s → All HasFitted ss → HasFitted s
fitted_at at s ss low e known = subst HasFitted (sym e) (known at s low)
