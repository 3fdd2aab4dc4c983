-- What an observer was told, call by call.
use Rattle.std.proofs.Common.{◌≡◌, ◌⊎◌, inl, inr, ℕ, Bool, true, false, cond, List, [], ◌∷◌, ◌++◌, slice_get, refl, sym, ap, subst}
use Rattle.sacn_monitor.specs.declared.account.Endpoint.{Endpoint}
use Rattle.sacn_monitor.specs.declared.news.News.{News}
use Rattle.sacn_monitor.specs.declared.news.Noted.{Noted}
use Rattle.sacn_monitor.specs.declared.news.Noted.TheVariants.{Heard, Page, Sync}
use Rattle.sacn_network.specs.declared.ledger.Ledger.{Ledger}
use Rattle.sacn_network.specs.declared.occurrence.What.TheVariants as told
use Rattle.sacn_network.specs.Contests.{contest_in, contest_of, contest_told, is_contested}
use Rattle.sacn_network.specs.Packets.{news_told, noted_told, now_told, stirred_universe, tells_nothing}
use Rattle.sacn_network.specs.Sets.{has_bit, is_otherwise}
use Rattle.sacn_network.specs.Telling.{AreTold, Told}

module _ {O : Type 0} (Notes : O → Told → O → Type 0) where
  pub told_nothing : (a : O) → AreTold Notes [] a a
  unfolding AreTold
  told_nothing a = refl

  pub told_none : (a b : O) (xs : List Told) → xs ≡ [] → b ≡ a → AreTold Notes xs a b
  told_none a b xs none same = subst (λ (ts : List Told). AreTold Notes ts a b) (sym none) (subst (AreTold Notes [] a) (sym same) (told_nothing a))

  pub told_one : (told : Told) (a b : O) → Notes a told b → AreTold Notes (told ∷ []) a b
  unfolding AreTold
  told_one told a b note = (b, note, refl)

  pub told_both : (xs ys : List Told) (a b c : O) → AreTold Notes xs a b → AreTold Notes ys b c → AreTold Notes (xs ++ ys) a c
  unfolding AreTold
  told_both [] ys a b c first next = subst (λ (o : O). AreTold Notes ys o c) first next
  told_both (x ∷ xs) ys a b c (mid, note, rest) next = (mid, note, told_both xs ys mid b c rest next)

  pub told_as : (xs ys : List Told) (a b : O) → xs ≡ ys → AreTold Notes xs a b → AreTold Notes ys a b
  told_as xs ys a b same told = subst (λ (ts : List Told). AreTold Notes ts a b) same told

  -- a data packet's news, and then the contest of its universe
  pub heard_told : (sender : Endpoint) (place : ℕ) (news : News) (x : Noted) (n : Ledger) (a b c : O) → x ≡ Heard place news → AreTold Notes (news_told place news n) a b
      → AreTold Notes (contest_in (stirred_universe (slice_get n.monitor.streams place) news) n) b c → AreTold Notes (noted_told sender x n) a c
  unfolding noted_told
  heard_told sender place news x n a b c is first next =
      subst (λ (y : Noted). AreTold Notes (noted_told sender y n) a c) (sym is)
      (told_both (news_told place news n) (contest_in (stirred_universe (slice_get n.monitor.streams place) news) n) a b c first next)

-- ---- where nothing is told

pub no_news : (place : ℕ) (news : News) (n : Ledger) → tells_nothing news ≡ true → news_told place news n ≡ []
unfolding news_told
no_news place news n nothing = ap (λ (b : Bool). cond b [] (now_told (told.Heard place news) n)) nothing

pub no_contest : (universe : ℕ) (n : Ledger) → is_otherwise (is_contested universe n.monitor) (has_bit n.contested universe) ≡ false → contest_told universe n ≡ []
unfolding contest_told
no_contest universe n same = ap (λ (b : Bool). cond b (contest_of universe n.monitor ∷ []) []) same

pub no_page : (sender : Endpoint) (x : Noted) (n : Ledger) → (x ≡ Page) ⊎ (x ≡ Sync) → noted_told sender x n ≡ []
unfolding noted_told
no_page sender x n (inl is) = ap (λ (y : Noted). noted_told sender y n) is
no_page sender x n (inr is) = ap (λ (y : Noted). noted_told sender y n) is
