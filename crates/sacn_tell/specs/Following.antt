-- What a follower keeps of a network, and what the datagrams that it was handed say of it.
use Rattle.std.specs.Prelude.{◌≡◌, ℕ, ◌≤◌, ◌⊎◌, ⊤, max, List, [], ◌∷◌, length, None}
use Rattle.sacn_monitor.specs.declared.account.Endpoint.{Endpoint}
use Rattle.sacn_monitor.specs.declared.limits.TheConstants.{MAX_STREAMS}
use Rattle.sacn_monitor.specs.Books.{Book, new_book, after_take, after_tick}
use Rattle.sacn_tell.specs.declared.follower.Follower.{Follower}
use Rattle.sacn_tell.specs.KeptLists.{listed_by, listed_in}
use Rattle.sacn_monitor.specs.Histories.{Call, Take, Tick, moment_in_use, after_calls, arrivals, account_by, account_in}

-- each of these moments is t or earlier
abbrev pub AreBy : ℕ → List ℕ → Type 0
AreBy t [] = ⊤
AreBy t (m ∷ ms) = (m ≤ t) × AreBy t ms

-- the clock moved to these moments, the latest first, each telling a loss
abbrev pub after_ticks : List ℕ → Book → Book
after_ticks [] b = b
after_ticks (m ∷ ms) b = after_tick m (after_ticks ms b)

-- what a book is once losses up to t were told: no account changes
abbrev pub IsTicked : ℕ → Book → Book → Type 0
IsTicked t old new = (moments : List ℕ) × AreBy t moments × (new ≡ after_ticks moments old)

-- what it is after a datagram at t, once the losses up to then were told
abbrev pub IsTaken : ℕ → Endpoint → List ℕ → Book → Book → Type 0
IsTaken t sender octets old new = (before : Book) × IsTicked t old before × (new ≡ after_take t sender octets before)

-- a book that a follower may have after the datagrams and moments that it was handed, the latest first
abbrev pub Follows : List Call → Book → Type 0
Follows [] b = b ≡ new_book
Follows (Take now sender octets ∷ earlier) b = (old : Book) × Follows earlier old × IsTaken (max (moment_in_use earlier) now) sender octets old b
Follows (Tick now ∷ earlier) b = (old : Book) × Follows earlier old × IsTicked (max (moment_in_use earlier) now) old b

-- a follower that may be what these calls leave
pub record IsFollowing (calls : List Call) {O : Type 0} (follower : Follower O) : Type 0 where
  pub book : Follows calls follower.network.monitor
  pub listed : listed_in follower.listings ≡ listed_by calls
  pub moment : follower.network.monitor.moment ≡ moment_in_use calls

-- Whatever a follower was handed, its account of a source on a universe is the one that the packets of that source there give; or it has none, and
-- there is no room for a further one.
abbrev pub AccountsAreOfWhatWasHanded : Type 0
AccountsAreOfWhatWasHanded = (calls : List Call) (book : Book) → Follows calls book → (universe : ℕ) (cid : List ℕ) →
    (account_in universe cid book.streams ≡ account_by (arrivals universe cid calls))
    ⊎ ((account_in universe cid book.streams ≡ None) × (MAX_STREAMS ≤ length book.streams))

-- Whatever a follower was handed, its counts, and how many streams it has, are those that these calls alone give: what it told in between changes none.
abbrev pub CountsAreOfWhatWasHanded : Type 0
CountsAreOfWhatWasHanded = (calls : List Call) (book : Book) → Follows calls book →
    (book.tally ≡ (after_calls calls).tally) × (length book.streams ≡ length (after_calls calls).streams)
