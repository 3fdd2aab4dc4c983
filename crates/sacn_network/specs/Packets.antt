-- What a datagram tells, by what was noted of it.
use Rattle.std.specs.Prelude.{ℕ, Bool, true, false, not, ◌&&◌, ◌||◌, ◌==◌, is_none, List, [], ◌∷◌, ◌++◌, slice_get, Option, None, Some, if◌then◌else◌}
use Rattle.sacn_monitor.specs.declared.account.Endpoint.{Endpoint}
use Rattle.sacn_monitor.specs.declared.news.StreamEvent.{StreamEvent}
use Rattle.sacn_monitor.specs.declared.news.StreamEvent.TheVariants.{GoesOn, Appeared, CameBack, Ended, OutOfSequence, Repeated}
use Rattle.sacn_monitor.specs.declared.news.News.{News}
use Rattle.sacn_monitor.specs.declared.news.Noted.{Noted}
use Rattle.sacn_monitor.specs.declared.news.Noted.TheVariants as noted
use Rattle.sacn_monitor.specs.declared.stream.Stream.{Stream}
use Rattle.sacn_network.specs.declared.ledger.Ledger.{Ledger}
use Rattle.sacn_network.specs.Telling.{Told, told_now}
use Rattle.sacn_network.specs.declared.occurrence.What.{What}
use Rattle.sacn_network.specs.declared.occurrence.What.TheVariants.{Heard, Refused, Untracked}
use Rattle.sacn_network.specs.Sets.{marked}
use Rattle.sacn_network.specs.Contests.{contest_in, with_contest}

abbrev pub goes_on : StreamEvent → Bool
goes_on GoesOn = true
goes_on Appeared = false
goes_on CameBack = false
goes_on Ended = false
goes_on OutOfSequence = false
goes_on Repeated = false

-- a packet tells nothing new
abbrev pub tells_nothing : News → Bool
tells_nothing news = goes_on news.event && (news.skipped == 0) && not news.began_anew && is_none news.leaves_out && is_none news.priority && not news.renamed && not news.moved

-- a packet may change who lights its universe at the top priority, or is the first of its source there: its source doesn't go on, ends a stream, or lights the
-- universe otherwise than before
abbrev pub stirs : Stream → News → Bool
stirs s news = not (goes_on news.event) || s.account.ended || news.relit

-- something happened now
abbrev pub now_told : What → Ledger → List Told
now_told what n = told_now what n.monitor ∷ []

unfoldable pub news_told : ℕ → News → Ledger → List Told
news_told place news n = if tells_nothing news then [] else now_told (Heard place news) n

-- the universe that a packet stirs
abbrev pub stirred_universe : Option Stream → News → Option ℕ
stirred_universe None news = None
stirred_universe (Some s) news = if stirs s news then Some s.universe else None

-- from then on it was heard
abbrev pub with_heard : ℕ → Ledger → Ledger
with_heard universe n = record n { heard = marked universe true n.heard }

unfoldable pub stirred : Option ℕ → Ledger → Ledger
stirred None n = n
stirred (Some universe) n = with_contest universe (with_heard universe n)

-- a page and a sync packet tell nothing here
unfoldable pub noted_told : Endpoint → Noted → Ledger → List Told
noted_told sender (noted.Refused fault) n = now_told (Refused sender fault) n
noted_told sender noted.Page n = []
noted_told sender noted.Sync n = []
noted_told sender noted.Untracked n = now_told (Untracked sender) n
noted_told sender (noted.Heard place news) n = news_told place news n ++ contest_in (stirred_universe (slice_get n.monitor.streams place) news) n

unfoldable pub after_noted : Noted → Ledger → Ledger
after_noted (noted.Refused fault) n = n
after_noted noted.Page n = n
after_noted noted.Sync n = n
after_noted noted.Untracked n = n
after_noted (noted.Heard place news) n = stirred (stirred_universe (slice_get n.monitor.streams place) news) n
