-- What is kept of the lists of sources (E1.31, 8), what a page leaves of it, and what it tells.
use Rattle.std.specs.Prelude.{ℕ, Bool, false, ◌==◌, Option, None, Some, slice_get, slice_set, List, [], ◌∷◌, ◌++◌, map, Result, Ok, Err, codes, if◌then◌else◌}
use Rattle.std.specs.Str.{bytes_eq}
use Rattle.std.specs.List.{before_first, list_any, position}
use Rattle.std.specs.Option.{option_and_then}
use Rattle.sacn_packets.specs.declared.root.fault.PacketFault.{PacketFault}
use Rattle.sacn_packets.specs.declared.framing.packet.Packet.{Packet}
use Rattle.sacn_packets.specs.declared.framing.packet.Packet.TheVariants.{DataPacket, PagePacket, SyncPacket}
use Rattle.sacn_packets.specs.Page.{Page as PageFields}
use Rattle.sacn_discovery.specs.Collection.{State, known_list}
use Rattle.sacn_monitor.specs.Kinds.{more}
use Rattle.sacn_tell.specs.declared.listings.Listings.{Listings}
use Rattle.sacn_tell.specs.declared.listings.PageNews.{PageNews}
use Rattle.sacn_tell.specs.declared.listings.PageNews.TheVariants.{Nothing, Appears, Changes}
use Rattle.sacn_tell.specs.declared.options.Form.{Form}
use Rattle.sacn_tell.specs.KeptLists.{Listed, collected, is_read}
use Rattle.sacn_tell.specs.Lines.{KeptList, kept_list, listing_line}
use Rattle.sacn_tell.specs.Tellings.{with_line_end}

-- the sources in the order of their first pages, their lists in the same order, how many pages came of others, and the pages of which lists are made
pub record ListBook : Type 0 where
  pub sources : List (List ℕ)
  pub lists : List KeptList
  pub passed : ℕ
  pub pages : State

abbrev pub list_book : Listings → ListBook
list_book l = record { sources = l.sources.items; lists = map kept_list l.known.items; passed = l.passed; pages = l.collector }

abbrev pub place_of : List ℕ → ListBook → Option ℕ
place_of cid b = position (λ source. bytes_eq source cid) b.sources

-- the list of a source
abbrev pub list_at : List ℕ → ListBook → Option KeptList
list_at cid b = option_and_then (λ place. slice_get b.lists place) (place_of cid b)

-- ---- a list that came whole, beside the one that is kept

abbrev pub is_list : Option (List ℕ) → List ℕ → Bool
is_list None universes = false
is_list (Some kept) universes = bytes_eq kept universes

-- the source's first, another one than before, or nothing new
abbrev pub list_news : Option (List ℕ) → List ℕ → PageNews
list_news None universes = Appears
list_news (Some kept) universes = if bytes_eq kept universes then Nothing else Changes

-- a list that is another one is kept with its name
abbrev pub with_list : List ℕ → List ℕ → KeptList → KeptList
with_list name universes l = if is_list l.universes universes then l else record { cid = l.cid; name = name; universes = Some universes }

abbrev pub put_list : List ℕ → List ℕ → ℕ → List KeptList → Option KeptList → List KeptList
put_list name universes place lists None = lists
put_list name universes place lists (Some l) = slice_set lists place (with_list name universes l)

abbrev pub news_of : List ℕ → Option KeptList → PageNews
news_of universes None = Nothing
news_of universes (Some l) = list_news l.universes universes

abbrev pub with_lists : List KeptList → ListBook → ListBook
with_lists lists b = record { sources = b.sources; lists = lists; passed = b.passed; pages = b.pages }

abbrev pub kept_at : List ℕ → List ℕ → Option ℕ → ListBook → ListBook
kept_at name universes None b = b
kept_at name universes (Some place) b = with_lists (put_list name universes place b.lists (slice_get b.lists place)) b

-- the list of the source of this CID, where it came whole
abbrev pub after_list : List ℕ → List ℕ → Option (List ℕ) → ListBook → ListBook
after_list cid name None b = b
after_list cid name (Some universes) b = kept_at name universes (place_of cid b) b

abbrev pub news_in : List ℕ → Option (List ℕ) → ListBook → PageNews
news_in cid None b = Nothing
news_in cid (Some universes) b = news_of universes (list_at cid b)

-- ---- a page

abbrev pub with_pages : State → ListBook → ListBook
with_pages pages b = record { sources = b.sources; lists = b.lists; passed = b.passed; pages = pages }

-- the list that it makes whole
abbrev pub whole_list : ℕ → PageFields → ListBook → Option (List ℕ)
whole_list now p b = known_list (collected now p b.pages) p.cid

-- that of a source whose list is kept: the name up to its NUL (E1.31, 6.4.2)
abbrev pub after_heard : ℕ → PageFields → ListBook → ListBook
after_heard now p b = after_list p.cid (before_first (λ octet. octet == 0) p.name) (whole_list now p b) (with_pages (collected now p b.pages) b)

abbrev pub heard_news : ℕ → PageFields → ListBook → PageNews
heard_news now p b = news_in p.cid (whole_list now p b) b

-- a source of which no page came before has no list yet
abbrev pub no_list : List ℕ → KeptList
no_list cid = record { cid = cid; name = []; universes = None }

abbrev pub with_source : List ℕ → ListBook → ListBook
with_source cid b = record { sources = b.sources ++ cid ∷ []; lists = b.lists ++ no_list cid ∷ []; passed = b.passed; pages = b.pages }

abbrev pub opened : List ℕ → ListBook → ListBook
opened cid b = if list_any (λ source. bytes_eq source cid) b.sources then b else with_source cid b

abbrev pub passed_by : ListBook → ListBook
passed_by b = record { sources = b.sources; lists = b.lists; passed = more 1 b.passed; pages = b.pages }

abbrev pub listed_of : ListBook → Listed
listed_of b = record { sources = b.sources; passed = b.passed }

-- a page is read where its list is kept, or there is room for it, and else it is counted
abbrev pub after_page : ℕ → PageFields → ListBook → ListBook
after_page now p b = if is_read p.cid (listed_of b) then after_heard now p (opened p.cid b) else passed_by b

abbrev pub page_news : ℕ → PageFields → ListBook → PageNews
page_news now p b = if is_read p.cid (listed_of b) then heard_news now p (opened p.cid b) else Nothing

-- ---- what it tells: the list of its source, where that is the first or another one than before

abbrev pub list_told : Form → ℕ → List ℕ → Option KeptList → List ℕ
list_told form now event None = []
list_told form now event (Some l) = with_line_end (listing_line form now event l)

abbrev pub listed_told : Form → ℕ → PageNews → Option KeptList → List ℕ
listed_told form now Nothing l = []
listed_told form now Appears l = list_told form now (codes "lists") l
listed_told form now Changes l = list_told form now (codes "relists") l

abbrev pub page_told : Form → ℕ → Result Packet PacketFault → ListBook → List ℕ
page_told form now (Ok (DataPacket d)) b = []
page_told form now (Ok (PagePacket p)) b = listed_told form now (page_news now p b) (list_at p.cid (after_page now p b))
page_told form now (Ok SyncPacket) b = []
page_told form now (Err fault) b = []

abbrev pub after_read : ℕ → Result Packet PacketFault → ListBook → ListBook
after_read now (Ok (DataPacket d)) b = b
after_read now (Ok (PagePacket p)) b = after_page now p b
after_read now (Ok SyncPacket) b = b
after_read now (Err fault) b = b
