-- What a view of a page shows.
use Rattle.sacn_packets.specs.Page.{Page, IsPage}
use Rattle.sacn_packets.specs.PageLayers.{page_in, IsPageLaidOut}
use Rattle.sacn_packets.specs.declared.framing.page.PageView.TheInside.{Inside}

abbrev pub page_of_view : Inside → Page
page_of_view v = page_in v.octets.now

pub record IsShown (v : Inside) : Type 0 where
  pub is_page : IsPage (page_of_view v)
  pub laid_out : IsPageLaidOut v.octets.now
