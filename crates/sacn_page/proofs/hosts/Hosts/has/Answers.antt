-- The names are the texts of what is kept.
use Rattle.std.proofs.Common.{map, string_bytes, sym, ap, ◌∙◌}
use Rattle.sacn_page.proofs.Mapping.{among_is}
use Rattle.sacn_page.proofs.hosts.Hosts.has.Goals as goal

pub returns : goal.returns
returns c = among_is string_bytes c.as_slice.result.now c.args.self.now c.args.name.now c.is_among.result (sym c.self.view_is ∙ ap (map string_bytes) (sym c.as_slice.ensures.value)) c.is_among.ensures
