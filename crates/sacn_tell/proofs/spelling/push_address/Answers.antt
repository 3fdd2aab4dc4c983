use Rattle.std.proofs.lemmas.Str.{IsAscii-take}
use Rattle.std.proofs.lemmas.Str.Ascii.{IsAscii-nil}
use Rattle.sacn_tell.proofs.spelling.push_address.Goals as goal

pub push_ascii-requires : goal.push_ascii-requires
push_ascii-requires c = IsAscii-take _ _ (c.put_address-start.ensures.ascii IsAscii-nil)
