use Rattle.std.proofs.lemmas.Str.{IsAscii-take}
use Rattle.std.proofs.lemmas.Str.Ascii.{IsAscii-nil}
use Rattle.sacn_tell.proofs.spelling.push_sender.Goals as goal

pub push_ascii-requires : goal.push_ascii-requires
push_ascii-requires c = IsAscii-take _ _ (c.put_address-start.ensures.ascii (c.put_port-colon.ensures.ascii IsAscii-nil))
