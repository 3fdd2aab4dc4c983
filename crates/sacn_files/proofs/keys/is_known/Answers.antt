use Rattle.std.proofs.Common.{refl}
use Rattle.sacn_files.proofs.TableLemmas.{list_any-map}
use Rattle.sacn_files.proofs.keys.is_known.Goals as goal

pub returns : goal.returns
returns c = rw (c.is_listed.ensures, c.is_listed-2.ensures, list_any-map _ _ c.args.keys.required.now, list_any-map _ _ c.args.keys.optional.now) refl
