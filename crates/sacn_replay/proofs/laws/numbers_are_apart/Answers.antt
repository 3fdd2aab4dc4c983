use Rattle.sacn_replay.proofs.Apart.{numbers_apart}
use Rattle.sacn_replay.proofs.laws.numbers_are_apart.Goals as goal

pub returns : goal.returns
returns c = numbers_apart
