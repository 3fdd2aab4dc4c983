use Rattle.std.proofs.lemmas.Nat.{mul-le}
use Rattle.sacn_replay.proofs.word.decimals_in.Goals as goal

pub returns-clause-bound : goal.returns-clause-bound
returns-clause-bound c = mul-le c.scale.result c.in_ok-value.value 1000 230000 c.scale.ensures.bound c.in_ok-value.ensures.bound
