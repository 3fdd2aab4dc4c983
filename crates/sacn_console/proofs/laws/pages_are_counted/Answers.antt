use Rattle.sacn_console.proofs.PageCounting.{pages_are_counted}
use Rattle.sacn_console.proofs.laws.pages_are_counted.Goals as goal

pub returns : goal.returns
returns c = pages_are_counted
