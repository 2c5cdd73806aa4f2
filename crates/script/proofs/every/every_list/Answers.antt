use Rattle.script.proofs.EveryLaws.{every_list}
use Rattle.script.proofs.every.every_list.Goals as goal

pub returns : goal.returns
returns c = every_list
