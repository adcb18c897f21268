-- `sheet::read`: the line that the lists then hold.
use Rattle.sheet.proofs.ReadLaws.{read-meets}
use Rattle.sheet.proofs.read.Goals as goal

pub returns-clause-meets : goal.returns-clause-meets
returns-clause-meets c = read-meets _ _ _ _ c.read.result c.read.ensures
