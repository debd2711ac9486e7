use Rattle.flat.proofs.Deep.{stays_deep}
use Rattle.flat.proofs.stack_stays_small.Goals as goal

pub returns : goal.returns
returns g c = stays_deep g.row.V.Denot
