use Rattle.flat.proofs.Ticks.{ticks_fall}
use Rattle.flat.proofs.ticks_fall.Goals as goal

pub returns : goal.returns
returns g c = ticks_fall g.row.V.Denot
