use Rattle.flat.proofs.Count.{counts}
use Rattle.flat.proofs.counts_stand.Goals as goal

pub returns : goal.returns
returns g c = counts g.row.V.Denot
