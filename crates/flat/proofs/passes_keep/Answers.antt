use Rattle.flat.proofs.Keep.{passes_keep}
use Rattle.flat.proofs.passes_keep.Goals as goal

pub returns : goal.returns
returns g c = passes_keep g.row.V.Denot g.row.W.Denot
