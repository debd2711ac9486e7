use Rattle.flat.proofs.Windows.{windows_show}
use Rattle.flat.proofs.windows_show.Goals as goal

pub returns : goal.returns
returns g c = windows_show g.row.V.Denot
