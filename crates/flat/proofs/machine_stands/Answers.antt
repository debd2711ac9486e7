use Rattle.flat.proofs.Machine.{machine_keeps}
use Rattle.flat.proofs.machine_stands.Goals as goal

pub returns : goal.returns
returns g c = machine_keeps g.row.V.Denot
