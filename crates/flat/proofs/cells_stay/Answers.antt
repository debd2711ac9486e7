use Rattle.flat.proofs.Walk.{next_length}
use Rattle.flat.proofs.cells_stay.Goals as goal

pub returns : goal.returns
returns g c = next_length
