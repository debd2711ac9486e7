use Rattle.flat.proofs.InPlace.{cells_in_place}
use Rattle.flat.proofs.cells_stay_in_place.Goals as goal

pub returns : goal.returns
returns g c = cells_in_place g.row.V.Denot
