use Rattle.flat.proofs.Deep.{by_number}
use Rattle.flat.proofs.modules_by_number.Goals as goal

pub returns : goal.returns
returns c = by_number
