use Rattle.flat.proofs.Settle.{flat_step}
use Rattle.flat.proofs.flat_step_stands.Goals as goal

pub returns : goal.returns
returns c = flat_step
