use Rattle.flat.proofs.Runs.{powered_law}
use Rattle.flat.proofs.law_for_powered_runs.Goals as goal

pub returns : goal.returns
returns g c = powered_law g.K.Signal.kind g.met.K.Signal.lawful
