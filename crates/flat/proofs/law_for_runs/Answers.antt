use Rattle.flat.proofs.Runs.{runs_law}
use Rattle.flat.proofs.law_for_runs.Goals as goal

pub returns : goal.returns
returns g c d sound = runs_law g.K.Signal.kind g.met.K.Signal.lawful d sound g.K.WithUnknown.blank g.met.K.WithUnknown.open
