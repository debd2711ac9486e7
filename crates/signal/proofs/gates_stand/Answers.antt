use Rattle.signal.proofs.GatesLaws.{gates_stand}
use Rattle.signal.proofs.gates_stand.Goals as goal

pub returns : goal.returns
returns g c = gates_stand g.K.Signal.kind g.met.K.Signal.lawful
