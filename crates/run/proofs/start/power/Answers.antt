use Rattle.run.proofs.WholeLaw.{powered_whole}
use Rattle.run.proofs.start.power.Goals as goal

pub returns-clause-law : goal.returns-clause-law
returns-clause-law g c = powered_whole g.K.Signal.kind g.met.K.Signal.lawful
