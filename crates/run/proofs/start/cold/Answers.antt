use Rattle.run.proofs.WholeLaw.{law_whole}
use Rattle.run.proofs.start.cold.Goals as goal

pub returns-clause-law : goal.returns-clause-law
returns-clause-law g c = law_whole g.K.Signal.kind g.met.K.Signal.lawful g.K.WithUnknown.blank g.met.K.WithUnknown.open
