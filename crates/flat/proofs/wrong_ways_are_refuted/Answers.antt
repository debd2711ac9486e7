use Rattle.flat.proofs.Refuted.{refuted}
use Rattle.flat.proofs.wrong_ways_are_refuted.Goals as goal

pub returns : goal.returns
returns c = refuted
