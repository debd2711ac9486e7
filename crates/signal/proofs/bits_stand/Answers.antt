use Rattle.signal.proofs.GatesLaws.{gates_on_bits}
use Rattle.signal.proofs.bits_stand.Goals as goal

pub returns : goal.returns
returns c = gates_on_bits
