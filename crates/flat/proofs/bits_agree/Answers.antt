use Rattle.flat.proofs.Exist.{bits_agree}
use Rattle.flat.proofs.bits_agree.Goals as goal

pub returns : goal.returns
returns c = bits_agree
