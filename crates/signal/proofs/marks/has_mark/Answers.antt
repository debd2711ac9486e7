use Rattle.std.proofs.Common.{arith}
use Rattle.signal.specs.Numbers.{any_is}
use Rattle.signal.proofs.marks.has_mark.Goals as goal

pub returns : goal.returns
returns c = any_is c.args.marks (omega arith)
