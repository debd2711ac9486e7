use Rattle.std.proofs.Common.{arith}
use Rattle.board.proofs.Inputs.{first_reach}
use Rattle.board.proofs.wires.inputs_reach.Goals as goal

pub returns : goal.returns
returns c = first_reach c.loop-i.set-items c.args.counts.inputs 256 c.loop-i.invariant.0 (λ j h. c.loop-i.invariant.1 j (omega arith))
