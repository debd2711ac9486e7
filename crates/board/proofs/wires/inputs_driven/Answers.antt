use Rattle.std.proofs.Common.{false, replicate, arith}
use Rattle.std.proofs.lemmas.List.{length-take-le}
use Rattle.board.proofs.Inputs.{first_are_driven}
use Rattle.board.proofs.wires.inputs_driven.Goals as goal

pub returns : goal.returns
returns c w = first_are_driven c.fill.new.self _ c.args.counts.inputs 256 w (c.fill.ensures.after (λ y h. h)) (length-take-le c.args.counts.inputs (replicate 256 false) (omega arith))
