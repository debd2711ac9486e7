use Rattle.std.proofs.Common.{refl, rules}
use Rattle.board.proofs.References.{ones_bit}
use Rattle.board.proofs.occurrences.gate_summary.Goals as goal

pub returns : goal.returns
returns c = λ below. record { inputs = c.inputs.ensures; outputs = refl; through = ones_bit; cells = search rules; depth = search rules; places = search rules; few_cells = search rules; shallow = search rules; few_places = search rules }
