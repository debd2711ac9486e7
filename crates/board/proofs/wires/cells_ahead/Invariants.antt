use Rattle.std.proofs.Common.{◌≡◌, ◌+◌, ◌*◌, ◌≤◌, drop}
use Rattle.rules.specs.Boards.{ahead}
use Rattle.board.specs.WireTables.{size_in}
use Rattle.board.proofs.wires.cells_ahead.Given as goal

abbrev pub invariant-loop-s : goal.invariant-loop-s
invariant-loop-s l = (l.at ≤ 65535 * l.s-index) × (l.at + ahead (size_in l.sizes) (drop l.s-index l.states) l.i ≡ ahead (size_in l.sizes) l.states l.i)
