use Rattle.std.proofs.Common.{◌≡◌, ℕ, ◌<◌, length, get_or}
use Rattle.rules.specs.Boards.{ahead}
use Rattle.board.specs.WireTables.{size_in}
use Rattle.board.proofs.wires.cell_starts.Given as goal

abbrev pub invariant-loop-i : goal.invariant-loop-i
invariant-loop-i l = (length l.start-items ≡ l.count) × ((j : ℕ) → j < l.i → get_or l.start-items j 0 ≡ ahead (size_in l.sizes) l.states j)
