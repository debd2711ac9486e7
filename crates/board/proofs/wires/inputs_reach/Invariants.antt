use Rattle.std.proofs.Common.{◌≡◌, ℕ, ◌^◌, ◌<◌, length, get_or}
use Rattle.board.proofs.wires.inputs_reach.Given as goal

abbrev pub invariant-loop-i : goal.invariant-loop-i
invariant-loop-i l = (length l.set-items ≡ l.fn.counts.inputs) × ((j : ℕ) → j < l.i → get_or l.set-items j 0 ≡ 2 ^ j)
