use Rattle.std.proofs.Common.{◌≡◌, ℕ, ◌+◌, ◌<◌, get_or}
use Rattle.walk.proofs.windows.open.Given as goal

abbrev pub invariant-loop-k : goal.invariant-loop-k
invariant-loop-k g l =
    let low = g.K.Signal.kind.low in
    ((j : ℕ) → j < l.k → get_or l.work (l.child + j) low ≡ get_or l.initial.work (l.base + get_or l.ins j 0) low)
    × ((j : ℕ) → j < l.child → get_or l.work j low ≡ get_or l.initial.work j low)
