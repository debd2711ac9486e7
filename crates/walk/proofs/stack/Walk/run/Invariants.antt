use Rattle.std.proofs.Common.{◌≡◌}
use Rattle.flat.specs.Machine.{Machine, result}
use Rattle.board.specs.Lent.{board_in}
use Rattle.walk.specs.Shown.{left}
use Rattle.walk.specs.Walks.{ShownBy, SameMemory}
use Rattle.walk.proofs.stack.Walk.run.Given as goal

-- a machine that comes to the same is shown
abbrev pub invariant-loop-self : goal.invariant-loop-self
invariant-loop-self g l =
    let K = g.K.Signal.kind in
    record {
      same : SameMemory l.initial.self l.self;
      runs : (M : Machine g.row.K.Denot) → ShownBy K l.initial.self M → (N : Machine g.row.K.Denot) × ShownBy K l.self N × (result K N ≡ result K M);
    }

abbrev pub decreases-loop-self : goal.decreases-loop-self
decreases-loop-self g l = left (board_in l.self.top.tables) l.self.levels.now l.self.depth
