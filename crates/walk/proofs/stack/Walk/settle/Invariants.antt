use Rattle.std.proofs.Common.{◌≡◌, ◌-◌, set}
use Rattle.flat.specs.Machine.{Machine}
use Rattle.board.specs.Lent.{board_in}
use Rattle.walk.specs.Levels.{placed}
use Rattle.walk.specs.Shown.{Later}
use Rattle.walk.specs.Walks.{last, ShownBy}
use Rattle.walk.proofs.stack.Walk.settle.Given as goal

-- the last level stands at the place, and the walk shows a later machine
abbrev pub invariant-loop-place : goal.invariant-loop-place
invariant-loop-place g l =
    let K = g.K.Signal.kind in
    let w = l.fn.self in
    let ls = set w.levels.now (w.depth - 1) (placed (last w) l.place) in
    record {
      levels : l.levels ≡ ls;
      later : (M : Machine g.row.K.Denot) → ShownBy K w M → Later K (board_in w.top.tables) w.cells.now l.work ls w.depth l.count M;
    }
